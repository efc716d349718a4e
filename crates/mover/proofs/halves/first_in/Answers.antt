-- A list's head, or the first of a tree's header.
use mathlib.Core.Path.{ap, sym, ◌∙◌}
use Rattle.sets.specs.Bins.{bin_as}
use Rattle.sets.specs.declared.bin.Bin.{Bin}
use Rattle.move_rules.specs.Moving.{first_in}
use Rattle.mover.proofs.halves.first_in.Goals as goal

pub returns-in-Tree : goal.returns-in-Tree
returns-in-Tree c =
    c.word.ensures ∙ ap (λ (b : Bin). first_in c.args.heads.now (bin_as b)) (sym c.in-Tree.is)
