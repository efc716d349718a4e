-- The five numbers are those of the line.
use mathlib.Core.Path.{ap, ◌∙◌}
use Rattle.set_rules.specs.Words.{lent_set}
use Rattle.script_rules.specs.Feeding.{typed}
use Rattle.listing.proofs.Lining.{counts_told}
use Rattle.listing.proofs.lines.tell_counts.Goals as goal

pub returns : goal.returns
returns c =
    let a = c.args in
    let s = lent_set a.lengths.now a.bins.now a.heads.now a.names.now a.cells.now in
    c.fill.ensures ∙ ap (typed _) (counts_told s c.used_slots-entries.ensures)
