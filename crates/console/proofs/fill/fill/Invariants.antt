-- The loop's invariant: the rest of the sentence, with the numbers that are left, leaves what the whole sentence leaves.
use mathlib.Core.Path.{◌≡◌}
use Prim.Native.Nat.{◌≤◌}
use lib.ListN.{drop}
use Rattle.script_rules.specs.Blanks.{blanks_filled}
use Rattle.script_rules.specs.Feeding.{typed, lent_paper}
use Rattle.console.proofs.fill.fill.Given as goal

abbrev pub invariant-loop-b : goal.invariant-loop-b
invariant-loop-b l =
    (typed (lent_paper l.out l.end) (blanks_filled (drop l.b-index l.sentence) (drop l.k l.numbers))
    ≡ typed (lent_paper l.initial.out l.at) (blanks_filled l.sentence l.numbers))
    × (l.k ≤ l.b-index)
