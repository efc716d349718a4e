-- The loop's invariant: the totals are those of the slots so far.
use mathlib.Core.Path.{◌≡◌}
use Rattle.set_rules.specs.Words.{lent_set}
use Rattle.figure_rules.specs.Tally.{slots_tallied}
use Rattle.tally.proofs.add.add_slots.Given as goal

abbrev pub invariant-loop-x : goal.invariant-loop-x
invariant-loop-x l = l.totals ≡ slots_tallied (lent_set l.lengths l.bins l.heads l.names l.cells) l.x l.initial.totals
