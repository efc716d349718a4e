-- The loop's invariant: the totals are those of the bin words so far.
use mathlib.Core.Path.{◌≡◌}
use mathlib.Core.List.{[]}
use Rattle.set_rules.specs.Words.{lent_set}
use Rattle.figure_rules.specs.Tally.{bins_tallied}
use Rattle.tally.proofs.add.add_bins.Given as goal

abbrev pub invariant-loop-word : goal.invariant-loop-word
invariant-loop-word l = l.totals ≡ bins_tallied (lent_set [] l.bins l.heads l.names []) l.word-index l.initial.totals
