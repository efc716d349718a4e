-- The loop's invariant: the words up to here are in their ranges exactly if all are.
use mathlib.Core.Path.{◌≡◌}
use Rattle.figure_rules.specs.Totals.{words_fit}
use Rattle.tally.proofs.totals.words_fit.Given as goal

abbrev pub invariant-loop-j : goal.invariant-loop-j
invariant-loop-j l = words_fit l.j l.totals ≡ words_fit 37 l.totals
