-- The loop's invariant: what is left of the calls decides the whole.
use mathlib.Core.Path.{◌≡◌}
use Rattle.index_rules.specs.Batch.{all_fit}
use Rattle.batch.proofs.calls.all_fit.Given as goal

abbrev pub invariant-loop-k : goal.invariant-loop-k
invariant-loop-k l = all_fit l.k l.calls ≡ all_fit l.m l.calls
