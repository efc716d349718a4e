-- The loop's invariant: the sum is what the tables so far have, at most 2 ^ 32 - 1 each. Past the last table nothing is added.
use mathlib.Core.Path.{◌≡◌}
use Prim.Native.Nat.{◌*◌, ◌≤◌}
use Rattle.set_rules.specs.Words.{bins_before}
use Rattle.sets.proofs.fit.bins_before.Given as goal

abbrev pub invariant-loop-length : goal.invariant-loop-length
invariant-loop-length l = (l.sum ≡ bins_before l.lengths l.length-index) × (l.sum ≤ 4294967295 * l.length-index)
