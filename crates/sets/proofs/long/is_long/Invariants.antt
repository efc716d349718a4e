-- The loop's invariant: the walk from here, with what is left, comes to what the whole walk comes to.
use mathlib.Core.Path.{◌≡◌}
use Prim.Native.Nat.{◌<◌, ◌≤◌, ◌^◌}
use Rattle.sets.specs.Lists.{runs_over}
use Rattle.sets.proofs.long.is_long.Given as goal

abbrev pub invariant-loop-x : goal.invariant-loop-x
invariant-loop-x l = (runs_over l.left l.cells l.x ≡ runs_over 64 l.cells l.first) × (l.x < 2 ^ 32) × (l.left ≤ 64)

abbrev pub decreases-loop-x : goal.decreases-loop-x
decreases-loop-x l = l.left
