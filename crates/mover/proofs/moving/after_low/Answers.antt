-- A header is no null, so there is a number after it.
use native.Mathlib.Omega.{arith}
use Rattle.mover.proofs.moving.after_low.Goals as goal

pub overflow_add-result : goal.overflow_add-result
overflow_add-result c = omega (arith, rw c.in-Some.is at c.requires)
