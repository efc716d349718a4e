-- A byte on top of fewer than four.
use native.Mathlib.Omega.{arith}
use Rattle.tally.proofs.Streaming.{sum_fits, product_fits}
use Rattle.tally.proofs.stream.with_byte.Goals as goal

pub overflow_mul-result : goal.overflow_mul-result
overflow_mul-result c =
    let a = c.args in
    omega (arith, product_fits a.got a.left a.byte c.requires.0 c.requires.1 (omega arith) c.unit.ensures)

pub overflow_add-result : goal.overflow_add-result
overflow_add-result c =
    let a = c.args in
    omega (arith, sum_fits a.got a.left a.byte c.requires.0 c.requires.1 (omega arith) c.unit.ensures)

pub returns : goal.returns
returns c = rw c.unit.ensures
