-- Each way out is a law of one visit; the depth falls with each call.
use native.Mathlib.Omega.{arith}
use Rattle.night.proofs.Parts.{held_fits, number_end, number_null, number_on}
use Rattle.night.proofs.below.+number_below.Goals as goal

pub returns-then-depth-eq0 : goal.returns-then-depth-eq0
returns-then-depth-eq0 t c = number_end c.args.cells.now c.args.i c.args.depth c.if-depth-eq0.true

pub returns-then-i-eq-NULL : goal.returns-then-i-eq-NULL
returns-then-i-eq-NULL t c =
    number_null c.args.cells.now c.args.i c.args.depth c.if-depth-eq0.false c.if-i-eq-NULL.true

pub overflow_add-a : goal.overflow_add-a
overflow_add-a t c = omega (arith, held_fits _ c.number_below-b.ensures, held_fits _ c.number_below-a.ensures)

pub overflow_add-a-2 : goal.overflow_add-a-2
overflow_add-a-2 t c = omega (arith, held_fits _ c.number_below-b.ensures, held_fits _ c.number_below-a.ensures)

pub returns : goal.returns
returns t c =
    number_on c.args.cells.now c.args.i c.args.depth c.if-depth-eq0.false c.if-i-eq-NULL.false c.get.ensures
    c.number_below-a.ensures c.get-2.ensures c.number_below-b.ensures c.held.ensures
