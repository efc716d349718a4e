-- Each way out is a law of one visit; the depth falls with each call.
use mathlib.Core.Path.{sym}
use native.Mathlib.Omega.{arith}
use borrow.Author.Rules.{rules}
use Rattle.tree.proofs.Ruling.{level_bound}
use Rattle.night.proofs.Parts.{level-null, level_out, level_no_left, level_no_right, level_differ, level_red, level_black}
use Rattle.night.proofs.below.+blacks_below.Goals as goal

pub returns-then-i-eq-NULL : goal.returns-then-i-eq-NULL
returns-then-i-eq-NULL t c = level-null c.args.cells.now c.args.i c.args.depth c.if-i-eq-NULL.true

pub returns-then-depth-eq0 : goal.returns-then-depth-eq0
returns-then-depth-eq0 t c =
    level_out c.args.cells.now c.args.i c.args.depth c.if-i-eq-NULL.false c.if-depth-eq0.true

pub returns-in_err-a : goal.returns-in_err-a
returns-in_err-a t c = search (rules, level_no_left)

pub returns-in_err-b : goal.returns-in_err-b
returns-in_err-b t c = search (rules, level_no_right)

pub returns-then-a-b : goal.returns-then-a-b
returns-then-a-b t c =
    level_differ c.args.cells.now c.args.i c.args.depth c.if-i-eq-NULL.false c.if-depth-eq0.false c.get.ensures
    c.in_ok-a.ensures c.get-2.ensures c.in_ok-b.ensures c.if-a-b.true

pub returns-then-is_red : goal.returns-then-is_red
returns-then-is_red t c =
    level_red c.args.cells.now c.args.i c.args.depth c.if-i-eq-NULL.false c.if-depth-eq0.false c.get.ensures
    c.in_ok-a.ensures c.get-2.ensures c.in_ok-b.ensures c.if-a-b.false c.is_red.ensures c.if-is_red.true

pub overflow_add-result : goal.overflow_add-result
overflow_add-result t c =
    omega (arith, level_bound _ _ _ _ (sym c.in_ok-a.ensures), c.if-depth-eq0.false, c.ranges.depth)

pub returns : goal.returns
returns t c =
    level_black c.args.cells.now c.args.i c.args.depth c.if-i-eq-NULL.false c.if-depth-eq0.false c.get.ensures
    c.in_ok-a.ensures c.get-2.ensures c.in_ok-b.ensures c.if-a-b.false c.is_red.ensures c.if-is_red.false
