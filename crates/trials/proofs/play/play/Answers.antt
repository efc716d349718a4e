use native.Mathlib.Omega.{arith}
use lib.ListN.{length-take}
use mathlib.Core.Path.{◌≡◌, refl, ap, sym, ◌∙◌}
use Rattle.trials.specs.Playing.{all_same}
use Rattle.trials.proofs.Steps.{left_start, left_over, left_other, left_stuck, left_on}
use borrow.Author.Rules.{rules}
use Rattle.trials.proofs.play.play.Goals as goal

pub loop-at-init : goal.loop-at-init
loop-at-init c =
    let a = c.args in (
      left_start a.cut a.expected.now a.input.now _ _ c.blank-kept.ensures,
      search rules,
      search rules,
      search rules,
      search rules,
      search rules,
      search rules,
      search rules,
      search rules,
    )

pub slice_bounds-agrees-end-in-loop-at : goal.slice_bounds-agrees-end-in-loop-at
slice_bounds-agrees-end-in-loop-at c =
    simp length-take (omega (arith, c.feed_first-fed.ensures.bounds.0))

pub returns-in_err-met : goal.returns-in_err-met
returns-in_err-met c =
    let a = c.args in
    let h : c.agrees.result ≡ c.from_residual.result = search rules in
    left_other a.cut a.expected.now a.input.now c.loop-at.at c.loop-at.said _ c.loop-at.invariant.0
    c.loop-at-test.true c.feed_first-fed.ensures.out_after (sym h ∙ c.agrees.ensures) (ap all_same (sym h ∙ c.in_err-met.was))

pub returns-then-fed-eq0 : goal.returns-then-fed-eq0
returns-then-fed-eq0 c =
    let a = c.args in
    left_stuck a.cut a.expected.now a.input.now c.loop-at.at c.loop-at.said _ c.loop-at.invariant.0
    c.loop-at-test.true c.feed_first-fed.ensures.out_after (sym (c.in_ok-met.was) ∙ c.agrees.ensures) refl c.if-fed-eq0.true

pub loop-at-preserved : goal.loop-at-preserved
loop-at-preserved c =
    let a = c.args in (
      left_on a.cut a.expected.now a.input.now c.loop-at.at c.loop-at.said _ c.loop-at.invariant.0 c.loop-at-test.true
          c.feed_first-fed.ensures.out_after (sym (c.in_ok-met.was) ∙ c.agrees.ensures) refl (omega (arith, c.if-fed-eq0.false)),
      omega (arith, simp length-take at c.feed_first-fed.ensures.bounds.1),
      search rules,
      omega (arith, c.loop-at.invariant, c.names-1.given),
      omega (arith, c.loop-at.invariant, c.cells-1.given),
      omega (arith, c.loop-at.invariant, c.head-1.given),
      omega (arith, c.loop-at.invariant, c.sizes-1.given),
      omega (arith, c.loop-at.invariant, c.lines-1.given),
      omega (arith, c.loop-at.invariant, c.out-1.given),
    )

pub slice_bounds-agrees-end-3 : goal.slice_bounds-agrees-end-3
slice_bounds-agrees-end-3 c =
    simp length-take (omega (arith, c.finish-last.ensures.bounds))

pub returns : goal.returns
returns c =
    let a = c.args in
    left_over a.cut a.expected.now a.input.now c.loop-at.at c.loop-at.said _ c.loop-at.invariant.0
    c.loop-at-test.false c.finish-last.ensures.out_after c.agrees-2.ensures
