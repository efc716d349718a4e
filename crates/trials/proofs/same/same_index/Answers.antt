-- The five slices compared in a row are the model's.
use mathlib.Core.Path.{◌∙◌}
use Rattle.slots.proofs.Laws.{and-next}
use Rattle.trials.specs.Comparing.{same_index}
use Rattle.trials.proofs.Comparing.{same_pointwise}
use Rattle.trials.proofs.same.same_index.Goals as goal

pub returns-then-eq-4 : goal.returns-then-eq-4
unfolding same_index
returns-then-eq-4 c =
    let n = c.eq.ensures ∙ same_pointwise c.args.names.now c.args.oldnames.now in
    let l = c.eq-then-eq-4.ensures ∙ same_pointwise c.args.lines.now c.args.oldlines.now in
    rw (← n, ← l)
    (and-next _ c.if-eq.branch-raw
    (λ w. (w.if-eq.true, w.value-is ∙ w.eq-then-eq.ensures ∙ same_pointwise c.args.cells.now c.args.oldcells.now))
    (λ w. (w.if-eq.false, w.value-is))
    (and-next _ c.if-eq-2.branch-raw
    (λ w. (w.if-eq-2.true, w.value-is ∙ w.eq-then-eq-2.ensures ∙ same_pointwise c.args.head.now c.args.oldhead.now))
    (λ w. (w.if-eq-2.false, w.value-is))
    (and-next _ c.if-eq-3.branch-raw
    (λ w. (w.if-eq-3.true, w.value-is ∙ w.eq-then-eq-3.ensures ∙ same_pointwise c.args.sizes.now c.args.oldsizes.now))
    (λ w. (w.if-eq-3.false, w.value-is)) (rw c.if-eq-4.true))))

pub returns-else-eq-4 : goal.returns-else-eq-4
unfolding same_index
returns-else-eq-4 c =
    let n = c.eq.ensures ∙ same_pointwise c.args.names.now c.args.oldnames.now in
    rw (← n)
    (and-next _ c.if-eq.branch-raw
    (λ w. (w.if-eq.true, w.value-is ∙ w.eq-then-eq.ensures ∙ same_pointwise c.args.cells.now c.args.oldcells.now))
    (λ w. (w.if-eq.false, w.value-is))
    (and-next _ c.if-eq-2.branch-raw
    (λ w. (w.if-eq-2.true, w.value-is ∙ w.eq-then-eq-2.ensures ∙ same_pointwise c.args.head.now c.args.oldhead.now))
    (λ w. (w.if-eq-2.false, w.value-is))
    (and-next _ c.if-eq-3.branch-raw
    (λ w. (w.if-eq-3.true, w.value-is ∙ w.eq-then-eq-3.ensures ∙ same_pointwise c.args.sizes.now c.args.oldsizes.now))
    (λ w. (w.if-eq-3.false, w.value-is)) (rw c.if-eq-4.false))))
