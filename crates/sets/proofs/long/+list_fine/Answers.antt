-- Each way out is a law of the model: a short list, one of more visits than slots, a long one.
use mathlib.Core.Path.{sym, ap, ◌∙◌}
use native.Mathlib.Omega.{arith}
use Rattle.tree.specs.Rules.{rest_of}
use Rattle.sets.proofs.Hanging.{small}
use Rattle.sets.proofs.Sparing.{spare_wrong, spare_left}
use Rattle.sets.proofs.long.+list_fine.Goals as goal

pub returns-in_err-left : goal.returns-in_err-left
returns-in_err-left t c =
    let a = c.args in
    rw c.from_residual.ensures
    (spare_wrong a.names.now a.cells.now (small a.names.now c.if-names-gt-MOST_NAMES.false)
    a.bins a.i a.first a.visits (omega (arith, c.if-n-visits.true))
    (ap rest_of (sym c.in_err-left.was) ∙ c.list_fine.ensures))

pub overflow_add-result : goal.overflow_add-result
overflow_add-result t c =
    let a = c.args in
    let s = spare_left a.names.now a.cells.now (small a.names.now c.if-names-gt-MOST_NAMES.false)
    a.bins a.i a.first a.visits (omega (arith, c.if-n-visits.true)) (ap rest_of (sym c.in_ok-left.was) ∙ c.list_fine.ensures) in
    omega (arith, s.0)

pub returns-then-n-visits : goal.returns-then-n-visits
returns-then-n-visits t c =
    let a = c.args in
    let s = spare_left a.names.now a.cells.now (small a.names.now c.if-names-gt-MOST_NAMES.false)
    a.bins a.i a.first a.visits (omega (arith, c.if-n-visits.true)) (ap rest_of (sym c.in_ok-left.was) ∙ c.list_fine.ensures) in
    s.1
