-- The three tests in a row are the model's; fit words bound the numbers of slots and headers.
use mathlib.Core.Path.{◌∙◌}
use native.Mathlib.Omega.{arith}
use Rattle.slots.proofs.Laws.{and-next}
use Rattle.set_rules.specs.Accepting.{accepted}
use Rattle.set_rules.proofs.Fit.{fits_fit}
use Rattle.sets.proofs.accept.is_accepted.Goals as goal

pub overflow_cast-n : goal.overflow_cast-n
overflow_cast-n c =
    let fit = fits_fit _ c.requires in
    omega (arith, fit.two, fit.slots_most)

pub overflow_cast-h : goal.overflow_cast-h
overflow_cast-h c =
    let fit = fits_fit _ c.requires in
    omega (arith, fit.three, fit.headers_most)

pub returns-then-headers_fine : goal.returns-then-headers_fine
unfolding accepted
returns-then-headers_fine c =
    rw (← c.slots_fine.ensures, ← c.all_held.ensures)
    (and-next _ c.if-slots_fine.branch-raw (λ w. (w.if-slots_fine.true, w.value-is ∙ w.headers_fine.ensures))
    (λ w. (w.if-slots_fine.false, w.value-is)) (rw c.if-headers_fine.true))

pub returns-else-headers_fine : goal.returns-else-headers_fine
unfolding accepted
returns-else-headers_fine c =
    rw (← c.slots_fine.ensures)
    (and-next _ c.if-slots_fine.branch-raw (λ w. (w.if-slots_fine.true, w.value-is ∙ w.headers_fine.ensures))
    (λ w. (w.if-slots_fine.false, w.value-is)) (rw c.if-headers_fine.false))
