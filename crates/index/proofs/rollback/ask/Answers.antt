-- The tests in the rules' order settle the model's, and the answer is the one that they come to.
use mathlib.Core.Path.{sym, ap, ◌∙◌}
use native.Mathlib.Omega.{arith}
use Rattle.slots.specs.Coded.{verdict}
use Rattle.index.specs.declared.rollback.RollbackRefusal.TheVariants.{Unfit}
use Rattle.index.proofs.Asking.{passed}
use Rattle.index.proofs.Rolling.{unfit, damaged, few_lines, bad_mark_lem, good_mark}
use Rattle.index.proofs.rollback.ask.Goals as goal

pub returns-in_err-taken_as_sound : goal.returns-in_err-taken_as_sound
returns-in_err-taken_as_sound c =
    rw (passed Unfit _ c.from_residual.ensures.1) (unfit _ _ c.in_err-taken_as_sound.ensures)

pub returns-then-not-branch : goal.returns-then-not-branch
returns-then-not-branch c = damaged _ _ (ap verdict (sym c.if-not-branch.true) ∙ c.in_ok-taken_as_sound.ensures)

pub returns-then-length-mark : goal.returns-then-length-mark
returns-then-length-mark c =
    bad_mark_lem _ _ (ap verdict (sym c.if-not-branch.false) ∙ c.in_ok-taken_as_sound.ensures) c.length_of-length.ensures
    c.if-length-mark.true

pub overflow_cast-result-2 : goal.overflow_cast-result-2
overflow_cast-result-2 c =
    let y = ap verdict (sym c.if-not-branch.false) ∙ c.in_ok-taken_as_sound.ensures in
    omega (arith, few_lines _ 0 y c.length_of-length.ensures)

pub returns : goal.returns
returns c =
    good_mark _ _ (ap verdict (sym c.if-not-branch.false) ∙ c.in_ok-taken_as_sound.ensures) c.length_of-length.ensures
    c.if-length-mark.false
