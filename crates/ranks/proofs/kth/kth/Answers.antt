-- The full check's answer settles the tests; then the count decides, and the way down.
use Rattle.std.proofs.Common.{sym, ap, ◌∙◌, arith}
use Rattle.slots.specs.Coded.{verdict}
use Rattle.index.proofs.Asking.{passed}
use Rattle.ranks.specs.declared.kth.KthRefusal.TheVariants.{Unfit}
use Rattle.ranks.proofs.Calls.{few, kth_unfit, kth_damaged, kth_out, kth_at}
use Rattle.ranks.proofs.kth.kth.Goals as goal

pub returns-in_err-sound : goal.returns-in_err-sound
returns-in_err-sound c = rw (passed Unfit _ c.from_residual.ensures.1) (kth_unfit _ _ c.in_err-sound.ensures)

pub returns-then-not-branch : goal.returns-then-not-branch
returns-then-not-branch c = kth_damaged _ _ (ap verdict (sym c.if-not-branch.true) ∙ c.in_ok-sound.ensures)

pub returns-then-count-k : goal.returns-then-count-k
returns-then-count-k c =
    kth_out _ _ (ap verdict (sym c.if-not-branch.false) ∙ c.in_ok-sound.ensures) c.word-count.ensures c.if-count-k.true

pub overflow_cast-names : goal.overflow_cast-names
overflow_cast-names c =
    omega (arith, few _ (ap verdict (sym c.if-not-branch.false) ∙ c.in_ok-sound.ensures))

pub returns : goal.returns
returns c =
    kth_at _ _ (ap verdict (sym c.if-not-branch.false) ∙ c.in_ok-sound.ensures) c.word-count.ensures c.if-count-k.false c.word-root.ensures
    c.kth_slot.ensures
