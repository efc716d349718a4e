-- What the full check answers goes up, or the call is made where it has said yes.
use mathlib.Core.Path.{sym, ap, ◌∙◌}
use Rattle.slots.specs.Coded.{verdict}
use Rattle.index.specs.declared.rollback.RollbackRefusal.TheVariants.{Unfit}
use Rattle.index.proofs.Asking.{passed}
use Rattle.index.proofs.Singly.{rollback_unfit, rollback_damaged, rollback_goes}
use Rattle.index.proofs.rollback.rollback.Goals as goal

pub returns-in_err-sound_index : goal.returns-in_err-sound_index
returns-in_err-sound_index c =
    rw (passed Unfit _ c.from_residual.ensures.1) (rollback_unfit _ c.in_err-sound_index.ensures c.args.mark)

pub returns-then-not-branch : goal.returns-then-not-branch
returns-then-not-branch c =
    rollback_damaged _ (ap verdict (sym c.if-not-branch.true) ∙ c.in_ok-sound_index.ensures) c.args.mark

pub returns : goal.returns
returns c =
    rollback_goes _ (ap verdict (sym c.if-not-branch.false) ∙ c.in_ok-sound_index.ensures) c.args.mark c.rollback_sound.ensures
