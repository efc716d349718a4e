-- What the full check answers goes up, or the call is made where it has said yes.
use mathlib.Core.Path.{sym, ap, ◌∙◌}
use Rattle.slots.specs.Coded.{verdict}
use Rattle.index.specs.declared.insert.InsertRefusal.TheVariants.{Unfit}
use Rattle.index.proofs.Asking.{passed}
use Rattle.index.proofs.Singly.{insert_unfit, insert_damaged, insert_goes}
use Rattle.index.proofs.insert.insert.Goals as goal

pub returns-in_err-sound_index : goal.returns-in_err-sound_index
returns-in_err-sound_index c =
    let a = c.args in
    rw (passed Unfit _ c.from_residual.ensures.1) (insert_unfit _ c.in_err-sound_index.ensures a.hash a.key a.place)

pub returns-then-not-branch : goal.returns-then-not-branch
returns-then-not-branch c =
    let a = c.args in
    insert_damaged _ (ap verdict (sym c.if-not-branch.true) ∙ c.in_ok-sound_index.ensures) a.hash a.key a.place

pub returns : goal.returns
returns c =
    let a = c.args in
    insert_goes _ (ap verdict (sym c.if-not-branch.false) ∙ c.in_ok-sound_index.ensures) a.hash a.key a.place
    c.insert_sound.ensures
