-- A refusal leaves all as it is; else the journal takes the line of the removal and the slot goes, as the model says.
use mathlib.Core.Path.{◌∙◌}
use Rattle.index_rules.specs.Checked.{removes_sound}
use Rattle.index.proofs.Room.{shrunk-is, appended-is}
use Rattle.index.proofs.Asking.{passed, kept, done, names_most, lines_most}
use Rattle.index.proofs.Removing.{settled, left}
use Rattle.index.proofs.Presenting.{not_at}
use Rattle.index.proofs.remove.remove_sound.Goals as goal

pub returns-in_err-x : goal.returns-in_err-x
unfolding removes_sound
returns-in_err-x c =
    let a = c.args in
    rw (passed _ _ c.from_residual.ensures.1)
    (kept _ _ _ (settled _ a.hash a.key) _ (not_at c.in_err-x.field-0.0) (c.in_err-x.ensures _))

pub returns : goal.returns
unfolding removes_sound
returns c =
    let a = c.args in
    let d = done _ _ _ (settled _ a.hash a.key) _ (c.in_ok-x.ensures _) in
    left _ _ _ (c.note_removal.ensures _ _ ∙ appended-is _ _ (lines_most d))
    (c.shrink.ensures ∙ shrunk-is _ (names_most d) _) d.left
