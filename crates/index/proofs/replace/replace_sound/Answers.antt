-- A refusal leaves all as it is; else the slot has the new place and the journal takes a line with both, as the model says.
use mathlib.Core.Path.{◌∙◌}
use Rattle.index_rules.specs.Checked.{replaces_sound}
use Rattle.index.proofs.Room.{appended-is}
use Rattle.index.proofs.Asking.{passed, kept, done, lines_most}
use Rattle.index.proofs.Replacing.{settled, moved}
use Rattle.index.proofs.Presenting.{not_at}
use Rattle.index.proofs.replace.replace_sound.Goals as goal

pub returns-in_err-x : goal.returns-in_err-x
unfolding replaces_sound
returns-in_err-x c =
    let a = c.args in
    rw (passed _ _ c.from_residual.ensures.1)
    (kept _ _ _ (settled _ a.hash a.key a.place) _ (not_at c.in_err-x.field-0.0) (c.in_err-x.ensures _))

pub returns : goal.returns
unfolding replaces_sound
returns c =
    let a = c.args in
    let d =
    done _ _ _ (settled _ a.hash a.key a.place) _ (c.in_ok-x.ensures _) in
    moved _ _ _ _
    c.get-old.ensures
    c.put.ensures
    c.both_places.ensures
    (c.append.ensures ∙ appended-is _ _ (lines_most d))
    d.left
