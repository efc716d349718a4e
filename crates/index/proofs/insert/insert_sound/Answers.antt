-- A refusal leaves all as it is; else the tree grows by the slot and the journal by a line, as the model says.
use mathlib.Core.Path.{◌∙◌}
use Rattle.index.proofs.Room.{grown-is, appended-is}
use Rattle.index.proofs.Asking.{passed, kept, done, names_most, count-below, lines_most}
use Rattle.index.proofs.Inserting.{settled, joined, not_at}
use Rattle.index.proofs.insert.insert_sound.Goals as goal

pub returns-in_err-x : goal.returns-in_err-x
returns-in_err-x c =
    let a = c.args in
    rw (passed _ _ c.from_residual.ensures.1)
    (kept _ _ _ (settled a.floor _ a.hash a.key a.place) _ (not_at c.in_err-x.field-0.0) (c.in_err-x.ensures a.place))

pub returns : goal.returns
returns c =
    let a = c.args in
    let d = done _ _ _ (settled a.floor _ a.hash a.key a.place) _ (c.in_ok-x.ensures a.place) in
    joined a.floor _ _ _ _
    (c.grow.ensures ∙ grown-is _ (names_most d) _ _ _ _ _ (count-below d))
    (c.append.ensures ∙ appended-is _ _ (lines_most d))
    d.left
