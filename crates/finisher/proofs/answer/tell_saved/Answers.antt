-- Each answer of save has its line.
use mathlib.Core.Path.{ap}
use Rattle.script_rules.specs.Feeding.{Paper, lent_paper}
use Rattle.move_rules.specs.Printed.{saved_written, written_out}
use Rattle.finisher.proofs.Filing.{none_told, unsaved_written}
use Rattle.finisher.proofs.answer.tell_saved.Goals as goal

pub returns-in-Ok : goal.returns-in-Ok
unfolding saved_written
returns-in-Ok c = λ out. rw c.in-Ok.is (ap (λ (p : Paper). written_out c.in-Ok.bytes out p) c.fill-said.ensures)

pub returns-in-Err : goal.returns-in-Err
returns-in-Err c =
    let a = c.args in
    λ out. rw c.in-Err.is
    (unsaved_written a.gone out (lent_paper a.text.now 0) c.in-Err.refusal c.answer.ensures (none_told out _ _ c.tell_no.ensures))
