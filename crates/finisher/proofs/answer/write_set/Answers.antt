-- It was stopped, or save has answered.
use mathlib.Core.Path.{refl}
use Rattle.std.specs.Prelude.{Ok, Err}
use Rattle.script_rules.specs.Feeding.{lent_paper}
use Rattle.set_rules.specs.Words.{lent_set}
use Rattle.mover.specs.Finished.{finish_of}
use Rattle.mover.proofs.Turns.{not_none}
use Rattle.finisher.proofs.Filing.{none_told, stop_written, save_written}
use Rattle.finisher.proofs.answer.write_set.Goals as goal

pub returns-in-Err : goal.returns-in-Err
returns-in-Err c =
    let a = c.args in
    let s = lent_set a.lengths.now a.bins.now a.heads.now a.names.now a.cells.now in
    let p = lent_paper a.text.now 0 in
    rw c.in-Err.is
    (stop_written (finish_of (Err c.in-Err.stop) s) a.out.now p (not_none c.in-Err.stop.refusal)
    (none_told a.out.now _ p c.tell_stop.ensures))

pub returns-in-Ok : goal.returns-in-Ok
returns-in-Ok c =
    let a = c.args in
    let s = lent_set a.lengths.now a.bins.now a.heads.now a.names.now a.cells.now in
    rw c.in-Ok.is
    (save_written (finish_of (Ok c.in-Ok.gone) s) a.out.now (lent_paper a.text.now 0) refl c.save.ensures (c.tell_saved.ensures _))
