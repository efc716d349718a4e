-- The set is finished, or the number of the refusal is told.
use mathlib.Core.Path.{refl, ap, sym, ◌∙◌}
use Rattle.script_rules.specs.Feeding.{lent_paper}
use Rattle.set_rules.specs.Words.{lent_set}
use Rattle.file.specs.Meanings.{load_reply_of, loaded_of}
use Rattle.finisher.proofs.Filing.{none_told, refused_load, no_written, set-written}
use Rattle.finisher.proofs.answer.finish_loaded.Goals as goal

pub returns-in-Err : goal.returns-in-Err
returns-in-Err c =
    let a = c.args in
    let s = lent_set a.lengths.now a.bins.now a.heads.now a.names.now a.cells.now in
    let p = lent_paper a.text.now 0 in
    no_written (loaded_of a.load s) a.out.now (c.answer.ensures ∙ ap load_reply_of (sym c.in-Err.is)) p
    (refused_load c.in-Err.refusal c.answer.ensures)
    (none_told a.out.now _ p c.tell_no.ensures)

pub returns-in-Ok : goal.returns-in-Ok
returns-in-Ok c =
    let a = c.args in
    let s = lent_set a.lengths.now a.bins.now a.heads.now a.names.now a.cells.now in
    set-written (loaded_of a.load s) a.out.now (ap load_reply_of (sym c.in-Ok.is)) (lent_paper a.text.now 0) refl c.finish_cut.ensures
