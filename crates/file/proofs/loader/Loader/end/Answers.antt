-- Where it may go on, what is noted is given again, and else the set is judged.
use mathlib.Core.Path.{ap, sym}
use Rattle.upload_rules.specs.Reader.{Note, note_answer}
use Rattle.file_rules.specs.Loader.{taken_of}
use Rattle.set_rules.specs.Words.{lent_set}
use Rattle.file_rules.specs.Loading.{loading}
use Rattle.file.specs.Meanings.{load_note_of, loader_words}
use Rattle.file.proofs.Stepping.{goes, end_unfit, end_noted, end_done, end_fit}
use Rattle.file.proofs.loader.Loader.end.Goals as goal

pub returns-then-not-may : goal.returns-then-not-may
returns-then-not-may c =
    let a = c.args in
    let s = lent_set a.lengths.now a.bins.now a.heads.now a.names.now a.cells.now in
    end_unfit (loading (loader_words a.self) s) c.may_go_on-may.ensures c.if-not-may.true

pub returns-in-Some : goal.returns-in-Some
returns-in-Some c =
    let a = c.args in
    let s = lent_set a.lengths.now a.bins.now a.heads.now a.names.now a.cells.now in
    end_noted (loading (loader_words a.self) s) c.may_go_on-may.ensures c.if-not-may.false
    (ap load_note_of c.in-Some.is)
    (ap (λ (n : Note). note_answer n (taken_of (loader_words a.self))) (sym (ap load_note_of c.in-Some.is)))

pub judge_end-loader-requires : goal.judge_end-loader-requires
judge_end-loader-requires c =
    let a = c.args in
    let s = lent_set a.lengths.now a.bins.now a.heads.now a.names.now a.cells.now in
    let h = goes (loading (loader_words a.self) s) c.may_go_on-may.ensures c.if-not-may.false in
    (h.fit, h.room (ap load_note_of c.in_default.is))

pub reply_of-reply-requires : goal.reply_of-reply-requires
reply_of-reply-requires c =
    let a = c.args in
    let s = lent_set a.lengths.now a.bins.now a.heads.now a.names.now a.cells.now in
    end_fit (loading (loader_words a.self) s) c.may_go_on-may.ensures c.if-not-may.false
    (ap load_note_of c.in_default.is) c.judge_end-loader.ensures

pub returns : goal.returns
returns c =
    let a = c.args in
    let s = lent_set a.lengths.now a.bins.now a.heads.now a.names.now a.cells.now in
    end_done (loading (loader_words a.self) s) c.may_go_on-may.ensures c.if-not-may.false
    (ap load_note_of c.in_default.is) c.judge_end-loader.ensures c.reply_of-reply.ensures
