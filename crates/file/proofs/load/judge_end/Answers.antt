-- Short, or as acceptance judges.
use mathlib.Core.Path.{ap, sym, ◌∙◌}
use Prim.Native.Nat.{ℕ}
use Rattle.set_rules.specs.Words.{lent_set}
use Rattle.slots.specs.Coded.{verdict}
use Rattle.sets.specs.Verdicts.{accept_of}
use Rattle.slots.specs.Answers.{given}
use Rattle.file_rules.specs.Loader.{note_in}
use Rattle.file.specs.Meanings.{loader_words}
use Rattle.file.proofs.Stepping.{judged_short, judged_yes, judged_no, judged_unfit}
use Rattle.file.proofs.load.judge_end.Goals as goal

pub returns-then-r-ne4 : goal.returns-then-r-ne4
returns-then-r-ne4 c =
    let a = c.args in
    let s = lent_set a.lengths.now a.bins.now a.heads.now a.names.now a.cells.now in
    judged_short (loader_words a.r) s c.if-r-ne4.true c.refuse.ensures

pub judge-requires : goal.judge-requires
judge-requires c =
    (c.requires.0, c.requires.1)

pub clear_rests-requires : goal.clear_rests-requires
clear_rests-requires c =
    c.requires.0

pub taken_of-bytes-requires : goal.taken_of-bytes-requires
taken_of-bytes-requires c =
    c.requires.0

pub returns-in-Ok-true : goal.returns-in-Ok-true
returns-in-Ok-true c =
    let a = c.args in
    let s = lent_set a.lengths.now a.bins.now a.heads.now a.names.now a.cells.now in
    judged_yes (loader_words a.r) s c.if-r-ne4.false
    (ap verdict (sym c.in-Ok-true.field-0-test) ∙ ap accept_of (sym c.in-Ok-true.is) ∙ c.judge.ensures)
    c.clear_rests.ensures
    (c.note_in.ensures ∙ ap (λ (n : ℕ). note_in (loader_words a.r) (given n)) c.taken_of-bytes.ensures)

pub returns-in-Ok-false : goal.returns-in-Ok-false
returns-in-Ok-false c =
    let a = c.args in
    let s = lent_set a.lengths.now a.bins.now a.heads.now a.names.now a.cells.now in
    judged_no (loader_words a.r) s c.if-r-ne4.false
    (ap verdict (sym c.in-Ok-false.field-0-test) ∙ ap accept_of (sym c.in-Ok-false.is) ∙ c.judge.ensures)
    c.refuse-in-Ok-false.ensures

pub returns-in-Err : goal.returns-in-Err
returns-in-Err c =
    let a = c.args in
    let s = lent_set a.lengths.now a.bins.now a.heads.now a.names.now a.cells.now in
    judged_unfit (loader_words a.r) s c.if-r-ne4.false (ap accept_of (sym c.in-Err.is) ∙ c.judge.ensures)
    c.refuse-in-Err.ensures
