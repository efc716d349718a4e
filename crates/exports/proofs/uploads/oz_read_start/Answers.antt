-- A reader of another length is refused; else the library starts, and what it made is written where it is accepted.
use mathlib.Core.Path.{ap, sym, ◌∙◌}
use Rattle.slots.specs.Answers.{answer_word}
use Rattle.upload_rules.specs.Reading.{ReadOutcome}
use Rattle.exports.proofs.Reading.{start_short, start_kept, start_made, refused_high, started_low}
use Rattle.exports.proofs.uploads.oz_read_start.Goals as goal

pub returns-then-reader-ne8 : goal.returns-then-reader-ne8
returns-then-reader-ne8 c = start_short _ _ c.if-reader-ne8.true c.packed.ensures

pub returns-then-is_ok : goal.returns-then-is_ok
returns-then-is_ok c =
    let told = c.answer_word-told.ensures ∙ ap answer_word c.answer.ensures in
    let low =
    started_low _ c.start-started.result.reply (ap (λ (o : ReadOutcome). o.answer) c.start-started.ensures)
    (sym c.if-is_ok.true ∙ c.is_ok.ensures.value) in
    start_made _ _ c.if-reader-ne8.false c.start-started.ensures told (rw told low) c.write_words.ensures

pub returns-else-is_ok : goal.returns-else-is_ok
returns-else-is_ok c =
    let told = c.answer_word-told.ensures ∙ ap answer_word c.answer.ensures in
    let high = refused_high c.start-started.result.reply (sym c.if-is_ok.false ∙ c.is_ok.ensures.value) in
    start_kept _ _ c.if-reader-ne8.false c.start-started.ensures told (rw told high)
