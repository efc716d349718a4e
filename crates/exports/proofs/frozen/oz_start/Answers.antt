-- A cursor of another length is refused; else the library starts a walk, and what it made is kept.
use mathlib.Core.Path.{ap, ◌∙◌}
use Rattle.word_rules.specs.Cursors.{started_cursor}
use Rattle.exports.proofs.Keeping.{short, long, start_kept}
use Rattle.slots.specs.Answers.{answer_word}
use Rattle.exports.proofs.frozen.oz_start.Goals as goal

pub returns-then-cursor-ne11 : goal.returns-then-cursor-ne11
unfolding started_cursor
returns-then-cursor-ne11 c = short _ c.if-cursor-ne11.true c.packed.ensures

pub returns : goal.returns
unfolding started_cursor
returns c =
    let a = c.args in
    long a.cursor.now c.if-cursor-ne11.false (c.answer_word-told.ensures ∙ ap answer_word c.answer.ensures)
    (start_kept c.start-started.result c.blank.ensures c.unwrap_or.ensures ∙ c.start-started.ensures) c.keep.ensures
