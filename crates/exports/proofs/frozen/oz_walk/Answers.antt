-- A cursor of another length is refused; else the library takes a step, and the new cursor is kept.
use mathlib.Core.Path.{ap, ◌∙◌}
use Rattle.set_rules.specs.Walk.{nexts}
use Rattle.word_rules.specs.Cursors.{walked_cursor}
use Rattle.exports.proofs.Keeping.{short, long}
use Rattle.slots.specs.Answers.{answer_word}
use Rattle.exports.proofs.frozen.oz_walk.Goals as goal

pub returns-then-cursor-ne11 : goal.returns-then-cursor-ne11
unfolding walked_cursor
returns-then-cursor-ne11 c = short _ c.if-cursor-ne11.true c.packed.ensures

pub returns : goal.returns
unfolding walked_cursor
returns c =
    let a = c.args in
    long a.cursor.now c.if-cursor-ne11.false (c.answer_word-told.ensures ∙ ap answer_word c.answer.ensures)
    (c.next-step.ensures ∙ ap (nexts _) c.read-at.ensures) c.keep.ensures
