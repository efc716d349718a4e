-- A count, a word of four bytes, or a word of a slot.
use Rattle.file.proofs.Tables.{next-count, next_words, next_slot_lem}
use Rattle.file.proofs.loader.next_width.Goals as goal

pub returns-then-f-eq0 : goal.returns-then-f-eq0
returns-then-f-eq0 c = next-count _ _ c.if-f-eq0.true

pub returns-then-s-lt3 : goal.returns-then-s-lt3
returns-then-s-lt3 c =
    next_words _ _ c.if-f-eq0.false c.if-s-lt3.true

pub returns : goal.returns
returns c =
    next_slot_lem _ _ c.if-f-eq0.false c.if-s-lt3.false c.slot_width.ensures
