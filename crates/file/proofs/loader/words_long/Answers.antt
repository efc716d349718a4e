-- Words of four bytes, or whole slots and a part of one.
use native.Mathlib.Omega.{arith}
use Rattle.file.proofs.Tables.{long_words, long_slots}
use Rattle.file.proofs.loader.words_long.Goals as goal

pub returns-then-s-lt3 : goal.returns-then-s-lt3
returns-then-s-lt3 c = (long_words _ _ c.if-s-lt3.true, omega arith)

pub returns : goal.returns
returns c =
    (rw c.slot_long.ensures.0 (long_slots _ _ c.if-s-lt3.false), omega (arith, c.slot_long.ensures.1))
