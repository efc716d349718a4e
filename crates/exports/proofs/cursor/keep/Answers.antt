-- The word says whether the cursor is written.
use borrow.Author.Tests.{lt-ltb, le-ltb}
use Rattle.word_rules.specs.Cursors.{left_in}
use Rattle.exports.proofs.cursor.keep.Goals as goal

pub returns-then-told-lt4294967296 : goal.returns-then-told-lt4294967296
unfolding left_in
returns-then-told-lt4294967296 c =
    rw (lt-ltb _ _ c.if-told-lt4294967296.true) c.write.ensures

pub returns-else-told-lt4294967296 : goal.returns-else-told-lt4294967296
unfolding left_in
returns-else-told-lt4294967296 c = rw (le-ltb _ _ c.if-told-lt4294967296.false)
