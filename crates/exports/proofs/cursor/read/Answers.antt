-- The eleven words in their order.
use Rattle.exports.proofs.Keeping.{reads}
use Rattle.exports.proofs.cursor.read.Goals as goal

pub returns : goal.returns
returns c =
    reads c.args.words.now c.word-base.ensures c.word-depth.ensures c.word.ensures c.word-2.ensures
    c.word-3.ensures c.word-4.ensures c.word-5.ensures c.word-6.ensures c.word-7.ensures c.word-8.ensures
    c.word-last.ensures
