-- Words that say no reader are refused; else the library reads on, and the reader is written back.
use mathlib.Core.Path.{ap, ◌∙◌}
use Rattle.slots.specs.Answers.{answer_word}
use Rattle.exports.proofs.Reading.{chunk_none, chunk_some}
use Rattle.exports.specs.Coded.{reader_at_of}
use Rattle.exports.proofs.uploads.oz_read_chunk.Goals as goal

pub returns-in_default : goal.returns-in_default
returns-in_default c =
    chunk_none _ _ c.read_words.ensures _ (ap reader_at_of c.in_default.is) c.packed.ensures

pub returns : goal.returns
returns c =
    chunk_some _ _ c.read_words.ensures (ap reader_at_of c.in-Some.is)
    (c.answer_word.ensures ∙ ap answer_word c.answer.ensures) c.write_words.ensures _ c.chunk-read.ensures
