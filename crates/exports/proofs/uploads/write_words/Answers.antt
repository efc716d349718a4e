-- Eight writes, one after another.
use mathlib.Core.Path.{◌∙◌}
use Rattle.exports.proofs.Reading.{eight_written}
use Rattle.reader.specs.Meanings.{words_of}
use Rattle.exports.proofs.uploads.write_words.Goals as goal

pub shape_of-words : goal.shape_of-words
shape_of-words c =
    c.put_word-8.auto.words ∙ c.put_word-7.auto.words ∙ c.put_word-6.auto.words ∙ c.put_word-5.auto.words ∙ c.put_word-4.auto.words
    ∙ c.put_word-3.auto.words ∙ c.put_word-2.auto.words
    ∙ c.put_word.auto.words

pub returns : goal.returns
returns c =
    let a = c.args in
    eight_written _ (words_of a.reader) c.put_word.ensures c.put_word-2.ensures c.put_word-3.ensures
    c.put_word-4.ensures c.put_word-5.ensures
    c.put_word-6.ensures
    c.put_word-7.ensures
    c.word.ensures
    c.put_word-8.ensures
