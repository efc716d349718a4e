-- The eleven writes are those of the definition.
use mathlib.Core.Path.{◌∙◌}
use Rattle.sets.specs.Cursors.{cursor_of}
use Rattle.exports.proofs.Keeping.{writes}
use Rattle.exports.proofs.cursor.write.Goals as goal

pub shape_of-words : goal.shape_of-words
shape_of-words c =
    c.put_word-11.auto.words ∙ c.put_word-10.auto.words ∙ c.put_word-9.auto.words ∙ c.put_word-8.auto.words ∙ c.put_word-7.auto.words
    ∙ c.put_word-6.auto.words ∙ c.put_word-5.auto.words ∙ c.put_word-4.auto.words ∙ c.put_word-3.auto.words ∙ c.put_word-2.auto.words
    ∙ c.put_word.auto.words

pub returns : goal.returns
returns c =
    let a = c.args in
    writes
    a.words.now
    (cursor_of a.cursor)
    c.put_word.ensures
    c.put_word-2.ensures
    c.put_word-3.ensures
    c.put_word-4.ensures
    c.put_word-5.ensures
    c.put_word-6.ensures
    c.put_word-7.ensures
    c.put_word-8.ensures
    c.put_word-9.ensures
    c.put_word-10.ensures
    c.put_word-11.ensures
