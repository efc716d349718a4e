-- Each way out closes by the words and the tests that led there.
use mathlib.Core.Path.{ap, ◌∙◌}
use Prim.Native.Nat.{ℕ, ◌-◌}
use Rattle.reader.specs.Meanings.{note_of}
use Rattle.reader.specs.Notes.{note_at_of, note_at}
use Rattle.exports.specs.Coded.{reader_at_of}
use Rattle.exports.proofs.Reading.{not_eight, not_marked, wide_mark, no_note, has_note, eight_read}
use Rattle.exports.proofs.uploads.read_words.Goals as goal

pub returns-then-words-ne8 : goal.returns-then-words-ne8
returns-then-words-ne8 c = not_eight _ c.if-words-ne8.true

pub returns-then-marked-eq0 : goal.returns-then-marked-eq0
returns-then-marked-eq0 c = not_marked _ c.if-words-ne8.false c.word-marked.ensures c.if-marked-eq0.true

pub returns-then-marked-gt4294967296 : goal.returns-then-marked-gt4294967296
returns-then-marked-gt4294967296 c =
    wide_mark _ c.if-words-ne8.false c.word-marked.ensures c.if-marked-eq0.false c.if-marked-gt4294967296.true

pub returns-in_err-note : goal.returns-in_err-note
returns-in_err-note c =
    ap reader_at_of c.from_residual.ensures
    ∙ no_note _ c.if-words-ne8.false c.word-marked.ensures c.if-marked-eq0.false c.if-marked-gt4294967296.false
    (c.of_word.ensures ∙ ap note_at c.word.ensures) (ap note_at_of c.in_err-note.was)

pub returns : goal.returns
returns c =
    let a = c.args in
    has_note a.words.now c.if-words-ne8.false c.word-marked.ensures c.if-marked-eq0.false c.if-marked-gt4294967296.false
    (c.of_word.ensures ∙ ap note_at c.word.ensures) (ap note_at_of c.in_ok-note.was)
    (eight_read a.words.now (note_of c.in_ok-note.note) c.word-2.ensures c.word-3.ensures c.word-4.ensures
    c.word-5.ensures c.word-6.ensures (ap (λ (x : ℕ). x - 1) c.word-marked.ensures) c.word-7.ensures)
