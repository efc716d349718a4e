-- Each way out closes by the words and the tests that led there.
use mathlib.Core.Path.{ap, ◌∙◌}
use Rattle.file.specs.Meanings.{load_note_of}
use Rattle.file.specs.Notes.{load_note_at_of, load_note_at}
use Rattle.exports.specs.Coded.{loader_at_of}
use Rattle.exports.proofs.Filing.{not_eight_words, no_load_note, has_load_note, loader_eight}
use Rattle.exports.proofs.files.read_loader.Goals as goal

pub returns-then-words-ne8 : goal.returns-then-words-ne8
returns-then-words-ne8 c = not_eight_words _ c.if-words-ne8.true

pub returns-in_err-note : goal.returns-in_err-note
returns-in_err-note c =
    ap loader_at_of c.from_residual.ensures
    ∙ no_load_note _ c.if-words-ne8.false (c.of_word.ensures ∙ ap load_note_at c.word.ensures) (ap load_note_at_of c.in_err-note.was)

pub returns : goal.returns
returns c =
    let w = c.args.words.now in
    has_load_note w c.if-words-ne8.false (c.of_word.ensures ∙ ap load_note_at c.word.ensures) (ap load_note_at_of c.in_ok-note.was)
    (loader_eight w (load_note_of c.in_ok-note.note) c.word-2.ensures c.word-3.ensures c.word-4.ensures c.word-5.ensures
    c.word-6.ensures c.word-7.ensures c.word-8.ensures)
