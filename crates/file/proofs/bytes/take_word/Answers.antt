-- The count, or a word of the section.
use native.Mathlib.Omega.{arith}
use Rattle.set_rules.specs.Words.{lent_set}
use Rattle.file.specs.Meanings.{loader_words}
use Rattle.file.proofs.Ranging.{fit_small, words_most}
use Rattle.file.proofs.Bytewise.{word_count, word-put, word_width}
use Rattle.file.proofs.bytes.take_word.Goals as goal

pub take_count-requires : goal.take_count-requires
take_count-requires c =
    (c.requires.0, c.requires.1)

pub returns-then-f-eq0 : goal.returns-then-f-eq0
returns-then-f-eq0 c =
    let a = c.args in
    let s = lent_set a.lengths.now a.bins.now a.heads.now a.names.now a.cells.now in
    word_count (loader_words c.args.r) s c.requires.1 c.requires.0 _ _ c.if-f-eq0.true c.take_count.ensures

pub put_field-requires : goal.put_field-requires
put_field-requires c =
    let a = c.args in
    let s = lent_set a.lengths.now a.bins.now a.heads.now a.names.now a.cells.now in (
      omega (arith, c.requires.2, words_most (loader_words c.args.r) c.requires.0),
      word_width (loader_words c.args.r) s
          c.requires.1 c.requires.0 _ _ c.if-f-eq0.false c.requires.3,
    )

pub overflow_add-f : goal.overflow_add-f
overflow_add-f c =
    omega (arith, c.requires.2, words_most (loader_words c.args.r) c.requires.0)

pub after_words-requires : goal.after_words-requires
after_words-requires c = (
  c.requires.1,
  omega (arith, c.requires.2, words_most (loader_words c.args.r) c.requires.0),
  fit_small (loader_words c.args.r) c.requires.0 c.args.r.section,
)

pub returns : goal.returns
returns c =
    let a = c.args in
    let s = lent_set a.lengths.now a.bins.now a.heads.now a.names.now a.cells.now in
    word-put (loader_words c.args.r) s c.requires.1 c.requires.0 _ _ c.if-f-eq0.false c.put_field.ensures c.after_words.ensures
