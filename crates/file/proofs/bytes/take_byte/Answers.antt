-- Past the last section, amid a word, or its last byte.
use mathlib.Core.Path.{refl}
use native.Mathlib.Omega.{arith}
use Rattle.set_rules.specs.Words.{lent_set}
use Rattle.file.specs.Meanings.{loader_words}
use Rattle.file.proofs.Ranging.{words_most}
use Rattle.file.proofs.Bytewise.{byte_long, byte_waits, byte_comes, word_small}
use Rattle.file.proofs.bytes.take_byte.Goals as goal

pub returns-then-r-eq4 : goal.returns-then-r-eq4
returns-then-r-eq4 c =
    let a = c.args in
    let s = lent_set a.lengths.now a.bins.now a.heads.now a.names.now a.cells.now in
    byte_long (loader_words c.args.r) s _ c.if-r-eq4.true c.refuse.ensures

pub with_byte-part-requires : goal.with_byte-part-requires
with_byte-part-requires c =
    c.requires

pub overflow_add-r-then-r-width : goal.overflow_add-r-then-r-width
overflow_add-r-then-r-width c =
    omega (arith, words_most (loader_words c.args.r) c.requires)

pub returns-then-r-width : goal.returns-then-r-width
returns-then-r-width c =
    let a = c.args in
    let s = lent_set a.lengths.now a.bins.now a.heads.now a.names.now a.cells.now in
    byte_waits (loader_words c.args.r) s _ c.if-r-eq4.false c.next_width-width.ensures c.with_byte-part.ensures c.if-r-width.true
    c.loader_at.ensures

pub take_word-requires : goal.take_word-requires
take_word-requires c = (
  c.requires,
  omega (arith, c.requires.sections, c.if-r-eq4.false),
  refl,
  rw c.with_byte-part.ensures (word_small (loader_words c.args.r) c.requires c.args.b (omega arith) c.next_width-width.ensures
      c.if-r-width.false),
)

pub returns : goal.returns
returns c =
    let a = c.args in
    let s = lent_set a.lengths.now a.bins.now a.heads.now a.names.now a.cells.now in
    byte_comes (loader_words c.args.r) s _ c.if-r-eq4.false c.next_width-width.ensures c.with_byte-part.ensures c.if-r-width.false
    c.take_word.ensures
