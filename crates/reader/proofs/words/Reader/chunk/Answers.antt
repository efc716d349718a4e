use mathlib.Core.Path.{ap, sym, ◌∙◌}
use native.Mathlib.Omega.{arith}
use Rattle.upload_rules.proofs.Ranges.{range_in}
use Rattle.reader.specs.Meanings.{note_of, words_of}
use Rattle.reader.proofs.Coming.{chunk_out, chunk_in, noted_answer}
use Rattle.reader.proofs.Trusting.{turn_start, turn_on, turn_noted, turn_end}
use Rattle.reader.proofs.words.Reader.chunk.Goals as goal

pub returns-then-not-fits_reader : goal.returns-then-not-fits_reader
returns-then-not-fits_reader c = chunk_out _ c.fits_reader.ensures _ c.if-not-fits_reader.true

pub loop-b-init : goal.loop-b-init
loop-b-init c = turn_start _ _ _ (range_in _ (sym c.fits_reader.ensures ∙ c.if-not-fits_reader.false))

pub returns-in-Some : goal.returns-in-Some
returns-in-Some c =
    chunk_in _ c.fits_reader.ensures c.args.chunk.now c.if-not-fits_reader.false
    (turn_noted c.loop-b.invariant (ap note_of c.in-Some.is)) (noted_answer (words_of c.loop-b.at.reader) (ap note_of c.in-Some.is))

pub loop-b-preserved : goal.loop-b-preserved
loop-b-preserved c =
    turn_on c.loop-b.invariant c.loop-b-test.true (omega (arith, c.type_inv.chunk c.loop-b.b-index))
    (ap note_of c.in_default.is) c.take-at.ensures
    c.take-at.auto.names
    c.take-at.auto.cells
    c.take-at.auto.head
    c.take-at.auto.sizes
    c.take-at.auto.lines

pub returns : goal.returns
returns c =
    chunk_in _ c.fits_reader.ensures c.args.chunk.now c.if-not-fits_reader.false
    (turn_end c.loop-b.invariant c.loop-b-test.false) c.reply_of.ensures
