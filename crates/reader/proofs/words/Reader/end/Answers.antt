-- Out of range, noted, or closed.
use mathlib.Core.Path.{ap, sym, ◌∙◌}
use Rattle.upload_rules.proofs.Ranges.{range_in}
use Rattle.reader.specs.Meanings.{note_of}
use Rattle.reader.proofs.Coming.{end_out, end_noted, end_on_lem, end_fits_lem}
use Rattle.reader.proofs.words.Reader.end.Goals as goal

pub returns-then-not-fits_reader : goal.returns-then-not-fits_reader
returns-then-not-fits_reader c = end_out _ c.fits_reader.ensures c.if-not-fits_reader.true

pub returns-in-Some : goal.returns-in-Some
returns-in-Some c =
    end_noted _ c.fits_reader.ensures c.if-not-fits_reader.false (ap note_of c.in-Some.is)

pub close-reader-requires : goal.close-reader-requires
close-reader-requires c = range_in _ (sym c.fits_reader.ensures ∙ c.if-not-fits_reader.false)

pub reply_of-requires : goal.reply_of-requires
reply_of-requires c =
    end_fits_lem _ (range_in _ (sym c.fits_reader.ensures ∙ c.if-not-fits_reader.false)) (ap note_of c.in_default.is)
    c.close-reader.ensures

pub returns : goal.returns
returns c =
    end_on_lem _ c.fits_reader.ensures c.if-not-fits_reader.false (ap note_of c.in_default.is) c.close-reader.ensures
    c.reply_of.ensures
