-- The tests in turn settle the model's.
use mathlib.Core.Path.{refl}
use Rattle.file.proofs.Noting.{at_unsaid, at-given, at_unknown, at-refused, at_other, unfit_note, damaged_note, short_note}
use Rattle.file.proofs.Noting.{long_note, over_note}
use Rattle.file.proofs.notes.of_word.Goals as goal

pub returns-then-word-eq0 : goal.returns-then-word-eq0
returns-then-word-eq0 c = at_unsaid _ c.if-word-eq0.true

pub returns-then-number-eq0 : goal.returns-then-number-eq0
returns-then-number-eq0 c =
    at-given _ c.if-word-eq0.false c.if-number-eq0.true refl

pub returns-then-value-ne0 : goal.returns-then-value-ne0
returns-then-value-ne0 c =
    at_unknown _ c.if-word-eq0.false c.if-number-eq0.false c.if-value-ne0.true

pub returns-in-1 : goal.returns-in-1
returns-in-1 c =
    at-refused _ c.if-word-eq0.false c.if-number-eq0.false c.if-value-ne0.false _ c.in-1.is unfit_note

pub returns-in-2 : goal.returns-in-2
returns-in-2 c =
    at-refused _ c.if-word-eq0.false c.if-number-eq0.false c.if-value-ne0.false _ c.in-2.is damaged_note

pub returns-in-12 : goal.returns-in-12
returns-in-12 c =
    at-refused _ c.if-word-eq0.false c.if-number-eq0.false c.if-value-ne0.false _ c.in-12.is short_note

pub returns-in-13 : goal.returns-in-13
returns-in-13 c =
    at-refused _ c.if-word-eq0.false c.if-number-eq0.false c.if-value-ne0.false _ c.in-13.is long_note

pub returns-in-14 : goal.returns-in-14
returns-in-14 c =
    at-refused _ c.if-word-eq0.false c.if-number-eq0.false c.if-value-ne0.false _ c.in-14.is over_note

pub returns-in_default : goal.returns-in_default
returns-in_default c =
    let n = c.in_default.in_default-own.rest in
    at_other _ c.if-word-eq0.false c.if-number-eq0.false c.if-value-ne0.false n.0.0.0.0.1 n.0.0.0.1 n.0.0.1 n.0.1 n.1
