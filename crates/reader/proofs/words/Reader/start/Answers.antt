-- What the full check answers goes up, or the reader begins at the journal's length.
use mathlib.Core.Path.{sym, ap, ◌∙◌}
use native.Mathlib.Omega.{arith}
use Rattle.slots.specs.Coded.{verdict}
use Rattle.reader.proofs.Coming.{start_unfit, start_damaged, few_lines, start_begins}
use Rattle.reader.proofs.words.Reader.start.Goals as goal

pub overflow_cast-mark : goal.overflow_cast-mark
overflow_cast-mark c =
    omega (arith, few_lines _ (ap verdict (sym c.in-Ok-true.field-0-test) ∙ c.in-Ok-true.ensures) c.length_of-mark.ensures)

pub returns-in-Err : goal.returns-in-Err
returns-in-Err c = start_unfit _ c.new_reader.ensures c.in-Err.ensures

pub returns-in-Ok-true : goal.returns-in-Ok-true
returns-in-Ok-true c =
    start_begins _ (ap verdict (sym c.in-Ok-true.field-0-test) ∙ c.in-Ok-true.ensures) c.length_of-mark.ensures
    c.new_reader-in-Ok-true.ensures

pub returns-in-Ok-false : goal.returns-in-Ok-false
returns-in-Ok-false c =
    start_damaged _ c.new_reader-in-Ok-false.ensures (ap verdict (sym c.in-Ok-false.field-0-test) ∙ c.in-Ok-false.ensures)
