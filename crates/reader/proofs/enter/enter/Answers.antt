-- What was checked is ready; else the full check says whether it is.
use mathlib.Core.Path.{sym, ap, ◌∙◌}
use Rattle.slots.specs.Coded.{verdict}
use Rattle.index.proofs.Singly.{ready}
use Rattle.reader.proofs.Trusting.{entry_unfit, entry_damaged}
use Rattle.reader.proofs.enter.enter.Goals as goal

pub enter_sound-requires-in-Ok-true : goal.enter_sound-requires-in-Ok-true
enter_sound-requires-in-Ok-true c =
    ready _ (ap verdict (sym c.in-Ok-true.field-0-test) ∙ c.in-Ok-true.ensures)

pub returns-in-Err : goal.returns-in-Err
returns-in-Err c =
    let a = c.args in
    rw c.into.ensures (entry_unfit _ a.hash a.key a.place c.in-Err.ensures)

pub returns-in-Ok-false : goal.returns-in-Ok-false
returns-in-Ok-false c =
    let a = c.args in
    entry_damaged _ a.hash a.key a.place (ap verdict (sym c.in-Ok-false.field-0-test) ∙ c.in-Ok-false.ensures)
