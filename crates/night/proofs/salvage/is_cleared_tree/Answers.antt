-- The full check says yes exactly of a sound tree; then the count decides.
use Rattle.night.proofs.Saving.{cleared_no, cleared_unfit, cleared_counts}
use Rattle.night.proofs.salvage.is_cleared_tree.Goals as goal

pub returns-in-Ok-true : goal.returns-in-Ok-true
returns-in-Ok-true c = cleared_counts _ (rw c.in-Ok-true.field-0-test at c.in-Ok-true.ensures) c.word.ensures

pub returns-in_default : goal.returns-in_default
returns-in_default c = cleared_no _ (rw c.in_default.field-0-test at c.in_default.ensures)

pub returns-in_default-2 : goal.returns-in_default-2
returns-in_default-2 c = cleared_unfit _ c.in_default.ensures
