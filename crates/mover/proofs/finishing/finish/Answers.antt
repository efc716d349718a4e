-- Where the set does not fit or is not accepted every move is refused; else the tables have their turn.
use mathlib.Core.Path.{refl, ap, sym, ◌∙◌}
use mathlib.Core.Bool.{true, false}
use Rattle.slots.specs.Coded.{verdict}
use Rattle.set_rules.specs.Words.{lent_set}
use Rattle.mover.proofs.Moves.{judged, judged_unfit}
use Rattle.mover.proofs.Turns.{all_unfit, all_damaged}
use Rattle.mover.proofs.finishing.finish.Goals as goal

pub finish_tables-requires : goal.finish_tables-requires
finish_tables-requires c =
    let a = c.args in
    let s = lent_set a.lengths.now a.bins.now a.heads.now a.names.now a.cells.now in
    let both = judged s true (ap verdict (sym c.in-Ok-true.field-0-test) ∙ c.in-Ok-true.ensures) in
    record { fit = both.0; accepts = both.1 }

pub returns-in-Ok-false : goal.returns-in-Ok-false
returns-in-Ok-false c =
    let a = c.args in
    let s = lent_set a.lengths.now a.bins.now a.heads.now a.names.now a.cells.now in
    let both = judged s false (ap verdict (sym c.in-Ok-false.field-0-test) ∙ c.in-Ok-false.ensures) in
    c.stop_first.ensures s refl (all_damaged s both.0 both.1)

pub returns-in-Err : goal.returns-in-Err
returns-in-Err c =
    let a = c.args in
    let s = lent_set a.lengths.now a.bins.now a.heads.now a.names.now a.cells.now in
    c.stop_first-in-Err.ensures s refl (all_unfit s (judged_unfit s c.in-Err.ensures))
