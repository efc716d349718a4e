-- Each way out is one of the model's.
use mathlib.Core.Path.{ap, sym, ◌∙◌}
use mathlib.Core.Bool.{true, false}
use Rattle.slots.specs.Coded.{verdict}
use Rattle.set_rules.specs.Words.{lent_set}
use Rattle.mover.proofs.Moves.{passed, judged, judged_unfit, unfit_moves, table_moves, damaged_moves}
use Rattle.mover.proofs.moving.move_bin.Goals as goal

pub returns-then-not-fit : goal.returns-then-not-fit
returns-then-not-fit c =
    let a = c.args in
    let s = lent_set a.lengths.now a.bins.now a.heads.now a.names.now a.cells.now in
    unfit_moves s a.table a.bin (sym c.fit_set-fit.ensures ∙ c.if-not-fit.true)

pub returns-then-lengths-table : goal.returns-then-lengths-table
returns-then-lengths-table c =
    let a = c.args in
    let s = lent_set a.lengths.now a.bins.now a.heads.now a.names.now a.cells.now in
    table_moves s a.table a.bin (sym c.fit_set-fit.ensures ∙ c.if-not-fit.false) c.if-lengths-table.true

pub returns-in_err-accepted : goal.returns-in_err-accepted
returns-in_err-accepted c =
    let a = c.args in
    let s = lent_set a.lengths.now a.bins.now a.heads.now a.names.now a.cells.now in
    rw (passed _ _ c.from_residual.ensures.1) (unfit_moves s a.table a.bin (judged_unfit s c.in_err-accepted.ensures))

pub returns-then-not-accepted : goal.returns-then-not-accepted
returns-then-not-accepted c =
    let a = c.args in
    let s = lent_set a.lengths.now a.bins.now a.heads.now a.names.now a.cells.now in
    let both = judged s false (ap verdict (sym c.if-not-accepted.true) ∙ c.in_ok-accepted.ensures) in
    damaged_moves s a.table a.bin both.0 c.if-lengths-table.false both.1

pub move_accepted-requires : goal.move_accepted-requires
move_accepted-requires c =
    let a = c.args in
    let s = lent_set a.lengths.now a.bins.now a.heads.now a.names.now a.cells.now in
    let both = judged s true (ap verdict (sym c.if-not-accepted.false) ∙ c.in_ok-accepted.ensures) in
    (record { fit = both.0; accepts = both.1 }, c.if-lengths-table.false)
