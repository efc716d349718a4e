use mathlib.Core.Path.{refl}
use Prim.Native.Nat.{◌+◌}
use native.Mathlib.Omega.{arith}
use Rattle.set_rules.specs.Words.{lent_set}
use Rattle.move_rules.specs.Finishing.{tables_finished}
use Rattle.mover.proofs.Moves.{passed}
use Rattle.mover.proofs.Turns.{tables_turn, tables_stopped, tables-over, not_none, limits}
use Rattle.mover.proofs.finishing.finish_tables.Goals as goal

pub overflow_sub-k-end : goal.overflow_sub-k-end
overflow_sub-k-end c =
    let a = c.args in
    let s = lent_set a.lengths.now a.bins.now a.heads.now a.names.now a.cells.now in
    omega (arith, (limits s 0 c.requires).least)

pub overflow_cast-k-end : goal.overflow_cast-k-end
overflow_cast-k-end c =
    let a = c.args in
    let s = lent_set a.lengths.now a.bins.now a.heads.now a.names.now a.cells.now in
    omega (arith, (limits s 0 c.requires).most)

pub loop-k-init : goal.loop-k-init
unfolding tables_finished
loop-k-init c = (refl, c.requires, omega arith)

pub loop-k-preserved : goal.loop-k-preserved
loop-k-preserved c =
    let a = c.args in
    let s = lent_set a.lengths.now a.bins.now a.heads.now a.names.now a.cells.now in
    let l = c.loop-k in
    let told = c.in_ok-gone.ensures in
    (tables_turn s l.k l.invariant.0 told.0, told.1, omega (arith, told.2))

pub returns-in_err-gone : goal.returns-in_err-gone
returns-in_err-gone c =
    let a = c.args in
    let s = lent_set a.lengths.now a.bins.now a.heads.now a.names.now a.cells.now in
    let l = c.loop-k in
    let stop = c.in_err-gone.field-0.0 in
    rw (passed _ _ c.from_residual.ensures.1)
    (tables_stopped s (l.k + 1) (tables_turn s l.k l.invariant.0 c.in_err-gone.ensures.0) (not_none stop.refusal) (omega arith))

pub returns : goal.returns
returns c =
    let a = c.args in
    let s = lent_set a.lengths.now a.bins.now a.heads.now a.names.now a.cells.now in
    let l = c.loop-k in
    tables-over s l.k l.invariant.0 (omega arith) (omega (arith, c.loop-k-test.false))
