use Rattle.index.proofs.Asking.{passed}
use Rattle.index.proofs.Undoing.{turn_on, turn_not, turn_end}
use Rattle.index.proofs.lines.unroll.Goals as goal

pub returns-in_err-freed : goal.returns-in_err-freed
returns-in_err-freed c =
    rw (passed _ _ c.from_residual.ensures.1)
    (turn_not c.loop-c.invariant c.lowest_free-x.ensures c.loop-c-test.true c.in_err-freed.ensures.sizes_after)

pub loop-c-preserved : goal.loop-c-preserved
loop-c-preserved c =
    turn_on c.loop-c.invariant c.lowest_free-x.ensures c.loop-c-test.true c.in_ok-freed.ensures.sizes_after
    c.in_ok-freed.ensures.freed_is
    c.lesser-floor.ensures
    c.undo_line.auto.names
    c.undo_line.auto.cells
    c.undo_line.auto.head
    c.undo_line.auto.sizes

pub returns : goal.returns
returns c = turn_end c.loop-c.invariant c.loop-c-test.false
