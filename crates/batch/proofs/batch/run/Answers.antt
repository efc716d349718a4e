use Rattle.batch.proofs.Making.{turn_start, turn_on, turn_fits, turn_end, turn_most}
use Rattle.batch.proofs.batch.run.Goals as goal

pub loop-k-init : goal.loop-k-init
loop-k-init c =
    turn_start _ _ _ c.requires.ready

pub make-floor-requires : goal.make-floor-requires
make-floor-requires c =
    record { ready = c.loop-k.invariant.ready; k_value = turn_fits c.loop-k.invariant c.requires.calls_value c.loop-k-test.true }

pub loop-k-preserved : goal.loop-k-preserved
loop-k-preserved c =
    turn_on c.loop-k.invariant c.loop-k-test.true c.make-floor.ensures
    c.make-floor.auto.names
    c.make-floor.auto.cells
    c.make-floor.auto.head
    c.make-floor.auto.sizes
    c.make-floor.auto.lines
    c.make-floor.auto.answers

pub returns : goal.returns
returns c =
    let i = c.loop-k.invariant in
    record { answers_after = turn_end i c.loop-k-test.false; lines_in_bounds = i.more; lines_bound = turn_most i }
