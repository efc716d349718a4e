use Rattle.links.proofs.Spotting.{descent}
use Rattle.links.proofs.Walks.{bottom, ended, down}
use Rattle.links.proofs.spot.descend.Goals as goal

pub returns-then-q : goal.returns-then-q
returns-then-q c =
    let a = c.args in
    ended (descent a.names.now a.cells.now a.hash a.key) c.loop.invariant c.loop-test.true c.side_for-side.ensures
    c.get-q.ensures c.if-q.true

pub loop-preserved : goal.loop-preserved
loop-preserved c =
    let a = c.args in
    down (descent a.names.now a.cells.now a.hash a.key) c.loop.invariant c.loop-test.true c.side_for-side.ensures
    c.get-q.ensures c.if-q.false

pub returns : goal.returns
returns c =
    let a = c.args in
    bottom (descent a.names.now a.cells.now a.hash a.key) c.loop.invariant c.loop-test.false c.side_for-side-2.ensures
