use Rattle.links.proofs.Balancing.{deletion, over, ends, goes_on}
use Rattle.links.proofs.balance.balance_deletion.Goals as goal

pub returns-in_default : goal.returns-in_default
returns-in_default c = ends deletion c.loop.invariant c.loop-test.true c.deletion_turn-low.ensures c.in_default.is

pub loop-preserved : goal.loop-preserved
loop-preserved c = goes_on deletion c.loop.invariant c.loop-test.true c.deletion_turn-low.ensures c.in-Some.is

pub returns : goal.returns
returns c = over deletion c.loop.invariant c.loop-test.false
