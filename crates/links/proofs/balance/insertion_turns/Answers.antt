use Rattle.links.proofs.Balancing.{insertion, over, ends, goes_on}
use Rattle.links.proofs.balance.insertion_turns.Goals as goal

pub returns-in_default : goal.returns-in_default
returns-in_default c = ends insertion c.loop.invariant c.loop-test.true c.insertion_turn-low.ensures c.in_default.is

pub loop-preserved : goal.loop-preserved
loop-preserved c = goes_on insertion c.loop.invariant c.loop-test.true c.insertion_turn-low.ensures c.in-Some.is

pub returns : goal.returns
returns c = over insertion c.loop.invariant c.loop-test.false
