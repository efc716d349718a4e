use Rattle.mover.proofs.Passing.{join_null, join_spent, join_on}
use Rattle.mover.proofs.passes.join_all.Goals as goal

pub loop-preserved : goal.loop-preserved
loop-preserved c =
    join_on _ _ c.args.n c.loop.counter _ _ c.loop.invariant c.if-p.false c.loop-test.true c.get-next.ensures c.join-root.ensures

pub returns-after-loop : goal.returns-after-loop
returns-after-loop c = join_spent _ _ c.args.n c.loop.counter _ c.loop.invariant c.loop-test.false

pub returns-then-p : goal.returns-then-p
returns-then-p c = join_null _ _ _ _ c.loop.invariant c.if-p.true
