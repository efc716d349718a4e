use Rattle.mover.proofs.Passing.{back_null, back_spent, back_on}
use Rattle.mover.proofs.passes.back.Goals as goal

pub loop-preserved : goal.loop-preserved
loop-preserved c =
    back_on _ c.args.most c.loop.counter _ _ c.loop.invariant c.if-p.false c.loop-test.true c.get-next.ensures c.put.ensures

pub returns-after-loop : goal.returns-after-loop
returns-after-loop c = back_spent _ c.args.most c.loop.counter _ _ c.loop.invariant c.loop-test.false

pub returns-then-p : goal.returns-then-p
returns-then-p c = back_null _ _ _ _ c.loop.invariant c.if-p.true
