use Rattle.mover.proofs.Passing.{plain-null, plain_spent, plain_on}
use Rattle.mover.proofs.passes.plain.Goals as goal

pub loop-preserved : goal.loop-preserved
loop-preserved c =
    plain_on _ c.args.most c.loop.counter _ c.loop.invariant c.if-p.false c.loop-test.true c.get-next.ensures c.plain_slot.ensures

pub returns-after-loop : goal.returns-after-loop
returns-after-loop c = plain_spent _ c.args.most c.loop.counter _ c.loop.invariant c.loop-test.false

pub returns-then-p : goal.returns-then-p
returns-then-p c = plain-null _ _ _ c.loop.invariant c.if-p.true
