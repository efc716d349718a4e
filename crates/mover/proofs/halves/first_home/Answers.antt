use Rattle.mover.proofs.Passing.{first_null, first_spent, first_here, first_on}
use Rattle.mover.proofs.halves.first_home.Goals as goal

pub returns-then-home : goal.returns-then-home
returns-then-home c =
    first_here _ _ _ _ _ c.args.most c.loop.counter c.loop.invariant c.if-p.false c.loop-test.true c.is_home-home.ensures c.if-home.true

pub loop-preserved : goal.loop-preserved
loop-preserved c =
    first_on _ _ _ _ _ c.args.most c.loop.counter c.loop.invariant c.if-p.false c.loop-test.true c.is_home-home.ensures c.if-home.false
    c.get-next.ensures

pub returns-after-loop : goal.returns-after-loop
returns-after-loop c = first_spent _ _ _ _ _ c.args.most c.loop.counter c.loop.invariant c.loop-test.false

pub returns-then-p : goal.returns-then-p
returns-then-p c = first_null _ _ _ _ _ _ c.loop.invariant c.if-p.true
