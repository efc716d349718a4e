use native.Mathlib.Omega.{arith}
use Rattle.mover.proofs.Passing.{one_most, count-null, count_spent, count_on}
use Rattle.mover.proofs.halves.home_count.Goals as goal

pub loop-preserved : goal.loop-preserved
loop-preserved c = (
  count_on _ _ _ _ _ c.args.most c.loop.counter _ c.loop.invariant.0 c.if-p.false c.loop-test.true c.is_home.ensures c.get-next.ensures,
  omega (arith, one_most c.is_home.result, c.loop.invariant.1),
)

pub returns-after-loop : goal.returns-after-loop
returns-after-loop c = count_spent _ _ _ _ _ c.args.most c.loop.counter _ c.loop.invariant.0 c.loop-test.false

pub returns-then-p : goal.returns-then-p
returns-then-p c = count-null _ _ _ _ _ _ _ c.loop.invariant.0 c.if-p.true
