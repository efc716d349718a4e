use Rattle.mover.proofs.Passing.{thread_null, thread_spent, thread_on}
use Rattle.mover.proofs.passes.thread.Goals.{else-loop-test, then-loop-test+then-p}
use Rattle.mover.proofs.passes.thread.Goals as goal

pub loop-preserved : goal.loop-preserved
loop-preserved c =
    thread_on _ _ _ _ _ _ c.args.most c.loop.counter _ c.is_home-home.result c.loop.invariant c.if-p.false c.loop-test.true
    c.get-next.ensures c.is_home-home.ensures c.either-last.ensures c.put.ensures c.either-a.ensures c.either-b.ensures

pub returns : goal.returns
returns c =
    elim c.loop-test.branch [
      | else-loop-test w ↦ thread_spent _ _ _ _ _ _ c.args.most c.loop.counter _ c.loop.invariant w.loop-test.false c.end_halves.ensures
      | then-loop-test+then-p w ↦ thread_null _ _ _ _ _ _ _ _ c.loop.invariant w.if-p.true c.end_halves.ensures
    ]
