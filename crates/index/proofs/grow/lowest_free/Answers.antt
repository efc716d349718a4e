use Rattle.index.proofs.Growing.{free_here, free_on, free_end}
use Rattle.index.proofs.grow.lowest_free.Goals as goal

pub returns-then-get-eq-FREE : goal.returns-then-get-eq-FREE
returns-then-get-eq-FREE c =
    let a = c.args in
    free_here a.cells.now a.n c.loop-k.k c.loop-k.invariant c.loop-k-test.true c.get.ensures c.if-get-eq-FREE.true

pub loop-k-preserved : goal.loop-k-preserved
loop-k-preserved c =
    let a = c.args in
    free_on a.cells.now a.n c.loop-k.k c.loop-k.invariant c.loop-k-test.true c.get.ensures c.if-get-eq-FREE.false

pub returns : goal.returns
returns c =
    let a = c.args in
    free_end a.cells.now a.n c.loop-k.k c.loop-k.invariant c.loop-k-test.false
