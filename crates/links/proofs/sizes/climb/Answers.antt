use Rattle.links.proofs.Sizing.{spent, topped, upward}
use Rattle.links.proofs.sizes.climb.Goals as goal

pub returns-then-at : goal.returns-then-at
returns-then-at c =
    let a = c.args in
    topped a.cells.now a.d a.budget c.loop.counter c.loop.at c.loop.sizes c.loop.invariant c.loop-test.true c.if-at.true

pub loop-preserved : goal.loop-preserved
loop-preserved c =
    let a = c.args in
    upward a.cells.now a.d a.budget c.loop.counter c.loop.at c.loop.sizes c.loop.invariant c.loop-test.true
    c.if-at.false c.word-old.ensures c.add-new.ensures c.put_word.ensures c.get-at.ensures

pub returns : goal.returns
returns c =
    let a = c.args in
    spent a.cells.now a.d a.budget c.loop.counter c.loop.at c.loop.sizes c.loop.invariant c.loop-test.false
