use Rattle.std.proofs.Common.{refl}
use Rattle.redblack.specs.Links.{lent_links}
use Rattle.links.proofs.Unlinking.{leftward}
use Rattle.links.proofs.Walks.{bottom, ended, down}
use Rattle.links.proofs.unlink.leftmost.Goals as goal

pub returns-then-next : goal.returns-then-next
returns-then-next c =
    let a = c.args in
    λ root sizes. ended (leftward (lent_links a.cells.now root sizes)) (c.loop.invariant root sizes) c.loop-test.true refl
    c.get-next.ensures c.if-next.true

pub loop-preserved : goal.loop-preserved
loop-preserved c =
    let a = c.args in
    λ root sizes. down (leftward (lent_links a.cells.now root sizes)) (c.loop.invariant root sizes) c.loop-test.true refl
    c.get-next.ensures c.if-next.false

pub returns : goal.returns
returns c =
    let a = c.args in
    λ root sizes. bottom (leftward (lent_links a.cells.now root sizes)) (c.loop.invariant root sizes) c.loop-test.false refl
