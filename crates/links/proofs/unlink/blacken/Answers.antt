-- The write is made where `blackened` makes it.
use Rattle.redblack.specs.Links.{lent_links}
use Rattle.links.proofs.Unlinking.{at_root, not_root}
use Rattle.links.proofs.unlink.blacken.Goals as goal

pub returns-then-root-x : goal.returns-then-root-x
returns-then-root-x c =
    let a = c.args in
    λ sizes. at_root (lent_links a.cells.now a.root sizes) a.x
    c.if-root-x.true
    c.put.ensures

pub returns-else-root-x : goal.returns-else-root-x
returns-else-root-x c =
    let a = c.args in
    λ sizes. not_root (lent_links a.cells.now a.root sizes) a.x
    c.if-root-x.false
