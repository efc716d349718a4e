-- The read, the replacing and the write are those of `detached`.
use Rattle.redblack.specs.Links.{lent_links}
use Rattle.links.proofs.Unlinking.{detach}
use Rattle.links.proofs.unlink.detach.Goals as goal

pub returns : goal.returns
returns c =
    let a = c.args in
    λ sizes. detach (lent_links a.cells.now a.root sizes) a.p
    c.get-pp.ensures
    c.replace-top.ensures
    c.put.ensures
