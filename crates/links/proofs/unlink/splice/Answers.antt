-- The read, the replacing and the writes are those of `spliced`, in order.
use Rattle.redblack.specs.Links.{lent_links}
use Rattle.links.proofs.Unlinking.{splice}
use Rattle.links.proofs.unlink.splice.Goals as goal

pub returns : goal.returns
returns c =
    let a = c.args in
    λ sizes. splice (lent_links a.cells.now a.root sizes) a.p a.x
    c.get-pp.ensures
    c.put.ensures
    c.replace-top.ensures
    c.put-2.ensures
    c.put-3.ensures
    c.put-4.ensures
