-- The two writes and the rotation are those of `inner_red`.
use Rattle.redblack.specs.Links.{lent_links}
use Rattle.links.proofs.Balancing.{inner_turn}
use Rattle.links.proofs.balance.inner_red.Goals as goal

pub returns : goal.returns
returns c =
    let a = c.args in
    inner_turn a.near a.far (lent_links a.cells.now a.root a.sizes.now) a.y
    c.get-inner.ensures
    c.paint.ensures
    c.paint-2.ensures
    c.rotate.ensures
