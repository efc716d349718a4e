-- The two writes and the rotation are those of `raised`.
use Rattle.redblack.specs.Links.{lent_links}
use Rattle.links.proofs.Balancing.{raise}
use Rattle.links.proofs.balance.raise.Goals as goal

pub returns : goal.returns
returns c =
    let a = c.args in
    raise a.near a.far (lent_links a.cells.now a.root a.sizes.now) a.xp a.xpp
    c.paint.ensures
    c.paint-2.ensures
    c.rotate.ensures
