-- The writes and the rotation are those of `capped` and `outer_red`, in order.
use Rattle.redblack.specs.Links.{lent_links}
use Rattle.links.proofs.Balancing.{outer_turn}
use Rattle.links.proofs.balance.outer_red.Goals as goal

pub returns : goal.returns
returns c =
    let a = c.args in
    outer_turn a.near a.far (lent_links a.cells.now a.root a.sizes.now) a.xp a.y
    c.colour-hue.ensures
    c.paint.ensures
    c.get-outer.ensures
    c.paint-2.ensures
    c.paint-3.ensures
    c.rotate-top.ensures
