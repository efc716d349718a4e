-- `lift` goes as `lifted` does, on each side of its test.
use Rattle.redblack.specs.Links.{lent_links}
use Rattle.links.proofs.Balancing.{uncle_red, uncle_black}
use Rattle.links.proofs.balance.lift.Goals as goal

pub returns-then-is_red : goal.returns-then-is_red
returns-then-is_red c =
    let a = c.args in
    uncle_red a.near a.far (lent_links a.cells.now a.root a.sizes.now) a.x a.xp a.xpp
    c.get-uncle.ensures
    c.is_red.ensures
    c.if-is_red.true
    c.paint.ensures
    c.paint-then-is_red.ensures
    c.paint-then-is_red-2.ensures

pub returns : goal.returns
returns c =
    let a = c.args in
    uncle_black a.near a.far (lent_links a.cells.now a.root a.sizes.now) a.x a.xp a.xpp
    c.get-uncle.ensures
    c.is_red.ensures
    c.if-is_red.false
    c.straighten.ensures
