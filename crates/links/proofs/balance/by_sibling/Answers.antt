-- `by_sibling` goes as `by_sib` does, on each side of its test.
use Rattle.redblack.specs.Links.{lent_links}
use Rattle.links.proofs.Balancing.{sibling_red, sibling_black}
use Rattle.links.proofs.balance.by_sibling.Goals as goal

pub returns-then-is_red : goal.returns-then-is_red
returns-then-is_red c =
    let a = c.args in
    sibling_red a.near a.far (lent_links a.cells.now a.root a.sizes.now) a.x a.xp
    c.get-y.ensures
    c.is_red.ensures
    c.if-is_red.true
    c.paint.ensures
    c.paint-then-is_red.ensures
    c.rotate-low.ensures
    c.get-q.ensures
    c.get-z.ensures
    c.dark_sibling.ensures

pub returns : goal.returns
returns c =
    let a = c.args in
    sibling_black a.near a.far (lent_links a.cells.now a.root a.sizes.now) a.x a.xp
    c.get-y.ensures
    c.is_red.ensures
    c.if-is_red.false
    c.dark_sibling-2.ensures
