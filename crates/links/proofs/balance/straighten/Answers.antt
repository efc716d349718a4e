-- `straighten` goes as `straightened` does, on each side of its test.
use Rattle.redblack.specs.Links.{lent_links}
use Rattle.links.proofs.Balancing.{inner, outer}
use Rattle.links.proofs.balance.straighten.Goals as goal

pub returns-then-x-get : goal.returns-then-x-get
returns-then-x-get c =
    let a = c.args in
    inner a.near a.far (lent_links a.cells.now a.root a.sizes.now) a.x a.xp a.xpp
    c.get.ensures
    c.if-x-get.true
    c.rotate-low.ensures
    c.get-q.ensures
    c.get-qp.ensures
    c.raise-top.ensures

pub returns : goal.returns
returns c =
    let a = c.args in
    outer a.near a.far (lent_links a.cells.now a.root a.sizes.now) a.x a.xp a.xpp
    c.get.ensures
    c.if-x-get.false
    c.raise-top-2.ensures
