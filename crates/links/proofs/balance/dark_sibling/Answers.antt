-- `dark_sibling` goes as `dark_sib` does: one law for each way through its two tests.
use Rattle.redblack.specs.Links.{lent_links}
use Rattle.links.proofs.Balancing.{outer_red_lem, inner_red_lem, none_red}
use Rattle.links.proofs.balance.dark_sibling.Goals as goal

pub returns-then-is_red : goal.returns-then-is_red
returns-then-is_red c =
    let a = c.args in
    outer_red_lem a.near a.far (lent_links a.cells.now a.root a.sizes.now) a.x a.xp a.y
    c.get-outer.ensures
    c.is_red.ensures
    c.if-is_red.true
    c.outer_red.ensures

pub returns-then-is_red-2 : goal.returns-then-is_red-2
returns-then-is_red-2 c =
    let a = c.args in
    inner_red_lem a.near a.far (lent_links a.cells.now a.root a.sizes.now) a.x a.xp a.y
    c.get-outer.ensures
    c.is_red.ensures
    c.if-is_red.false
    c.get-inner.ensures
    c.is_red-2.ensures
    c.if-is_red-2.true
    c.inner_red-low.ensures
    c.get-q.ensures
    c.get-z.ensures
    c.outer_red-then-is_red-2.ensures

pub returns : goal.returns
returns c =
    let a = c.args in
    none_red a.near a.far (lent_links a.cells.now a.root a.sizes.now) a.x a.xp a.y
    c.get-outer.ensures
    c.is_red.ensures
    c.if-is_red.false
    c.get-inner.ensures
    c.is_red-2.ensures
    c.if-is_red-2.false
    c.paint.ensures
