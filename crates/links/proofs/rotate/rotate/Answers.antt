-- `rotate` goes step by step as `rotated` does: with nothing to turn it leaves all as it was, else its writes are `turned`'s own, in order.
use Rattle.std.proofs.Common.{◌∙◌}
use Rattle.redblack.specs.Links.{lent_links}
use Rattle.links.proofs.Rotating.{none, childless, turn}
use Rattle.links.proofs.rotate.rotate.Goals as goal

pub returns-then-p-eq-NULL : goal.returns-then-p-eq-NULL
returns-then-p-eq-NULL c =
    let a = c.args in
    none a.near a.far (lent_links a.cells.now a.root a.sizes.now) a.p
    c.if-p-eq-NULL.true

pub returns-then-r : goal.returns-then-r
returns-then-r c =
    let a = c.args in
    childless a.near a.far (lent_links a.cells.now a.root a.sizes.now) a.p
    c.if-p-eq-NULL.false
    c.get-r.ensures
    c.if-r.true

pub shape_of-cells : goal.shape_of-cells
shape_of-cells c =
    c.put-5.auto.cells
    ∙ c.put-4.auto.cells
    ∙ c.hang-top.auto.cells
    ∙ c.put-3.auto.cells
    ∙ c.put-2.auto.cells
    ∙ c.put.auto.cells

pub returns : goal.returns
returns c =
    let a = c.args in
    turn a.near a.far (lent_links a.cells.now a.root a.sizes.now) a.p
    c.if-p-eq-NULL.false
    c.get-r.ensures
    c.if-r.false
    c.get-inner.ensures
    c.put.ensures
    c.put-2.ensures
    c.get-pp.ensures
    c.put-3.ensures
    c.hang-top.ensures
    c.put-4.ensures
    c.put-5.ensures
    c.get-near_child.ensures
    c.get-far_child.ensures
    c.recount.ensures
