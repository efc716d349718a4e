-- `hang` makes the write that `hung` makes: one law for each way through its two tests.
use Rattle.redblack.specs.Links.{lent_links}
use Rattle.links.proofs.Rotating.{hung_root, hung_near, hung_far}
use Rattle.links.proofs.rotate.hang.Goals as goal

pub returns-then-pp-eq-NULL : goal.returns-then-pp-eq-NULL
returns-then-pp-eq-NULL c =
    let a = c.args in
    λ sizes. hung_root a.near a.far (lent_links a.cells.now a.root sizes) a.pp a.p a.r
    c.if-pp-eq-NULL.true
    c.put.ensures

pub returns-then-get-p : goal.returns-then-get-p
returns-then-get-p c =
    let a = c.args in
    λ sizes. hung_near a.near a.far (lent_links a.cells.now a.root sizes) a.pp a.p a.r
    c.if-pp-eq-NULL.false
    c.get.ensures
    c.if-get-p.true
    c.put-then-get-p.ensures

pub returns-else-get-p : goal.returns-else-get-p
returns-else-get-p c =
    let a = c.args in
    λ sizes. hung_far a.near a.far (lent_links a.cells.now a.root sizes) a.pp a.p a.r
    c.if-pp-eq-NULL.false
    c.get.ensures
    c.if-get-p.false
    c.put-else-get-p.ensures
