-- `place` goes as `spotted` does, on each side of its test.
use Rattle.redblack.specs.Links.{lent_links}
use Rattle.links.proofs.Spotting.{empty, full}
use Rattle.links.proofs.spot.find_spot.Goals as goal

pub returns-then-root-eq-NULL : goal.returns-then-root-eq-NULL
returns-then-root-eq-NULL c =
    let a = c.args in
    λ sizes. empty a.steps a.names.now (lent_links a.cells.now a.root sizes) a.hash a.key
    c.if-root-eq-NULL.true

pub returns : goal.returns
returns c =
    let a = c.args in
    λ sizes. full a.steps a.names.now (lent_links a.cells.now a.root sizes) a.hash a.key
    c.if-root-eq-NULL.false
    c.descend.ensures
