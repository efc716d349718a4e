-- `replace` goes as `replaced` does, on each side of its test.
use Rattle.redblack.specs.Links.{lent_links}
use Rattle.links.proofs.Unlinking.{rootward, under}
use Rattle.links.proofs.unlink.replace.Goals as goal

pub returns-then-q-eq-NULL : goal.returns-then-q-eq-NULL
returns-then-q-eq-NULL c =
    let a = c.args in
    λ sizes. rootward (lent_links a.cells.now a.root sizes) a.q a.p a.x
    c.if-q-eq-NULL.true

pub returns : goal.returns
returns c =
    let a = c.args in
    λ sizes. under (lent_links a.cells.now a.root sizes) a.q a.p a.x
    c.if-q-eq-NULL.false
    c.relink.ensures
