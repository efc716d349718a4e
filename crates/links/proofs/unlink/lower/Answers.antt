-- The writes are those of `lowered`, on each side of its test and under any root.
use Rattle.links.proofs.Unlinking.{child, deeper}
use Rattle.links.proofs.unlink.lower.Goals as goal

pub returns-then-t-pr : goal.returns-then-t-pr
returns-then-t-pr c =
    let a = c.args in
    child a.cells.now a.p a.t a.pr a.tp
    c.if-t-pr.true
    c.put.ensures
    c.put-then-t-pr.ensures

pub returns : goal.returns
returns c =
    let a = c.args in
    deeper a.cells.now a.p a.t a.pr a.tp
    c.if-t-pr.false
    c.put-2.ensures
    c.relink.ensures
    c.put-3.ensures
    c.put-4.ensures
