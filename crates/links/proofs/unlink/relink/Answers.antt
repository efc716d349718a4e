-- The write goes to the side that `relinked` picks.
use Rattle.links.proofs.Unlinking.{relink_left, relink_right}
use Rattle.links.proofs.unlink.relink.Goals as goal

pub returns-then-get-p : goal.returns-then-get-p
returns-then-get-p c =
    let a = c.args in
    relink_left a.cells.now a.q a.p a.x
    c.get.ensures
    c.if-get-p.true
    c.put.ensures

pub returns-else-get-p : goal.returns-else-get-p
returns-else-get-p c =
    let a = c.args in
    relink_right a.cells.now a.q a.p a.x
    c.get.ensures
    c.if-get-p.false
    c.put-else-get-p.ensures
