-- `unlink_slot` goes as `removed` does: one law for each way through its two tests.
use Rattle.redblack.specs.Links.{lent_links}
use Rattle.links.proofs.Unlinking.{no_left, no_right, both}
use Rattle.links.proofs.unlink.unlink_slot.Goals as goal

pub returns-then-get : goal.returns-then-get
returns-then-get c =
    let a = c.args in
    no_left a.budget (lent_links a.cells.now a.root a.sizes.now) a.p
    c.get.ensures
    c.if-get.true
    c.drop_slot.ensures

pub returns-then-pr : goal.returns-then-pr
returns-then-pr c =
    let a = c.args in
    no_right a.budget (lent_links a.cells.now a.root a.sizes.now) a.p
    c.get.ensures
    c.if-get.false
    c.get-pr.ensures
    c.if-pr.true
    c.drop_slot-then-pr.ensures

pub returns : goal.returns
returns c =
    let a = c.args in
    both a.budget (lent_links a.cells.now a.root a.sizes.now) a.p
    c.get.ensures
    c.if-get.false
    c.get-pr.ensures
    c.if-pr.false
    c.leftmost-t.ensures
    c.trade-low.ensures
    c.drop_slot-2.ensures
