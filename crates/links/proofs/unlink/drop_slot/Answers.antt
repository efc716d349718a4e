-- `drop_slot` goes as `dropped` does, on each side of its test.
use Rattle.redblack.specs.Links.{lent_links}
use Rattle.links.proofs.Unlinking.{drop_itself, drop-spliced}
use Rattle.links.proofs.unlink.drop_slot.Goals as goal

pub returns-then-x-p : goal.returns-then-x-p
returns-then-x-p c =
    let a = c.args in
    drop_itself a.budget (lent_links a.cells.now a.root a.sizes.now) a.p
    c.replacement-x.ensures
    c.is_red-red.ensures
    c.if-x-p.true
    c.rebalance-low.ensures
    c.weigh.ensures
    c.detach-top.ensures
    c.blacken.ensures

pub returns : goal.returns
returns c =
    let a = c.args in
    drop-spliced a.budget (lent_links a.cells.now a.root a.sizes.now) a.p
    c.replacement-x.ensures
    c.is_red-red.ensures
    c.if-x-p.false
    c.weigh-2.ensures
    c.splice-low.ensures
    c.rebalance-top.ensures
    c.blacken-2.ensures
