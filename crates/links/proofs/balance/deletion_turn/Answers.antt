-- `deletion_turn` goes as `deletion_turn` does: one law for each of its six ways out.
use Rattle.redblack.specs.Links.{lent_links}
use Rattle.links.proofs.Balancing.{nowhere, at_root, rootless, red_slot_lem, from_left, from_right}
use Rattle.links.proofs.balance.deletion_turn.Goals as goal

pub returns-then-x-eq-NULL : goal.returns-then-x-eq-NULL
returns-then-x-eq-NULL c =
    let a = c.args in
    nowhere (lent_links a.cells.now a.root a.sizes.now) a.x
    c.if-x-eq-NULL.true

pub returns-then-x-root : goal.returns-then-x-root
returns-then-x-root c =
    let a = c.args in
    at_root (lent_links a.cells.now a.root a.sizes.now) a.x
    c.if-x-eq-NULL.false
    c.if-x-root.true

pub returns-then-xp : goal.returns-then-xp
returns-then-xp c =
    let a = c.args in
    rootless (lent_links a.cells.now a.root a.sizes.now) a.x
    c.if-x-eq-NULL.false
    c.if-x-root.false
    c.get-xp.ensures
    c.if-xp.true
    c.paint.ensures

pub returns-then-is_red : goal.returns-then-is_red
returns-then-is_red c =
    let a = c.args in
    red_slot_lem (lent_links a.cells.now a.root a.sizes.now) a.x
    c.if-x-eq-NULL.false
    c.if-x-root.false
    c.get-xp.ensures
    c.if-xp.false
    c.is_red.ensures
    c.if-is_red.true
    c.paint-then-is_red.ensures

pub returns-then-get-x : goal.returns-then-get-x
returns-then-get-x c =
    let a = c.args in
    from_left (lent_links a.cells.now a.root a.sizes.now) a.x
    c.if-x-eq-NULL.false
    c.if-x-root.false
    c.get-xp.ensures
    c.if-xp.false
    c.is_red.ensures
    c.if-is_red.false
    c.get.ensures
    c.if-get-x.true
    c.by_sibling.ensures

pub returns : goal.returns
returns c =
    let a = c.args in
    from_right (lent_links a.cells.now a.root a.sizes.now) a.x
    c.if-x-eq-NULL.false
    c.if-x-root.false
    c.get-xp.ensures
    c.if-xp.false
    c.is_red.ensures
    c.if-is_red.false
    c.get.ensures
    c.if-get-x.false
    c.by_sibling-2.ensures
