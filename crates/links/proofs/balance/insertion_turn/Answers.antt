-- `insertion_turn` goes as `insertion_turn` does: one law for each of its five ways out.
use Rattle.redblack.specs.Links.{lent_links}
use Rattle.links.proofs.Balancing.{orphan, parent_black, parent_root, parent-left, parent-right}
use Rattle.links.proofs.balance.insertion_turn.Goals as goal

pub returns-then-xp : goal.returns-then-xp
returns-then-xp c =
    let a = c.args in
    orphan (lent_links a.cells.now a.root a.sizes.now) a.x
    c.get-xp.ensures
    c.if-xp.true
    c.paint.ensures

pub returns-then-not-is_red : goal.returns-then-not-is_red
returns-then-not-is_red c =
    let a = c.args in
    parent_black (lent_links a.cells.now a.root a.sizes.now) a.x
    c.get-xp.ensures
    c.if-xp.false
    c.is_red.ensures
    c.if-not-is_red.true-raw

pub returns-then-xpp : goal.returns-then-xpp
returns-then-xpp c =
    let a = c.args in
    parent_root (lent_links a.cells.now a.root a.sizes.now) a.x
    c.get-xp.ensures
    c.if-xp.false
    c.is_red.ensures
    c.if-not-is_red.false-raw
    c.get-xpp.ensures
    c.if-xpp.true

pub returns-then-get-xp : goal.returns-then-get-xp
returns-then-get-xp c =
    let a = c.args in
    parent-left (lent_links a.cells.now a.root a.sizes.now) a.x
    c.get-xp.ensures
    c.if-xp.false
    c.is_red.ensures
    c.if-not-is_red.false-raw
    c.get-xpp.ensures
    c.if-xpp.false
    c.get.ensures
    c.if-get-xp.true
    c.lift.ensures

pub returns : goal.returns
returns c =
    let a = c.args in
    parent-right (lent_links a.cells.now a.root a.sizes.now) a.x
    c.get-xp.ensures
    c.if-xp.false
    c.is_red.ensures
    c.if-not-is_red.false-raw
    c.get-xpp.ensures
    c.if-xpp.false
    c.get.ensures
    c.if-get-xp.false
    c.lift-2.ensures
