-- Each way through the two tests is the way that `replacement` picks.
use Rattle.links.proofs.Unlinking.{itself, right_child, left_child}
use Rattle.links.proofs.unlink.replacement.Goals as goal

pub returns-then-high : goal.returns-then-high
returns-then-high c =
    let a = c.args in
    itself a.cells.now a.p
    c.get-low.ensures
    c.if-low.true
    c.get-high.ensures
    c.if-high.true

pub returns-then-low : goal.returns-then-low
returns-then-low c =
    let a = c.args in
    right_child a.cells.now a.p
    c.get-low.ensures
    c.if-low.true
    c.get-high.ensures
    c.if-high.false

pub returns : goal.returns
returns c =
    let a = c.args in
    left_child a.cells.now a.p
    c.get-low.ensures
    c.if-low.false
