-- The side is the one that the test of the order picks.
use Rattle.links.proofs.spot.side_for.Goals as goal

pub returns-then-comes_before : goal.returns-then-comes_before
returns-then-comes_before c =
    rw (← c.name-at.ensures, ← c.name-own.ensures, ← c.comes_before.ensures, c.if-comes_before.true)

pub returns-else-comes_before : goal.returns-else-comes_before
returns-else-comes_before c =
    rw (← c.name-at.ensures, ← c.name-own.ensures, ← c.comes_before.ensures, c.if-comes_before.false)
