-- A half that becomes a list wants none; another has that which the scan finds.
use native.Mathlib.Omega.{arith}
use borrow.Author.Tests.{le-leb, lt-leb, ne_eqb}
use Rattle.slots.specs.Words.{null}
use Rattle.move_rules.specs.Moving.{lacks}
use Rattle.mover.proofs.headers.header_for.Goals as goal

pub returns-then-count-le-MOST_LISTED : goal.returns-then-count-le-MOST_LISTED
unfolding lacks
returns-then-count-le-MOST_LISTED c = rw (le-leb _ _ c.if-count-le-MOST_LISTED.true)

pub returns-in-Some : goal.returns-in-Some
unfolding lacks
returns-in-Some c =
    rw (lt-leb _ _ c.if-count-le-MOST_LISTED.false, ← c.in-Some.ensures.0, ne_eqb c.in-Some.h null (omega (arith, c.in-Some.ensures.1)))

pub returns-in-None : goal.returns-in-None
unfolding lacks
returns-in-None c = rw (lt-leb _ _ c.if-count-le-MOST_LISTED.false, ← c.in-None.ensures.0)
