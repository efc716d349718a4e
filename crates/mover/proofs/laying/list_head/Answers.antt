-- The test is the model's.
use borrow.Author.Tests.{lt-ltb, le-ltb}
use Rattle.move_rules.specs.Moving.{list_head}
use Rattle.mover.proofs.laying.list_head.Goals as goal

pub returns-then-p-lt-MOST : goal.returns-then-p-lt-MOST
unfolding list_head
returns-then-p-lt-MOST c = rw (lt-ltb _ _ c.if-p-lt-MOST.true)

pub returns-else-p-lt-MOST : goal.returns-else-p-lt-MOST
unfolding list_head
returns-else-p-lt-MOST c = rw (le-ltb _ _ c.if-p-lt-MOST.false)
