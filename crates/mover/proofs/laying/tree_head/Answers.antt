-- The test is the model's.
use borrow.Author.Tests.{lt-ltb, le-ltb}
use Rattle.move_rules.specs.Moving.{tree_head}
use Rattle.mover.proofs.laying.tree_head.Goals as goal

pub returns-then-h-lt-MOST : goal.returns-then-h-lt-MOST
unfolding tree_head
returns-then-h-lt-MOST c = rw (lt-ltb _ _ c.if-h-lt-MOST.true)

pub returns-else-h-lt-MOST : goal.returns-else-h-lt-MOST
unfolding tree_head
returns-else-h-lt-MOST c = rw (le-ltb _ _ c.if-h-lt-MOST.false)
