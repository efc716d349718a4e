-- The prevs, and then the tree.
use Rattle.mover.proofs.passes.grow.Goals as goal

pub returns : goal.returns
returns c =
    rw (← c.back.ensures) c.join_all.ensures
