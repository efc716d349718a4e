-- The five writes are those of `plain_slot`.
use Rattle.move_rules.specs.Passes.{plain_slot}
use Rattle.mover.proofs.passes.plain_slot.Goals as goal

pub returns : goal.returns
unfolding plain_slot
returns c =
    rw (c.put-5.ensures, c.put-4.ensures, c.put-3.ensures, c.put-2.ensures, c.put.ensures)
