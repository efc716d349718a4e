-- The lines, and then the two numbers.
use Rattle.dump.proofs.Writing.{saved-told}
use Rattle.dump.proofs.rescue.tell_saved.Goals as goal

pub returns : goal.returns
returns c =
    saved-told _ _ _ _ _ c.tell_losses-listed.ensures c.used_slots-used.ensures c.fill.ensures
