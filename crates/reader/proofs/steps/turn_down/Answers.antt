-- The mark, the rollback to it, its answer or the refusal's, and the note.
use Rattle.reader.proofs.Coming.{turned}
use Rattle.reader.proofs.steps.turn_down.Goals as goal

pub returns : goal.returns
returns c =
    turned _ _ _ c.back_mark-mark.ensures c.back_to-back.ensures c.after_rollback.ensures c.noting.ensures
