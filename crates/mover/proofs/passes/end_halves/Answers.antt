-- The two writes are those of `halves_ended`.
use Rattle.move_rules.specs.Passes.{halves_ended}
use Rattle.mover.proofs.passes.end_halves.Goals as goal

pub returns : goal.returns
unfolding halves_ended
returns c =
    rw (c.put-2.ensures, c.put.ensures)
