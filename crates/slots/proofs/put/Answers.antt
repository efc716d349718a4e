-- A slot is seven words of the list.
use Rattle.std.proofs.Common.{rules}
use Rattle.slots.specs.Words.{write}
use Rattle.slots.proofs.put.Goals as goal

pub returns : goal.returns
unfolding write
returns c = search rules
