-- A slot is seven words of the list.
use Rattle.std.proofs.Common.{rules}
use Rattle.slots.specs.Words.{cell}
use Rattle.slots.proofs.get.Goals as goal

pub returns : goal.returns
unfolding cell
returns c = search rules
