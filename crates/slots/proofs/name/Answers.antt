-- A name is two words of the list.
use Rattle.std.proofs.Common.{rules}
use Rattle.slots.specs.Words.{name_of}
use Rattle.slots.proofs.name.Goals as goal

pub returns : goal.returns
unfolding name_of
returns c = search rules
