-- A name is two words of the list.
use Rattle.std.proofs.Common.{rules}
use Rattle.slots.specs.Words.{rename}
use Rattle.slots.proofs.put_name.Goals as goal

pub returns : goal.returns
unfolding rename
returns c = search rules
