-- As many bytes as were read, or all of the room.
use native.Mathlib.Omega.{arith}
use lib.ListN.{length-take}
use borrow.Author.Rules.{rules}
use Rattle.trials.proofs.load.load.Goals as goal

pub returns-in_default : goal.returns-in_default
returns-in_default g c = record { outside = search rules; part = simp length-take (omega arith) }
