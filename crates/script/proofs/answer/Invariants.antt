-- The measure is what is left of the chunk: a call takes some of it.
use Rattle.std.proofs.Common.{length}
use Rattle.script.proofs.answer.Given as goal

abbrev pub decreases-loop-rest : goal.decreases-loop-rest
decreases-loop-rest l = length l.rest
