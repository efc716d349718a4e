-- The depth falls with each call.
use Rattle.try_why.proofs.ways.+met.Given as goal

abbrev pub decreases-met : goal.decreases-met
decreases-met l = l.depth
