-- The depth falls with each call.
use Rattle.night.proofs.below.+number_below.Given as goal

abbrev pub decreases-number_below : goal.decreases-number_below
decreases-number_below l = l.depth
