-- The depth falls with each call.
use Rattle.night.proofs.below.+blacks_below.Given as goal

abbrev pub decreases-blacks_below : goal.decreases-blacks_below
decreases-blacks_below l = l.depth
