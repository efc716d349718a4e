-- The visits fall with the call.
use Rattle.sets.proofs.long.+list_fine.Given as goal

abbrev pub decreases-list_fine : goal.decreases-list_fine
decreases-list_fine l = l.visits
