-- The visits fall with each call.
use Rattle.tree.proofs.check.+visit.Given as goal

abbrev pub decreases-visit : goal.decreases-visit
decreases-visit l = l.visits
