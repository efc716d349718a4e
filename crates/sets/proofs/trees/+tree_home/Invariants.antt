-- The depth falls with each call.
use Rattle.sets.proofs.trees.+tree_home.Given as goal

abbrev pub decreases-tree_home : goal.decreases-tree_home
decreases-tree_home l = l.depth
