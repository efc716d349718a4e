-- The depth falls with each call, and a row keeps its length.
use Rattle.try_why.proofs.rows.+write_below.Given as goal

abbrev pub decreases-write_below : goal.decreases-write_below
decreases-write_below l = l.depth
