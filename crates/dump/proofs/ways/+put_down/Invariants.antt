-- There is one less of the slots above to go.
use Rattle.dump.proofs.ways.+put_down.Given as goal

abbrev pub decreases-put_down : goal.decreases-put_down
decreases-put_down l = l.budget
