-- Twice the tables left, and one more for a bin, falls with each call.
use Prim.Native.Nat.{◌+◌, ◌*◌}
use Rattle.sets.proofs.below.+bin_fine_two_below.Given as goal

abbrev pub decreases-bin_fine : goal.decreases-bin_fine
decreases-bin_fine l = 2 * l.left + 1

abbrev pub decreases-two_below : goal.decreases-two_below
decreases-two_below l = 2 * l.left
