-- The measure is what is left of the script.
use Rattle.std.proofs.Common.{◌-◌, ◌≤◌, length}
use Rattle.drill.proofs.numbers.starts.Given as goal

abbrev pub invariant-loop-at : goal.invariant-loop-at
invariant-loop-at l = l.at ≤ length l.script

abbrev pub decreases-loop-at : goal.decreases-loop-at
decreases-loop-at l = length l.script - l.at
