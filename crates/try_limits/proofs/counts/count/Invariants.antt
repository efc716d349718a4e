-- The loop's invariant: no more are counted than were asked.
use Rattle.std.proofs.Common.{◌≤◌}
use Rattle.try_limits.proofs.counts.count.Given as goal

abbrev pub invariant-loop-i : goal.invariant-loop-i
invariant-loop-i g l = l.count ≤ l.i
