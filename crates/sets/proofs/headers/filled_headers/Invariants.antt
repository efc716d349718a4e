-- The loop's invariant: the count is that of the headers so far, each counted once at most.
use mathlib.Core.Path.{◌≡◌}
use Prim.Native.Nat.{◌≤◌, ◌-◌}
use Rattle.tree_rules.specs.Chain.{tally}
use Rattle.set_rules.specs.Accepting.{filled}
use Rattle.sets.proofs.headers.filled_headers.Given as goal

abbrev pub invariant-loop-h : goal.invariant-loop-h
invariant-loop-h l = (l.count ≡ tally l.h (filled l.heads)) × (l.count ≤ l.h)

abbrev pub decreases-loop-h : goal.decreases-loop-h
decreases-loop-h l = l.n - l.h
