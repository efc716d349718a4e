-- The loop's invariant: the count is that of the words so far, each counted once at most.
use mathlib.Core.Path.{◌≡◌}
use Prim.Native.Nat.{◌≤◌, ◌-◌}
use lib.ListN.{length}
use Rattle.tree_rules.specs.Chain.{tally}
use Rattle.set_rules.specs.Accepting.{naming}
use Rattle.sets.proofs.headers.naming_bins.Given as goal

abbrev pub invariant-loop-word : goal.invariant-loop-word
invariant-loop-word l = (l.count ≡ tally l.word-index (naming l.n l.h l.bins)) × (l.count ≤ l.word-index)

abbrev pub decreases-loop-word : goal.decreases-loop-word
decreases-loop-word l = length l.bins - l.word-index
