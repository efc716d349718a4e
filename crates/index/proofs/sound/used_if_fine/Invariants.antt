-- The loop's invariant: what is left of the slots decides whether all are fine, and with the count so far makes up the whole.
use mathlib.Core.Path.{◌≡◌}
use mathlib.Core.List.{[]}
use Prim.Native.Nat.{◌+◌, ◌≤◌}
use Rattle.tree_rules.specs.Chain.{tally}
use Rattle.index_rules.specs.Live.{lent_tree}
use Rattle.index_rules.specs.Sound.{used}
use Rattle.index.specs.Sound.{states_fine}
use Rattle.index.proofs.sound.used_if_fine.Given as goal

abbrev pub invariant-loop-k : goal.invariant-loop-k
invariant-loop-k l =
    (states_fine l.k (lent_tree l.names l.cells [] l.sizes) ≡ states_fine l.n (lent_tree l.names l.cells [] l.sizes))
    × (l.count + tally l.k (used l.cells) ≡ tally l.n (used l.cells)) × (l.count + l.k ≤ l.n)
