-- The loop's invariant: the count so far and what is left of the slots make the whole.
use mathlib.Core.Path.{◌≡◌}
use Prim.Native.Nat.{◌+◌, ◌≤◌}
use Rattle.tree_rules.specs.Chain.{tally}
use Rattle.index_rules.specs.Sound.{used}
use Rattle.index.proofs.sound.used_slots.Given as goal

abbrev pub invariant-loop-k : goal.invariant-loop-k
invariant-loop-k l = (l.count + tally l.k (used l.cells) ≡ tally l.n (used l.cells)) × (l.count + l.k ≤ l.n)
