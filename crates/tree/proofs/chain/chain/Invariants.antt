-- The loop's invariant: the walk from here, with the visits that are left, comes to what the whole walk comes to.
use mathlib.Core.Path.{◌≡◌}
use Prim.Native.Nat.{◌<◌, ◌≤◌, ◌^◌}
use Rattle.slots.specs.Words.{null}
use Rattle.tree_rules.specs.Chain.{chained}
use Rattle.tree.proofs.chain.chain.Given as goal

abbrev pub invariant-loop-i : goal.invariant-loop-i
invariant-loop-i l =
    (chained l.visits l.n l.cells l.q l.i ≡ chained l.n l.n l.cells null l.first) × (l.i < 2 ^ 32) × (l.q < 2 ^ 32) × (l.visits ≤ l.n)

abbrev pub decreases-loop-i : goal.decreases-loop-i
decreases-loop-i l = l.visits
