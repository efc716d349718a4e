-- The loop's invariant: the search from this table has the answer of the whole search.
use mathlib.Core.Path.{◌≡◌}
use Prim.Native.Nat.{◌-◌, ◌*◌, ◌/◌, ◌≤◌}
use lib.ListN.{length}
use Rattle.tree_rules.specs.Find.{counted}
use Rattle.set_rules.specs.Words.{Set, bins_before}
use Rattle.set_rules.specs.Lookup.{forwarded}
use Rattle.sets.proofs.lookup.search.Given as goal

abbrev pub invariant-loop-k : goal.invariant-loop-k
invariant-loop-k l =
    let s : Set = record { lengths = l.lengths; bins = l.bins; heads = l.heads; names = l.names; cells = l.cells } in
    (counted (forwarded (length l.lengths - l.k) s l.k l.hash l.key) ≡ counted
    (forwarded (length l.lengths - l.table) s l.table l.hash l.key))
    × (l.n ≡ length l.names / 2)
    × (l.h ≡ length l.heads / 3)
    × (l.from ≡ bins_before l.lengths l.k)
    × (l.from ≤ 4294967295 * l.k)
