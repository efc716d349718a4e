-- The loop's invariant: the search from here finds what the search from the start finds.
use mathlib.Core.Path.{◌≡◌}
use Prim.Native.Nat.{◌-◌}
use Rattle.index_rules.specs.Insert.{free_from}
use Rattle.index.proofs.grow.lowest_free.Given as goal

abbrev pub invariant-loop-k : goal.invariant-loop-k
invariant-loop-k l = free_from (l.n - l.k) l.cells l.k ≡ free_from (l.n - l.floor) l.cells l.floor
