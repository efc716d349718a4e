-- The loop's invariant: the way from here, with what was met, ends as the way from the start does.
use mathlib.Core.Path.{◌≡◌}
use Prim.Native.Nat.{◌+◌, ◌≤◌, ◌-◌}
use Rattle.slots.specs.Words.{leftward}
use Rattle.night_rules.specs.Why.{way_on}
use Rattle.night.proofs.ways.lefts.Given as goal

abbrev pub invariant-loop : goal.invariant-loop
invariant-loop l = (way_on (l.n - l.counter) l.cells l.at leftward l.m ≡ way_on l.n l.cells l.p leftward l.k) ×
    (l.m + (l.n - l.counter) ≤ l.k + l.n)
