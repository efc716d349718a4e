-- The loop's invariant: what lies above here, with what was met, is what lies above the start.
use mathlib.Core.Path.{◌≡◌}
use Prim.Native.Nat.{◌+◌, ◌≤◌, ◌-◌}
use Rattle.night_rules.specs.Why.{blacks_above}
use Rattle.night.proofs.ways.blacks_above.Given as goal

abbrev pub invariant-loop : goal.invariant-loop
invariant-loop l = (blacks_above (l.n - l.counter) l.cells l.at + l.m ≡ blacks_above l.n l.cells l.i) × (l.m + (l.n - l.counter) ≤ l.n)
