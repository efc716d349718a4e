-- The loop's invariant: the way up from here ends where the way from the start does.
use mathlib.Core.Path.{◌≡◌}
use Prim.Native.Nat.{◌-◌}
use Rattle.night_rules.specs.Why.{next_above}
use Rattle.night.proofs.ways.next_above.Given as goal

abbrev pub invariant-loop : goal.invariant-loop
invariant-loop l = next_above (l.n - l.counter) l.cells l.at ≡ next_above l.n l.cells l.i
