-- The loop's invariant: the way from here ends where the way from the start does.
use mathlib.Core.Path.{◌≡◌}
use Prim.Native.Nat.{◌-◌}
use Rattle.night_rules.specs.Why.{first_below}
use Rattle.night.proofs.ways.first_below.Given as goal

abbrev pub invariant-loop : goal.invariant-loop
invariant-loop l = first_below (l.n - l.counter) l.cells l.at ≡ first_below l.n l.cells l.i
