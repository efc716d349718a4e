-- The loop's invariant: the way from here leads there where the way from the start does.
use mathlib.Core.Path.{◌≡◌}
use Prim.Native.Nat.{◌-◌}
use Rattle.night_rules.specs.Why.{leads_to}
use Rattle.night.proofs.ways.leads_to.Given as goal

abbrev pub invariant-loop : goal.invariant-loop
invariant-loop l = leads_to (l.n - l.counter) l.cells l.f l.x l.at ≡ leads_to l.n l.cells l.f l.x l.k
