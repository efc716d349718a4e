use mathlib.Core.Path.{◌≡◌}
use Prim.Native.Nat.{◌-◌}
use Rattle.night_rules.specs.Why.{lowest_with}
use Rattle.night_rules.specs.Breach.{link_with, is_set}
use Rattle.night.proofs.breach.set_link.Given as goal

abbrev pub invariant-loop-f : goal.invariant-loop-f
invariant-loop-f l = lowest_with (7 - l.f) (is_set l.cells l.i) l.f ≡ link_with (is_set l.cells l.i)
