use mathlib.Core.Path.{◌≡◌}
use Prim.Native.Nat.{◌-◌}
use Rattle.slots.specs.Words.{cell}
use Rattle.tree_rules.specs.Check.{in_range}
use Rattle.night_rules.specs.Why.{neg, lowest_with}
use Rattle.night_rules.specs.Breach.{link_with}
use Rattle.night.proofs.breach.stray_link.Given as goal

abbrev pub invariant-loop-f : goal.invariant-loop-f
invariant-loop-f l =
    lowest_with (7 - l.f) (λ g. neg (in_range l.n (cell l.cells l.i g))) l.f
    ≡ link_with (λ g. neg (in_range l.n (cell l.cells l.i g)))
