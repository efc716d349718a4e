-- The loop's invariant: whatever the test decides, the search from here finds what the search from the start finds.
use mathlib.Core.Path.{◌≡◌}
use mathlib.Core.Bool.{Bool}
use Prim.Native.Nat.{ℕ, ◌-◌, ◌<◌}
use Rattle.night_rules.specs.Why.{lowest_with}
use Rattle.night.proofs.search.lowest.Given as goal

abbrev pub invariant-loop-i : goal.invariant-loop-i
invariant-loop-i g l = (f : ℕ → Bool) → ((i : ℕ) → i < l.n → (b : Bool) → goal.F-post g l.shows i b → b ≡ f i) → lowest_with (l.n - l.i) f
    l.i ≡ lowest_with l.n f 0
