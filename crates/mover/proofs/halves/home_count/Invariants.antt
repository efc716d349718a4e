-- What is counted, and what there is from here on, is what there is from the first on.
use mathlib.Core.Path.{◌≡◌}
use Prim.Native.Nat.{◌+◌, ◌-◌, ◌≤◌}
use Rattle.move_rules.specs.Passes.{home_count}
use Rattle.mover.proofs.halves.home_count.Given as goal

abbrev pub invariant-loop : goal.invariant-loop
invariant-loop l =
    (l.count + home_count (l.most - l.counter) l.names l.cells l.length l.i l.p ≡ home_count l.most l.names l.cells l.length l.i l.first)
    × (l.count ≤ l.counter)
