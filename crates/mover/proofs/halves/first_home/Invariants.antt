-- The first from here on is the first from the start on, as long as none was met.
use mathlib.Core.Path.{◌≡◌}
use Prim.Native.Nat.{◌-◌}
use Rattle.move_rules.specs.Passes.{first_home}
use Rattle.mover.proofs.halves.first_home.Given as goal

abbrev pub invariant-loop : goal.invariant-loop
invariant-loop l = first_home (l.most - l.counter) l.names l.cells l.length l.i l.p ≡ first_home l.most l.names l.cells l.length l.i l.first
