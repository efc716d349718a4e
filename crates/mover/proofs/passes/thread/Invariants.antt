-- What is left to string from here on comes to what there was to string from the start on.
use mathlib.Core.Path.{◌≡◌}
use Prim.Native.Nat.{◌-◌}
use Rattle.slots.specs.Words.{null}
use Rattle.move_rules.specs.Passes.{threaded}
use Rattle.mover.proofs.passes.thread.Given as goal

abbrev pub invariant-loop : goal.invariant-loop
invariant-loop l =
    threaded (l.most - l.counter) l.names l.length l.i l.cells l.a l.b l.p
    ≡ threaded l.most l.names l.length l.i l.initial.cells null null l.first
