-- What is left to do from here on comes to what there was to do from the start on.
use mathlib.Core.Path.{◌≡◌}
use Prim.Native.Nat.{◌-◌}
use Rattle.slots.specs.Words.{null}
use Rattle.move_rules.specs.Passes.{backed}
use Rattle.mover.proofs.passes.back.Given as goal

abbrev pub invariant-loop : goal.invariant-loop
invariant-loop l = backed (l.most - l.counter) l.cells l.q l.p ≡ backed l.most l.initial.cells null l.first
