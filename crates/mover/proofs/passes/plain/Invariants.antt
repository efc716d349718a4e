-- What is left to do from here on comes to what there was to do from the start on.
use mathlib.Core.Path.{◌≡◌}
use Prim.Native.Nat.{◌-◌}
use Rattle.move_rules.specs.Passes.{plained}
use Rattle.mover.proofs.passes.plain.Given as goal

abbrev pub invariant-loop : goal.invariant-loop
invariant-loop l = plained (l.most - l.counter) l.cells l.p ≡ plained l.most l.initial.cells l.first
