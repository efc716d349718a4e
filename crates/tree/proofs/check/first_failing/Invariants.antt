-- What is left of the tests comes to what all of them come to.
use mathlib.Core.Path.{◌≡◌}
use Prim.Native.Nat.{◌-◌}
use Rattle.tree_rules.specs.Check.{first_failing, first_from}
use Rattle.tree.proofs.check.first_failing.Given as goal

abbrev pub invariant-loop-t : goal.invariant-loop-t
invariant-loop-t l = first_from (9 - l.t) l.names l.cells l.t l.i ≡ first_failing l.names l.cells l.i
