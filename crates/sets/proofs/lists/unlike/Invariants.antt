-- The loop's invariant: the walk from here, with what is left, comes to what the whole walk comes to.
use mathlib.Core.Path.{◌≡◌}
use Prim.Native.Nat.{◌<◌, ◌≤◌, ◌^◌}
use Rattle.set_rules.specs.Accepting.{unlike}
use Rattle.sets.proofs.lists.unlike.Given as goal

abbrev pub invariant-loop-y : goal.invariant-loop-y
invariant-loop-y l =
    (unlike l.left l.names l.cells l.x l.y ≡ unlike l.most l.names l.cells l.x l.first) × (l.y < 2 ^ 32) × (l.left ≤ l.most)

abbrev pub decreases-loop-y : goal.decreases-loop-y
decreases-loop-y l = l.left
