-- The loop's invariant: the levels that are left have the answer of all.
use mathlib.Core.Path.{◌≡◌}
use Prim.Native.Nat.{◌≤◌}
use Rattle.set_rules.specs.Cursor.{levels_fine}
use Rattle.sets.proofs.cursor.levels_fine.Given as goal

abbrev pub invariant-loop-d : goal.invariant-loop-d
invariant-loop-d l = (levels_fine l.d l.lengths l.base l.indexes ≡ levels_fine l.depth l.lengths l.base l.indexes) × (l.d ≤ l.depth)

abbrev pub decreases-loop-d : goal.decreases-loop-d
decreases-loop-d l = l.d
