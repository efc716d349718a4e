-- The loop's invariant: the indexes so far are those of the model.
use mathlib.Core.Path.{◌≡◌}
use Prim.Native.Nat.{ℕ, ◌<◌}
use lib.ListN.{length, get_or}
use Rattle.set_rules.specs.Walk.{kept}
use Rattle.sets.proofs.cursor.trim.Given as goal

abbrev pub invariant-loop-j : goal.invariant-loop-j
invariant-loop-j l = (length l.trimmed ≡ 8) × ((k : ℕ) → k < l.j → get_or l.trimmed k 0 ≡ kept l.depth l.indexes k)
