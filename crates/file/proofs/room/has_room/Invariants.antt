-- Each count is asked by itself.
use mathlib.Core.Path.{◌≡◌}
use mathlib.Core.Bool.{true}
use Prim.Native.Nat.{ℕ, ◌<◌}
use Rattle.set_rules.specs.Words.{lent_set}
use Rattle.file_rules.specs.Layout.{can_hold}
use Rattle.file_rules.specs.Loader.{count_taken}
use Rattle.file.specs.Meanings.{loader_words}
use Rattle.file.proofs.room.has_room.Given as goal

abbrev pub invariant-loop-s : goal.invariant-loop-s
invariant-loop-s l =
    (k : ℕ) → k < l.s → can_hold (lent_set l.lengths l.bins l.heads l.names l.cells) k (count_taken (loader_words l.r) k) ≡ true
