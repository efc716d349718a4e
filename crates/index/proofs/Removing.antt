-- remove_sound as its tests settle it, and what an accepted one leaves.
use mathlib.Core.Path.{◌≡◌}
use mathlib.Core.List.{List}
use Prim.Native.Nat.{ℕ}
use Rattle.slots.specs.Answers.{given}
use Rattle.index_rules.specs.Live.{Live}
use Rattle.index_rules.specs.Index.{Index, index, outcome, appended}
use Rattle.index_rules.specs.Remove.{shrunk, removal_of, after_remove}
use Rattle.index_rules.specs.Checked.{removes_sound}
use Rattle.index.proofs.Asking.{Settled}
use Rattle.index.proofs.Presenting.{settled_by}

module _ (ix : Index) (hash key : ℕ) where
  pub settled : Settled ix (after_remove ix hash key) (removes_sound ix hash key)
  unfolding removes_sound
  settled = settled_by ix hash key (after_remove ix hash key)

  pub left : {x : ℕ} {u : Live} {l : List ℕ} → l ≡ appended ix.lines (removal_of ix.live hash key x) → u ≡ shrunk ix.live x
      → outcome (given x) (after_remove ix hash key x) ≡ removes_sound ix hash key
      → outcome (given x) (index u l) ≡ removes_sound ix hash key
  unfolding after_remove
  left f e3 e = rw (e3, f) e
