-- What comes of moving all bins, in the rules' words.
use Rattle.std.specs.Prelude.{◌≡◌, ◌↔◌, List, ℕ, suc, ◌+◌, ◌<◌, length}
use Rattle.slots.specs.Words.{place, cell}
use Rattle.set_rules.specs.Words.{Set, Fit, tables_of, length_at, moved, bin_at}
use Rattle.set_rules.specs.Accepted.{BinThere, EntryOf, Accepted}
use Rattle.set_rules.specs.Lookup.{lookups}
use Rattle.set_rules.specs.Held.{EntryFrom}
use Rattle.move_rules.specs.Moved.{SplitBin, BinMoved}

-- The set t has what s has: it is accepted, its slots have their pairs and places, and from table 0 it has the same entries.
pub record SameEntries (s t : Set) : Type 0 where
  pub fit : Fit t
  pub accepted : Accepted t
  pub lengths : t.lengths ≡ s.lengths
  pub names : t.names ≡ s.names
  pub places : (x : ℕ) → cell t.cells x place ≡ cell s.cells x place
  pub entries : (x : ℕ) → EntryFrom t 0 x ↔ EntryFrom s 0 x
  pub lookup : (hash key : ℕ) → (lookups t 0 hash key).answer ≡ (lookups s 0 hash key).answer

-- Every bin that comes before bin i of table k, table 0 first and bin 0 first, is Moved.
pub record MovedBefore (t : Set) (k i : ℕ) : Type 0 where
  pub tables : (m j : ℕ) → m < k → j < length_at t m → bin_at t m j ≡ moved
  pub bins : (j : ℕ) → j < i → bin_at t k j ≡ moved

-- "only the last table has entries"
pub record OnlyLast (t : Set) : Type 0 where
  pub moves : (k i : ℕ) → BinThere t k i → suc k < tables_of t → bin_at t k i ≡ moved
  pub entries : (k i x : ℕ) → EntryOf t k i x → suc k ≡ tables_of t

-- Bins moved one after another lead from the set s to this one: "how many entries were moved, one that goes down two tables counted twice",
-- so each move adds all entries of its bin.
pub data MovesMade (s : Set) : ℕ → Set → Type 0 where
  no_move : MovesMade s 0 s
  one_more_lem : {n k i : ℕ} {all low high : List ℕ} {t u : Set} → MovesMade s n t → SplitBin t k i all low high → BinMoved t k i low high u
      → MovesMade s (n + length all) u
