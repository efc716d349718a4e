-- What an accepted set holds for a lookup, and the cursors that a walk makes.
use Rattle.std.specs.Prelude.{◌≡◌, ℕ, zero, suc, ◌<◌, ◌≤◌}
use Rattle.slots.specs.Pairs.{pair, pair_of}
use Rattle.set_rules.specs.Words.{Set, tables_of, length_at, bini}
use Rattle.set_rules.specs.Accepted.{EntryOf}
use Rattle.set_rules.specs.Lookup.{Reaches}
use Rattle.set_rules.specs.Cursor.{Cursor, starts}
use Rattle.set_rules.specs.Walk.{nexts}

-- An entry with the pair (hash, key), reached from t's bin for the hash down the Moved bins.
pub record Reached (s : Set) (t hash key slot : ℕ) : Type 0 where
  pub table : ℕ
  pub comes : Reaches s t hash table
  pub entry : EntryOf s table (bini (length_at s table) hash) slot
  pub has : pair_of s.names slot ≡ pair hash key

-- Slot x is an entry of the set, in a bin of table t or of a later one.
pub record EntryFrom (s : Set) (t x : ℕ) : Type 0 where
  pub table : ℕ
  pub index : ℕ
  pub later : t ≤ table
  pub entry : EntryOf s table index x

-- A cursor that start and next made.
pub data Made (s : Set) : Cursor → Type 0 where
  started : {t : ℕ} → t < tables_of s → Made s (starts s t).cursor
  stepped : {c : Cursor} → Made s c → Made s (nexts s c).cursor

-- The cursor after so many steps.
unfoldable pub cursor_after : ℕ → Set → Cursor → Cursor
cursor_after zero s c = c
cursor_after (suc n) s c = cursor_after n s (nexts s c).cursor
