-- What bytes may be loaded into lent slices, and why others are refused. Sets and bytes: nothing here knows of a loader.
use Rattle.std.specs.Prelude.{◌≡◌, List, ◌∷◌, ◌++◌, ℕ, zero, suc, ◌*◌, ◌^◌, ◌<◌, ◌≤◌, length}
use Rattle.slots.specs.Words.{cell, state}
use Rattle.endian.specs.Bytes.{little}
use Rattle.tree_rules.specs.Find.{slots_of}
use Rattle.set_rules.specs.Words.{Set, tables_of, headers_in, Fit}
use Rattle.set_rules.specs.Accepted.{Accepted}
use Rattle.file_rules.specs.File.{set_front, set_bytes, Wide}

-- The slices t can hold the set s.
pub record Larger (s t : Set) : Type 0 where
  pub lengths : length s.lengths ≤ length t.lengths
  pub bins : length s.bins ≤ length t.bins
  pub heads : length s.heads ≤ length t.heads
  pub names : length s.names ≤ length t.names
  pub cells : length s.cells ≤ length t.cells

-- A set that a file may hold, where these are the slices: whole headers and slots, no more than "8 tables, 8,160 bin words, 4,096 headers,
-- 4,096 slots" and than the slices hold, and words that their bytes hold.
pub record Loadable (t s : Set) : Type 0 where
  pub three : length s.heads ≡ 3 * headers_in s
  pub two : length s.names ≡ 2 * slots_of s.names
  pub seven : length s.cells ≡ 7 * slots_of s.names
  pub tables : tables_of s ≤ 8
  pub bins : length s.bins ≤ 8160
  pub headers : headers_in s ≤ 4096
  pub slots : slots_of s.names ≤ 4096
  pub larger : Larger s t
  pub wide : Wide s
  pub states : (x : ℕ) → x < slots_of s.names → cell s.cells x state < 256

-- c items of section n are within the limits and the slices.
unfoldable pub MayHold : Set → ℕ → ℕ → Type 0
MayHold t zero c = (c ≤ 8) × (c ≤ length t.lengths)
MayHold t (suc zero) c = (c ≤ 8160) × (c ≤ length t.bins)
MayHold t (suc (suc zero)) c = (c ≤ 4096) × (3 * c ≤ length t.heads)
MayHold t (suc (suc (suc n))) c = (c ≤ 4096) × ((2 * c ≤ length t.names) × (7 * c ≤ length t.cells))

-- "14 Over limit once a complete count passes its limit .. or its lent slice": whole sections of a set that may be loaded, then a count.
pub record OverLimit (t : Set) (l : List ℕ) : Type 0 where
  pub front : Set
  pub loadable : Loadable t front
  pub section : ℕ
  pub early : section < 4
  pub count : ℕ
  pub four : count < 2 ^ 32
  pub passes : MayHold t section count → ⊥
  pub rest : List ℕ
  pub is : l ≡ set_front front section ++ (little 4 count ++ rest)

-- 13: "a byte comes after the last section".
pub record LongFile (t : Set) (l : List ℕ) : Type 0 where
  pub front : Set
  pub loadable : Loadable t front
  pub byte : ℕ
  pub rest : List ℕ
  pub is : l ≡ set_bytes front ++ (byte ∷ rest)

-- The bytes of c items of section n.
unfoldable pub items_long : ℕ → ℕ → ℕ
items_long zero c = 4 * c
items_long (suc zero) c = 4 * c
items_long (suc (suc zero)) c = 12 * c
items_long (suc (suc (suc n))) c = 41 * c

-- What may have come of section n where it is not whole: fewer bytes than its count has, any of them since "14 waits for the count's last
-- byte"; or a count that may be taken, and fewer bytes than its items have.
pub data SectionPart (t : Set) (n : ℕ) : List ℕ → Type 0 where
  in_count : (held : List ℕ) → length held < 4 → SectionPart t n held
  in_items : (c : ℕ) (held : List ℕ) → MayHold t n c → length held < items_long n c → SectionPart t n (little 4 c ++ held)

-- 12: "the last section is not whole".
pub record ShortFile (t : Set) (l : List ℕ) : Type 0 where
  pub front : Set
  pub loadable : Loadable t front
  pub section : ℕ
  pub early : section < 4
  pub held : List ℕ
  pub begun : SectionPart t section held
  pub is : l ≡ set_front front section ++ held

-- The bytes are the file of this set.
pub record WholeFile (t : Set) (l : List ℕ) (s : Set) : Type 0 where
  pub loadable : Loadable t s
  pub is : l ≡ set_bytes s

-- What the end call answers of bytes that came from a start on: each number exactly when.
pub data LoadVerdict (t : Set) (l : List ℕ) : ℕ → Type 0 where
  accepts : (s : Set) → WholeFile t l s → Fit s → Accepted s → LoadVerdict t l 0
  unfit : (s : Set) → WholeFile t l s → (Fit s → ⊥) → LoadVerdict t l 1
  damaged : (s : Set) → WholeFile t l s → Fit s → (Accepted s → ⊥) → LoadVerdict t l 2
  over : OverLimit t l → LoadVerdict t l 14
  long : LongFile t l → LoadVerdict t l 13
  short : ShortFile t l → LoadVerdict t l 12
