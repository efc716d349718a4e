-- What a move of one bin is, in the rules' words. Nothing here is the model's.
use Rattle.std.specs.Prelude.{◌≡◌, ◌≢◌, ◌⊎◌, ◌↔◌, List, [], ◌∷◌, ◌++◌, ℕ, suc, ◌+◌, ◌%◌, ◌<◌, ◌≤◌, length}
use Rattle.slots.specs.Words.{null, place, cell, name_of, hash_part, key_part}
use Rattle.tree_rules.specs.Find.{slots_of}
use Rattle.tree_rules.specs.Tree.{times}
use Rattle.redblack.specs.Links.{Links, read}
use Rattle.redblack.specs.Hanging.{inserted, spotted}
use Rattle.set_rules.specs.Words.{Set, Fit, tables_of, length_at, headers_in, root_at, first_at, count_at}
use Rattle.set_rules.specs.Words.{Bin, empty, moved, list, tree, bin_at}
use Rattle.set_rules.specs.Words.{bini}
use Rattle.set_rules.specs.Accepted.{BinThere, EntryOf, Accepted}
use Rattle.set_rules.specs.Lookup.{lookups}
use Rattle.set_rules.specs.Cursor.{Cursor, BadCursor, starts}
use Rattle.set_rules.specs.Walk.{nexts}
use Rattle.set_rules.specs.Ways.{Steps}
use Rattle.set_rules.specs.Whole.{Gives, Listing}

-- The second list has those slots of the first whose hash names bin j of a table of len bins, in their order.
pub data Chosen (names : List ℕ) (len j : ℕ) : List ℕ → List ℕ → Type 0 where
  none : Chosen names len j [] []
  taken : {x : ℕ} {l m : List ℕ} → bini len (name_of names x hash_part) ≡ j → Chosen names len j l m → Chosen names len j (x ∷ l) (x ∷ m)
  passed : {x : ℕ} {l m : List ℕ} → bini len (name_of names x hash_part) ≢ j → Chosen names len j l m → Chosen names len j (x ∷ l) m

-- "splits its entries between the two bins below by hash, keeps their listing order in each half": what bin i of table k gives, and the
-- two halves.
pub record SplitBin (s : Set) (k i : ℕ) (all low high : List ℕ) : Type 0 where
  pub gives : Gives s k i all
  pub lows : Chosen s.names (length_at s (suc k)) i all low
  pub highs : Chosen s.names (length_at s (suc k)) (i + length_at s k) all high

-- "no next table, no such bin, already Moved, or its parent bin not Moved"
pub data CannotMove (s : Set) (k i : ℕ) : Type 0 where
  no_next : tables_of s ≤ suc k → CannotMove s k i
  no_bin : length_at s k ≤ i → CannotMove s k i
  already : bin_at s k i ≡ moved → CannotMove s k i
  not_yet : (j : ℕ) → k ≡ suc j → bin_at s j (i % length_at s j) ≢ moved → CannotMove s k i

-- "Free are those that no bin names, and the bin's own, which is given back": no bin names it, but for the one that is moved.
pub record FreeHeader (s : Set) (k i h : ℕ) : Type 0 where
  pub inside : h < headers_in s
  pub unnamed : (m j : ℕ) → BinThere s m j → bin_at s m j ≡ tree h → (m ≡ k) × (j ≡ i)

-- "where headers run out": a half of more than six wants one, and there is none, or there are two such halves and not two headers.
pub data RunOut (s : Set) (k i : ℕ) (low high : List ℕ) : Type 0 where
  for_one : (6 < length low) ⊎ (6 < length high) → ((h : ℕ) → FreeHeader s k i h → ⊥) → RunOut s k i low high
  for_two : 6 < length low → 6 < length high → ((g h : ℕ) → FreeHeader s k i g → FreeHeader s k i h → g ≡ h) → RunOut s k i low high

-- "A half of one to six entries becomes a list, an empty one the word 0; a larger one becomes a tree"
pub data Form (l : List ℕ) : Bin → Type 0 where
  as_none : l ≡ [] → Form l empty
  as_few : {a : ℕ} → 1 ≤ length l → length l ≤ 6 → Form l (list a)
  as_many : {h : ℕ} → 6 < length l → Form l (tree h)

-- From the links s these slots are inserted in their order, each hung where the order says and then balanced, and r is left.
pub data Grows (names : List ℕ) : Links → List ℕ → Links → Type 0 where
  no_more : {s : Links} → Grows names s [] s
  one_more_lem : {s r : Links} {x : ℕ} {l : List ℕ}
      → Grows names
      (inserted (slots_of names) s x (spotted (slots_of names) names s (name_of names x hash_part) (name_of names x key_part))) l r
      → Grows names s (x ∷ l) r

-- "a tree built by inserting in listing order": the slots l, inserted in their order into an empty tree, have the words that they have
-- in s.
pub record Planted (s : Set) (h : ℕ) (l : List ℕ) : Type 0 where
  pub start : Links
  pub empty : start.root ≡ null
  pub end : Links
  pub grows : Grows s.names start l end
  pub root : root_at s h ≡ end.root
  pub words : (x f : ℕ) → 1 ≤ times x l → f < 7 → cell s.cells x f ≡ read end x f

-- Bin j of table m is neither the bin that is moved nor one of the two below it.
pub record Elsewhere (s : Set) (k i m j : ℕ) : Type 0 where
  pub here : (m ≡ k) × (j ≡ i) → ⊥
  pub low : (m ≡ suc k) × (j ≡ i) → ⊥
  pub high : (m ≡ suc k) × (j ≡ i + length_at s k) → ⊥

-- The set t is s with bin i of table k moved, whose halves are low and high.
pub record BinMoved (s : Set) (k i : ℕ) (low high : List ℕ) (t : Set) : Type 0 where
  -- "The set stays accepted."
  pub fit : Fit t
  pub accepted : Accepted t
  -- "slots keep their numbers, their pairs and their places. Names and lengths are never written."
  pub lengths : t.lengths ≡ s.lengths
  pub names : t.names ≡ s.names
  pub places : (x : ℕ) → cell t.cells x place ≡ cell s.cells x place
  -- "and writes Moved"
  pub word : bin_at t k i ≡ moved
  -- the halves stand below, each in its listing order and in the form that its size says
  pub low_gives : Gives t (suc k) i low
  pub low_form : Form low (bin_at t (suc k) i)
  pub high_gives : Gives t (suc k) (i + length_at s k) high
  pub high_form : Form high (bin_at t (suc k) (i + length_at s k))
  -- "in the whole listing the low half comes before the high half"
  pub in_order : Gives t k i (low ++ high)
  -- "lowest free header first, low half first"
  pub low_header_lem : (h : ℕ) → bin_at t (suc k) i ≡ tree h → FreeHeader s k i h × ((g : ℕ) → g < h → FreeHeader s k i g → ⊥)
  pub high_header_lem : (h : ℕ) → bin_at t (suc k) (i + length_at s k) ≡ tree h
      → FreeHeader s k i h × ((g : ℕ) → g < h → FreeHeader s k i g → bin_at t (suc k) i ≡ tree g)
  -- "a larger one becomes a tree built by inserting in listing order"
  pub low_planted : (h : ℕ) → bin_at t (suc k) i ≡ tree h → Planted t h low
  pub high_planted : (h : ℕ) → bin_at t (suc k) (i + length_at s k) ≡ tree h → Planted t h high
  -- "Every entry is afterwards in exactly one half, the one that its hash names"
  pub one_half : (x : ℕ) → EntryOf s k i x
      → ((bini (length_at s (suc k)) (name_of s.names x hash_part) ≡ i)
      × EntryOf t (suc k) i x × (EntryOf t (suc k) (i + length_at s k) x → ⊥))
      ⊎ ((bini (length_at s (suc k)) (name_of s.names x hash_part) ≡ i + length_at s k)
      × EntryOf t (suc k) (i + length_at s k) x × (EntryOf t (suc k) i x → ⊥))
  -- "and nothing is made or dropped"
  pub from_bin : (x : ℕ) → EntryOf t (suc k) i x ⊎ EntryOf t (suc k) (i + length_at s k) x → EntryOf s k i x
  -- "Every other bin has its word and the entries that it had, in the order that it had"
  pub other_words : (m j : ℕ) → BinThere s m j → Elsewhere s k i m j → bin_at t m j ≡ bin_at s m j
  pub other_entries : (m j : ℕ) → BinThere s m j → Elsewhere s k i m j → (x : ℕ) → EntryOf t m j x ↔ EntryOf s m j x
  pub other_order : (m j : ℕ) → BinThere s m j → Elsewhere s k i m j → bin_at s m j ≢ moved → (l : List ℕ) → Gives s m j l → Gives t m j l
  -- "no word of another slot is written, and none of a header that is not free"
  pub other-slots : (x : ℕ) → (EntryOf s k i x → ⊥) → (f : ℕ) → f < 7 → cell t.cells x f ≡ cell s.cells x f
  pub other_headers : (h : ℕ) → (FreeHeader s k i h → ⊥)
      → (root_at t h ≡ root_at s h) × (first_at t h ≡ first_at s h) × (count_at t h ≡ count_at s h)
  -- "A cursor from before the move is only promised to be safe: it is not bad where it was not, and a step from it is a step of section 7."
  pub cursors : (c : Cursor) → (BadCursor s c → ⊥) → (BadCursor t c → ⊥) × Steps t c (nexts t c)
  -- "Lookups from table 0, and from every table but k + 1, give the same slots"
  pub lookup : (from hash key : ℕ) → from < tables_of s → from ≢ suc k → (lookups t from hash key).answer ≡ (lookups s from hash key).answer
  -- "and so does a whole walk from there": each slot is given as often as before
  pub walk : (from : ℕ) → from < tables_of s → from ≢ suc k → (l m : List ℕ) → Listing s (starts s from).cursor l
      → Listing t (starts t from).cursor m
      → (x : ℕ) → times x m ≡ times x l
