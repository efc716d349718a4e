-- "A set is accepted when": the rules' list, a definition for each clause, in its order. An entry is a slot that a list or a tree holds,
-- never one that only a chain visits.
use Rattle.std.specs.Prelude.{◌≡◌, ◌≢◌, ◌↔◌, List, [], ◌∷◌, ℕ, suc, ◌%◌, ◌<◌, ◌≤◌, length}
use Rattle.slots.specs.Words.{null, state, parent, left, right, prev, next, free, cell, name_of, hash_part}
use Rattle.slots.specs.Pairs.{pair_of}
use Rattle.tree_rules.specs.Check.{LinksNamed}
use Rattle.tree_rules.specs.Tree.{Tree, slots, times, Rooted, Shaped}
use Rattle.tree_rules.specs.Chain.{Chain}
use Rattle.index_rules.specs.Live.{Live}
use Rattle.index_rules.specs.Sound.{Cleared}
use Rattle.set_rules.specs.Words.{Set, tables_of, length_at, headers_in, root_at, first_at, count_at, Bin, empty, moved, bad, list, tree}
use Rattle.set_rules.specs.Words.{bin_at, bini}
use Rattle.tree_rules.specs.Find.{slots_of}

-- The slots of the set, as a live tree has them.
abbrev pub slotted : Set → Live
slotted s = record { names = s.names; cells = s.cells; head = []; sizes = [] }

-- There is a bin i of table k.
pub record BinThere (s : Set) (k i : ℕ) : Type 0 where
  pub table : k < tables_of s
  pub index : i < length_at s k

-- From the link i, next visits these slots, and the list ends.
pub data Listed (n : ℕ) (cells : List ℕ) : ℕ → List ℕ → Type 0 where
  ended : {i : ℕ} → i ≡ null → Listed n cells i []
  onward : {i : ℕ} {l : List ℕ} → i < n → Listed n cells (cell cells i next) l → Listed n cells i (i ∷ l)

-- The slots that a bin holds: those of its list, or those reached from the root of its tree.
pub data HeldIn (s : Set) : Bin → List ℕ → Type 0 where
  listed : {i : ℕ} {l : List ℕ} → Listed (slots_of s.names) s.cells i l → HeldIn s (list i) l
  grown : {h : ℕ} {t : Tree} → Rooted (slots_of s.names) s.cells (root_at s h) t → HeldIn s (tree h) (slots t)

-- Slot x is an entry of bin i of table k.
pub record EntryOf (s : Set) (k i x : ℕ) : Type 0 where
  pub there : BinThere s k i
  pub held : List ℕ
  pub holds : HeldIn s (bin_at s k i) held
  pub member : 1 ≤ times x held

-- "no bin word is bad"
abbrev pub NoneBad : Set → Type 0
NoneBad s = (k i : ℕ) → BinThere s k i → bin_at s k i ≢ bad

-- "states are 0, 1 or 2 and links null or name a slot"
pub record SlotWords (s : Set) : Type 0 where
  pub states : (x : ℕ) → x < slots_of s.names → cell s.cells x state ≤ 2
  pub links : (x : ℕ) → x < slots_of s.names → LinksNamed (slots_of s.names) s.cells x

-- "the last table has no Moved"
abbrev pub LastUnmoved : Set → Type 0
LastUnmoved s = (k i : ℕ) → BinThere s k i → suc k ≡ tables_of s → bin_at s k i ≢ moved

-- "a bin whose parent bin (index modulo the shorter length) is not Moved is empty"
abbrev pub ParentMoved : Set → Type 0
ParentMoved s = (k i : ℕ) → BinThere s (suc k) i → bin_at s k (i % length_at s k) ≢ moved → bin_at s (suc k) i ≡ empty

-- "every entry lies in the bin its hash names"
abbrev pub EntriesHome : Set → Type 0
EntriesHome s = (k i x : ℕ) → EntryOf s k i x → bini (length_at s k) (name_of s.names x hash_part) ≡ i

-- "no head is used by two bins": neither a list's nor a tree's.
pub record HeadsOnce (s : Set) : Type 0 where
  pub lists : (k i l j a : ℕ) → BinThere s k i → BinThere s l j → bin_at s k i ≡ list a → bin_at s l j ≡ list a → (k ≡ l) × (i ≡ j)
  pub trees : (k i l j h : ℕ) → BinThere s k i → BinThere s l j → bin_at s k i ≡ tree h → bin_at s l j ≡ tree h → (k ≡ l) × (i ≡ j)

-- "repeat no pair": each slot's pair is not that of any slot after it.
pub data Unlike (names : List ℕ) (x : ℕ) : List ℕ → Type 0 where
  last : Unlike names x []
  other : {y : ℕ} {l : List ℕ} → pair_of names x ≢ pair_of names y → Unlike names x l → Unlike names x (y ∷ l)

pub data Apart (names : List ℕ) : List ℕ → Type 0 where
  none : Apart names []
  one : {x : ℕ} {l : List ℕ} → Unlike names x l → Apart names l → Apart names (x ∷ l)

-- "a list slot has state 1 and only its next link set"
pub record ListSlot (cells : List ℕ) (x : ℕ) : Type 0 where
  pub states : cell cells x state ≡ 1
  pub parents : cell cells x parent ≡ null
  pub lefts : cell cells x left ≡ null
  pub rights : cell cells x right ≡ null
  pub prevs : cell cells x prev ≡ null

-- "lists end and repeat no pair, and a list slot has state 1 and only its next link set"
pub record GoodList (s : Set) (a : ℕ) : Type 0 where
  pub visits : List ℕ
  pub ends : Listed (slots_of s.names) s.cells a visits
  pub apart : Apart s.names visits
  pub plain : (x : ℕ) → 1 ≤ times x visits → ListSlot s.cells x

abbrev pub GoodLists : Set → Type 0
GoodLists s = (k i a : ℕ) → BinThere s k i → bin_at s k i ≡ list a → GoodList s a

-- "a header that a bin names has a root and a first, other headers are null with count 0"
pub record Headers (s : Set) : Type 0 where
  pub roots : (k i h : ℕ) → BinThere s k i → bin_at s k i ≡ tree h → root_at s h ≢ null
  pub firsts : (k i h : ℕ) → BinThere s k i → bin_at s k i ≡ tree h → first_at s h ≢ null
  pub other_root : (h : ℕ) → h < headers_in s → ((k i : ℕ) → BinThere s k i → bin_at s k i ≢ tree h) → root_at s h ≡ null
  pub other_first : (h : ℕ) → h < headers_in s → ((k i : ℕ) → BinThere s k i → bin_at s k i ≢ tree h) → first_at s h ≡ null
  pub other-count : (h : ℕ) → h < headers_in s → ((k i : ℕ) → BinThere s k i → bin_at s k i ≢ tree h) → count_at s h ≡ 0

-- "each tree obeys T3 to T6 over its own slots, whose number is the header's count"
abbrev pub GoodTrees : Set → Type 0
GoodTrees s = (k i h : ℕ) → BinThere s k i → bin_at s k i ≡ tree h → Shaped s.names s.cells (root_at s h) (count_at s h)

-- "its chain has as many slots as the tree, prev the reverse of next"; as E3 mends it, "a tree's chain visits exactly that tree's slots".
pub record GoodChain (s : Set) (k i h : ℕ) : Type 0 where
  pub visits : List ℕ
  pub linked : Chain (slots_of s.names) s.cells null (first_at s h) visits
  pub count : length visits ≡ count_at s h
  pub own : (x : ℕ) → (1 ≤ times x visits) ↔ EntryOf s k i x

abbrev pub GoodChains : Set → Type 0
GoodChains s = (k i h : ℕ) → BinThere s k i → bin_at s k i ≡ tree h → GoodChain s k i h

-- Slot x is an entry of one bin and of no other.
pub record InOne (s : Set) (x : ℕ) : Type 0 where
  pub table : ℕ
  pub index : ℕ
  pub entry : EntryOf s table index x
  pub only : (k i : ℕ) → EntryOf s k i x → (k ≡ table) × (i ≡ index)

-- "every used slot is in one list or tree, and free slots are cleared"
pub record Slots (s : Set) : Type 0 where
  pub used : (x : ℕ) → x < slots_of s.names → cell s.cells x state ≢ free → InOne s x
  pub cleared : (x : ℕ) → x < slots_of s.names → cell s.cells x state ≡ free → Cleared (slotted s) x

pub record Accepted (s : Set) : Type 0 where
  pub none_bad : NoneBad s
  pub words : SlotWords s
  pub last_unmoved : LastUnmoved s
  pub parent_moved_lem : ParentMoved s
  pub home : EntriesHome s
  pub heads : HeadsOnce s
  pub lists : GoodLists s
  pub headers : Headers s
  pub trees : GoodTrees s
  pub chains : GoodChains s
  pub slots : Slots s
