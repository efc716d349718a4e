-- Calls on a live tree and its journal, one after another.
use Rattle.std.specs.Prelude.{◌≡◌, List, [], ◌∷◌, ◌++◌, ◌≢◌, ℕ, ◌+◌, ◌*◌, ◌<◌, ◌≤◌, length, get_or}
use Rattle.slots.specs.Words.{place, state, free, fields, cell}
use Rattle.slots.specs.Pairs.{pair, pair_of}
use Rattle.index_rules.specs.Live.{Live}
use Rattle.index_rules.specs.Index.{Index, Outcome, JournalLine, length_of, at, line_of, remove_kind, plain_line, noted_line}
use Rattle.index_rules.specs.Insert.{inserts}
use Rattle.index_rules.specs.Remove.{removes}
use Rattle.index_rules.specs.Replace.{replaces}
use Rattle.index_rules.specs.Rollback.{rolls}
use Rattle.index_rules.specs.Contents.{Entry, In}
use Rattle.tree_rules.specs.Find.{slots_of}

pub data Call : Type 0 where
  insert_call : ℕ → ℕ → ℕ → Call
  remove_call : ℕ → ℕ → Call
  replace_call : ℕ → ℕ → ℕ → Call
  rollback_call : ℕ → Call

abbrev pub called : Call → Index → Outcome
called (insert_call hash key p) ix = inserts ix hash key p
called (remove_call hash key) ix = removes ix hash key
called (replace_call hash key p) ix = replaces ix hash key p
called (rollback_call m) ix = rolls ix m

-- "Make any inserts and removes on them, refused ones too, and rollbacks to that mark or later ones", and "allows replaces among the
-- calls": what is left of the two.
unfoldable pub after : List Call → Index → Index
after [] ix = ix
after (c ∷ cs) ix = after cs (called c ix).left

-- A rollback is to the mark m or a later one; a place is a 32-bit word, as the call takes it.
pub data Allowed (m : ℕ) : List Call → Type 0 where
  nothing : Allowed m []
  inserting : {hash key p : ℕ} {cs : List Call} → p < 4294967296 → Allowed m cs → Allowed m (insert_call hash key p ∷ cs)
  removing : {hash key : ℕ} {cs : List Call} → Allowed m cs → Allowed m (remove_call hash key ∷ cs)
  replacing : {hash key p : ℕ} {cs : List Call} → p < 4294967296 → Allowed m cs → Allowed m (replace_call hash key p ∷ cs)
  rolling : {mark : ℕ} {cs : List Call} → m ≤ mark → Allowed m cs → Allowed m (rollback_call mark ∷ cs)

-- The places of a tree are 32-bit words, as the slice of cells holds them.
abbrev pub Places : List Entry → Type 0
Places l = (e : Entry) → In e l → e.at < 4294967296

-- There is a free slot, and x is the lowest.
pub record Lowest (t : Live) (x : ℕ) : Type 0 where
  pub inside : x < slots_of t.names
  pub unused : cell t.cells x state ≡ free
  pub lower : (k : ℕ) → k < x → cell t.cells k state ≢ free

abbrev pub NoneFree : Live → Type 0
NoneFree t = (k : ℕ) → k < slots_of t.names → cell t.cells k state ≢ free

-- The slot y has in u the pair and the place that it has in t.
pub record Alike (t u : Live) (y : ℕ) : Type 0 where
  pub pairs : pair_of u.names y ≡ pair_of t.names y
  pub places : cell u.cells y place ≡ cell t.cells y place

-- Every slot but x keeps its pair and its place.
abbrev pub OthersStay : Live → Live → ℕ → Type 0
OthersStay t u x = (y : ℕ) → y ≢ x → Alike t u y

-- The slot x takes the pair and its place, and the others stay.
pub record Takes (t u : Live) (x hash key p : ℕ) : Type 0 where
  pub named : pair_of u.names x ≡ pair hash key
  pub placed : cell u.cells x place ≡ p
  pub others : OthersStay t u x

-- The slot x is free after, and the others stay.
pub record Frees (t u : Live) (x : ℕ) : Type 0 where
  pub freed : cell u.cells x state ≡ free
  pub others : OthersStay t u x

-- A replace "writes the new place and nothing else in the tree": every word but the place of slot x is as it was.
pub record OnlyPlace (t u : Live) (x p : ℕ) : Type 0 where
  pub names : u.names ≡ t.names
  pub head : u.head ≡ t.head
  pub sizes : u.sizes ≡ t.sizes
  pub long : length u.cells ≡ length t.cells
  pub placed : cell u.cells x place ≡ p
  pub others : (j : ℕ) → j ≢ fields * x + place → get_or u.cells j 0 ≡ get_or t.cells j 0

-- "Each accepted insert, remove or replace appends one": the length, this line, and every other word as it was.
pub record OneLine (lines lines' : List ℕ) (j : JournalLine) : Type 0 where
  pub long : length lines' ≡ length lines
  pub count : length_of lines' ≡ length_of lines + 1
  pub line : line_of lines' (length_of lines) ≡ j
  pub below : (i : ℕ) → 0 < i → i < at (length_of lines) 0 → get_or lines' i 0 ≡ get_or lines i 0
  pub past : (i : ℕ) → at (length_of lines + 1) 0 ≤ i → get_or lines' i 0 ≡ get_or lines i 0

-- "A remove line also notes the pair that stood just before it in the chain, or that none did": the line of the entry e of a listing.
pub data Notes (e : Entry) (l : List Entry) : JournalLine → Type 0 where
  none : (b : List Entry) → l ≡ e ∷ b → Notes e l (plain_line remove_kind e.hash e.key e.at)
  one : (a b : List Entry) (q : Entry) → l ≡ a ++ (q ∷ (e ∷ b)) → Notes e l (noted_line e.hash e.key e.at q.hash q.key)

-- The journal rolled back to m: the kept lines are the old ones, the lines undone are zero, and the words past them as they were.
pub record BackTo (m : ℕ) (lines lines' : List ℕ) : Type 0 where
  pub long : length lines' ≡ length lines
  pub count : length_of lines' ≡ m
  pub below : (j : ℕ) → 0 < j → j < at m 0 → get_or lines' j 0 ≡ get_or lines j 0
  pub zeros : (j : ℕ) → at m 0 ≤ j → j < at (length_of lines) 0 → get_or lines' j 0 ≡ 0
  pub past : (j : ℕ) → at (length_of lines) 0 ≤ j → get_or lines' j 0 ≡ get_or lines j 0
