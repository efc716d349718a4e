-- "Lines m and up fit if, read backward, each insert line's pair is there at that point with that place, each remove line's pair is not
-- and there is a free slot, each replace line's pair is there with the new place, and no other kind occurs",
-- and a noted neighbour is there.
-- Over the listing and the number of free slots, with no driver in it.
use Rattle.std.specs.Prelude.{◌≡◌, ◌⊎◌, List, ◌∷◌, ℕ, suc, ◌<◌, ◌≤◌, length}
use Rattle.slots.specs.Words.{place, cell}
use Rattle.slots.specs.Pairs.{pair, pair_of}
use Rattle.tree_rules.specs.Find.{slots_of}
use Rattle.redblack.specs.Holding.{Stands}
use Rattle.index_rules.specs.Live.{Live}
use Rattle.index_rules.specs.Sound.{Sound}
use Rattle.index_rules.specs.Contents.{Entry, entry, listing, without, behind, with_place, In, HasPair, Lacks}
use Rattle.index_rules.specs.Index.{JournalLine, insert_kind, remove_kind, noted_kind, replace_kind, both_places, line_of}
use Rattle.index_rules.specs.Calls.{Lowest, Takes, Frees, OnlyPlace}

-- The entry of a line.
abbrev pub line_entry : JournalLine → Entry
line_entry j = entry j.hash j.key j.place

-- A pair can be put back into a tree of n slots: it is not there, and there is a free slot, since the entries are fewer than the slots. A
-- place is a 32-bit word.
pub record CanReturn (n : ℕ) (j : JournalLine) (l : List Entry) : Type 0 where
  pub lacks : Lacks j.hash j.key l
  pub room : length l < n
  pub small : j.place < 4294967296

-- `UndoneTo n j l l'`: from the listing l of a tree of n slots the line j is undone, and l' is left.
pub data UndoneTo (n : ℕ) (j : JournalLine) (l : List Entry) : List Entry → Type 0 where
  -- an insert line: its pair is there with that place
  insert_line : j.kind ≡ insert_kind → In (line_entry j) l → UndoneTo n j l (without j.hash j.key l)
  -- a remove line that notes no pair: its pair comes to the front
  remove_line : j.kind ≡ remove_kind → CanReturn n j l → UndoneTo n j l (line_entry j ∷ l)
  -- a remove line that notes a pair, which is there: its pair comes right behind that one
  behind_line : j.kind ≡ noted_kind → CanReturn n j l → HasPair j.prior_hash j.prior_key l
      → UndoneTo n j l (behind j.prior_hash j.prior_key (line_entry j) l)
  -- a replace line: its pair is there with the new place, and gets the old one; both are 32-bit words
  replace_line : {new old : ℕ} → j.kind ≡ replace_kind → j.place ≡ both_places new old → new < 4294967296 → old < 4294967296
      → In (entry j.hash j.key new) l → UndoneTo n j l (with_place j.hash j.key old l)

-- `Undoes n lines m k l l'`: the lines from k - 1 down to m are undone in turn.
pub data Undoes (n : ℕ) (lines : List ℕ) (m : ℕ) : ℕ → List Entry → List Entry → Type 0 where
  -- no line is left
  back : {k : ℕ} {l : List Entry} → k ≡ m → Undoes n lines m k l l
  -- line k goes, and then those below
  down : {k : ℕ} {l mid l' : List Entry} → m ≤ k → UndoneTo n (line_of lines k) l mid → Undoes n lines m k mid l'
      → Undoes n lines m (suc k) l l'

-- The lines from m up to the length k fit.
abbrev pub Fits : ℕ → List ℕ → ℕ → ℕ → List Entry → Type 0
Fits n lines m k l = (l' : List Entry) × Undoes n lines m k l l'

-- The slot x of a sound tree has the line's pair, with this place.
pub record LineSlot {t : Live} (h : Sound t) (j : JournalLine) (x p : ℕ) : Type 0 where
  pub stands : Stands x h.tree
  pub named : pair_of t.names x ≡ pair j.hash j.key
  pub placed : cell t.cells x place ≡ p

-- `SlotUndone h j u`: what undoing the line j does to the slots of a sound tree, "by the same drivers", and u is left.
pub data SlotUndone {t : Live} (h : Sound t) (j : JournalLine) (u : Live) : Type 0 where
  -- an insert line: the slot of its pair is free, as after a remove
  freeing : {x : ℕ} → j.kind ≡ insert_kind → LineSlot h j x j.place → Frees t u x → SlotUndone h j u
  -- a remove line: the lowest free slot takes its pair and its place, as at an insert
  taking : {x : ℕ} → (j.kind ≡ remove_kind) ⊎ (j.kind ≡ noted_kind) → Lowest t x → Takes t u x j.hash j.key j.place
      → SlotUndone h j u
  -- "Undoing a replace line writes the old place and nothing else."
  placing : {x new old : ℕ} → j.kind ≡ replace_kind → j.place ≡ both_places new old → new < 4294967296 → LineSlot h j x new
      → OnlyPlace t u x old → SlotUndone h j u

-- A line undone, on the slots and on the listing.
pub record LineUndone {t : Live} (h : Sound t) (j : JournalLine) {u : Live} (g : Sound u) : Type 0 where
  pub listed : UndoneTo (slots_of t.names) j (listing h) (listing g)
  pub slot : SlotUndone h j u

-- `LinesUndone lines m g k t h`: from the sound tree t the lines from k - 1 down to m are undone in turn, each on the tree that the one
-- above it left, and the last leaves g's.
pub data LinesUndone (lines : List ℕ) (m : ℕ) {u : Live} (g : Sound u) : ℕ → (t : Live) → Sound t → Type 0 where
  at_mark : {k : ℕ} → k ≡ m → LinesUndone lines m g k u g
  below : {k : ℕ} {t v : Live} {h : Sound t} {mid : Sound v} → m ≤ k → LineUndone h (line_of lines k) mid → LinesUndone lines m g k v mid
      → LinesUndone lines m g (suc k) t h
