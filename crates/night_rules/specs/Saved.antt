-- What is said of a salvage, in the rules' words: which slots are kept, what the report says of each, and what is refused. None of it is
-- taken from the model.
use Rattle.std.specs.Prelude.{◌≡◌, ◌≢◌, ◌⊎◌, ◌↔◌, List, [], ◌∷◌, ℕ, zero, suc, ◌+◌, ◌*◌, ◌<◌, ◌≤◌, length, get_or, eqb}
use Rattle.slots.specs.Words.{null, pick, place, state, free, cell, name_of, hash_part, key_part, most_slots}
use Rattle.slots.specs.Pairs.{pair_of}
use Rattle.slots.specs.Answers.{given}
use Rattle.tree_rules.specs.Find.{slots_of}
use Rattle.tree_rules.specs.Chain.{tally}
use Rattle.tree_rules.specs.Sizes.{size_word}
use Rattle.index_rules.specs.Live.{Live, Fit, root_of, first_of, count_of}
use Rattle.index_rules.specs.Sound.{Cleared}
use Rattle.index_rules.specs.Index.{index}
use Rattle.index_rules.specs.Insert.{inserts}
use Rattle.index_rules.specs.Contents.{Entry, entry}

-- "The second tree is cleared where every slot is free and cleared, the header null, null, 0 and every size 0".
pub record ClearedTree (t : Live) : Type 0 where
  pub states : (i : ℕ) → i < slots_of t.names → cell t.cells i state ≡ free
  pub cleared : (i : ℕ) → i < slots_of t.names → Cleared t i
  pub root : root_of t ≡ null
  pub first : first_of t ≡ null
  pub count : count_of t ≡ 0
  pub sizes : (i : ℕ) → i < slots_of t.names → size_word t.sizes i ≡ 0

-- What is not fit is 1: "where the lengths of the first tree's names and cells are not those of 1 to 4,096 slots, where the second tree's
-- slices do not fit, also where the second tree is not cleared or of another capacity, or where the report has fewer words than there are
-- slots".
pub record FitSalvage (names cells : List ℕ) (u : Live) (report : List ℕ) : Type 0 where
  pub capacity : ℕ
  pub least : 1 ≤ capacity
  pub most : capacity ≤ most_slots
  pub two : length names ≡ 2 * capacity
  pub seven : length cells ≡ 7 * capacity
  pub second : Fit u
  pub same : second.capacity ≡ capacity
  pub cleared : ClearedTree u
  pub room : capacity ≤ length report

-- The pair and the place of slot i.
abbrev pub slot_entry : List ℕ → List ℕ → ℕ → Entry
slot_entry names cells i = entry (name_of names i hash_part) (name_of names i key_part) (cell cells i place)

-- "Each slot with state 1 or 2".
abbrev pub Usable : List ℕ → ℕ → Type 0
Usable cells i = (cell cells i state ≡ 1) ⊎ (cell cells i state ≡ 2)

-- The report's word of slot i is 0: "kept".
abbrev pub KeptSlot : List ℕ → ℕ → Type 0
KeptSlot report i = get_or report i null ≡ 0

-- What the report says of slot i, each "exactly where" the table has it.
pub record Reports (names cells report : List ℕ) (i : ℕ) : Type 0 where
  -- "its state is 1 or 2, and its pair is in no lower kept slot"
  pub kept : KeptSlot report i ↔ (Usable cells i × ((s : ℕ) → s < i → KeptSlot report s → pair_of names s ≢ pair_of names i))
  -- "in no lower slot with state 1 or 2"
  pub lowest : KeptSlot report i ↔ (Usable cells i × ((s : ℕ) → s < i → Usable cells s → pair_of names s ≢ pair_of names i))
  -- "its state is 0, whatever else stands in the slot"
  pub free : (get_or report i null ≡ 1) ↔ (cell cells i state ≡ 0)
  -- "its state is above 2"
  pub unknown : (get_or report i null ≡ 2) ↔ (2 < cell cells i state)
  -- "its state is 1 or 2, and s is a lower kept slot with its pair"
  pub repeats : (s : ℕ)
      → (get_or report i null ≡ 3 + s) ↔ (Usable cells i × (s < i) × KeptSlot report s × (pair_of names s ≡ pair_of names i))

-- How many slots below i are kept.
unfoldable pub kept_mark : List ℕ → ℕ → ℕ
kept_mark report i = pick (eqb (get_or report i null) 0) 1 0

abbrev pub kept_below : List ℕ → ℕ → ℕ
kept_below report i = tally i (kept_mark report)

-- The kept slots below i, the last first.
unfoldable pub kept_down : List ℕ → ℕ → List ℕ
kept_down report zero = []
kept_down report (suc i) = pick (eqb (get_or report i null) 0) (i ∷ kept_down report i) (kept_down report i)

-- "As the inserts of these entries in their order leave it": the list's last entry first, each by an insert that is accepted, with whatever
-- journal it is lent.
pub data Filled (u : Live) : List Entry → Live → Type 0 where
  unfilled : Filled u [] u
  filled_by : {l : List Entry} {v : Live} (e : Entry) (lines : List ℕ) (x : ℕ) → Filled u l v
      → (inserts (index v lines) e.hash e.key e.at).answer ≡ given x
      → Filled u (e ∷ l) (inserts (index v lines) e.hash e.key e.at).left.live
