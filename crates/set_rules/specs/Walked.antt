-- What is proved of lookup and the walk.
use Rattle.std.specs.Prelude.{◌≡◌, ◌≢◌, ◌↔◌, List, [], ℕ, suc, ◌+◌, ◌-◌, ◌*◌, ◌^◌, ◌<◌, ◌≤◌, length}
use Rattle.slots.specs.Words.{null, name_of, hash_part, key_part}
use Rattle.slots.specs.Pairs.{pair, pair_of}
use Rattle.slots.specs.Answers.{given, nothing, refused}
use Rattle.tree_rules.specs.Find.{slots_of, Follows as Descends}
use Rattle.tree_rules.specs.Tree.{times}
use Rattle.tree_rules.specs.Looks.{LooksAt}
use Rattle.tree_rules.specs.Chain.{tally}
use Rattle.index_rules.specs.Sound.{used}
use Rattle.set_rules.specs.Words.{Set, tables_of, length_at, root_at, count_at, Fit, empty, moved, bad, list, tree}
use Rattle.set_rules.specs.Accepted.{Accepted, Listed}
use Rattle.set_rules.specs.Lookup.{home_bin, lookups, lookups_fit, ListFollows, Reaches, Astray, Hit, Miss}
use Rattle.set_rules.specs.Cursor.{Cursor, Step, index_at, lone, blank_cursor, starts, BadCursor}
use Rattle.set_rules.specs.Walk.{nexts}
use Rattle.set_rules.specs.Ways.{Strays, Steps}
use Rattle.set_rules.specs.NodeIter.{next_called, state_of, IsCall}
use Rattle.set_rules.specs.RawTable.{find_moved, find}
use Rattle.tree_rules.specs.Source.{Wild, FindRun, ReturnsSame}
use Rattle.set_rules.specs.Held.{Reached, EntryFrom, Made, cursor_after}
use Rattle.set_rules.specs.Whole.{Onward, Listing}

-- Lookup on any words: "lookup and start 1, 10, then 9", each exactly when, and else what the bin says that the loop comes to.
pub record Lookups (s : Set) (t hash key : ℕ) : Type 0 where
  pub one : ((lookups s t hash key).answer ≡ refused 1) ↔ (Fit s → ⊥)
  pub ten : ((lookups s t hash key).answer ≡ refused 10) ↔ (Fit s × (tables_of s ≤ t))
  pub nine : ((lookups s t hash key).answer ≡ refused 9) ↔ (Fit s × (t < tables_of s) × Astray s t hash key)
  pub at : (slot : ℕ) → ((lookups s t hash key).answer ≡ given slot) ↔ (Fit s × (t < tables_of s) × Hit s t hash key slot)
  pub none : ((lookups s t hash key).answer ≡ nothing) ↔ (Fit s × (t < tables_of s) × Miss s t hash key)
  -- 1 and 10 have no looks
  pub one_looks : (Fit s → ⊥) → (lookups s t hash key).looks ≡ []
  pub ten_looks : Fit s → tables_of s ≤ t → (lookups s t hash key).looks ≡ []
  -- there are never more than slots
  pub most : length (lookups s t hash key).looks ≤ slots_of s.names

-- What lookup looks at from a table of a fit set: what the bin has that the loop comes to.
pub record LookupLooks (s : Set) (t hash key : ℕ) : Type 0 where
  -- a list's slots by next, and a tree's as find_tree_node follows them
  pub in_list : {k p : ℕ} → Reaches s t hash k → home_bin s k hash ≡ list p
      → LooksAt s.names hash key (ListFollows s.names s.cells p hash key) (lookups s t hash key)
  pub in_tree : {k h : ℕ} → Reaches s t hash k → home_bin s k hash ≡ tree h
      → LooksAt s.names hash key (Descends s.names s.cells (root_at s h) hash key) (lookups s t hash key)
  -- in any other bin there is nothing to look at
  pub in_none : {k : ℕ} → Reaches s t hash k → home_bin s k hash ≡ empty → (lookups s t hash key).looks ≡ []
  pub bad_bin : {k : ℕ} → Reaches s t hash k → home_bin s k hash ≡ bad → (lookups s t hash key).looks ≡ []
  pub moved_last : {k : ℕ} → Reaches s t hash k → home_bin s k hash ≡ moved → tables_of s ≤ suc k → (lookups s t hash key).looks ≡ []

-- Lookup on an accepted set: the slot exactly where an entry with that pair is reached from t's bin for the hash, Nothing where not.
pub record LooksUp (s : Set) (t hash key : ℕ) : Type 0 where
  pub at : (slot : ℕ) → ((lookups s t hash key).answer ≡ given slot) ↔ Reached s t hash key slot
  pub none : ((lookups s t hash key).answer ≡ nothing) ↔ ((slot : ℕ) → Reached s t hash key slot → ⊥)
  pub never : (n : ℕ) → 1 ≤ n → (lookups s t hash key).answer ≢ refused n
  -- and no slot is looked at twice
  pub once : (x : ℕ) → times x (lookups s t hash key).looks ≤ 1
  -- "For lookup the limit holds where the last bin is a tree of an accepted set"; in a list there are no more looks than it is long
  pub tree_not_deep : {k h : ℕ} → Reaches s t hash k → home_bin s k hash ≡ tree h
      → 2 ^ length (lookups s t hash key).looks ≤ (count_at s h + 1) * (count_at s h + 1)
  pub list_most : {k p : ℕ} {l : List ℕ} → Reaches s t hash k → home_bin s k hash ≡ list p → Listed (slots_of s.names) s.cells p l
      → length (lookups s t hash key).looks ≤ length l

-- Lookup is the source's, whose text specs/RawTable.antt has, whatever a load behind null and a bin that it has no arm for would come to.
-- Where ours is 9, `nine` above says why.
pub record LooksAsSource (wild : Wild) (lost : FindRun) (s : Set) (t hash key : ℕ) : Type 0 where
  -- the loop from table t on, in as many turns as there are tables from there
  pub loop : ReturnsSame (lookups s t hash key).answer (find_moved wild lost s hash key (tables_of s - t) t)
  -- and `find` with the bin of table t, where it is not null
  pub bin : home_bin s t hash ≢ empty
      → ReturnsSame (lookups s t hash key).answer (find wild lost s hash key (tables_of s - suc t) t (home_bin s t hash))

-- Start: 1, then 10, with a cursor that is all zero; else a cursor at the first bin of the table.
pub record Starts (s : Set) (t : ℕ) : Type 0 where
  pub one : (starts s t ≡ record { answer = refused 1; cursor = blank_cursor }) ↔ (Fit s → ⊥)
  pub ten : (starts s t ≡ record { answer = refused 10; cursor = blank_cursor }) ↔ (Fit s × (tables_of s ≤ t))
  pub made : (starts s t ≡ record { answer = given 1; cursor = record { base = t; depth = 0; indexes = lone 0; last = null } })
      ↔ (Fit s × (t < tables_of s))

-- Next on any words and any cursor: "walk 1, 11, then 9", each exactly when, with the same cursor; and else what the rules say of a step.
pub record Nexts (s : Set) (c : Cursor) : Type 0 where
  pub one : (nexts s c ≡ record { answer = refused 1; cursor = c }) ↔ (Fit s → ⊥)
  pub eleven : (nexts s c ≡ record { answer = refused 11; cursor = c }) ↔ (Fit s × BadCursor s c)
  pub nine : (nexts s c ≡ record { answer = refused 9; cursor = c }) ↔ (Fit s × (BadCursor s c → ⊥) × Strays s c)
  pub steps : Fit s → (BadCursor s c → ⊥) → (r : Step) → (nexts s c ≡ r) ↔ Steps s c r
  -- "A refusal returns its number (walk: also the same cursor)"
  pub refuses : (n : ℕ) → 1 ≤ n → (nexts s c).answer ≡ refused n → nexts s c ≡ record { answer = refused n; cursor = c }
  -- "past the depth unread, handed back as 0"
  pub past_depth : (x : ℕ) → (nexts s c).answer ≡ given x → (j : ℕ) → (nexts s c).cursor.depth < j → index_at (nexts s c).cursor j ≡ 0
  -- "Done stays Done"
  pub done : (nexts s c).answer ≡ nothing → nexts s (nexts s c).cursor ≡ nexts s c

-- The walk of an accepted set: no step is refused, and repeated steps reach Done.
pub record WalkFrom (s : Set) (c : Cursor) : Type 0 where
  pub never : (n : ℕ) → 1 ≤ n → (nexts s c).answer ≢ refused n
  pub ends : (n : ℕ) × ((nexts s (cursor_after n s c)).answer ≡ nothing)

-- Lookup on an accepted set is the set's map: from table t it answers x exactly if x is an entry of table t or of a later one and has the
-- pair, so from table 0 exactly if x is an entry, in whatever bin; and no two entries have one pair.
pub record Map (s : Set) : Type 0 where
  pub at : (t hash key x : ℕ) → t < tables_of s
      → ((lookups s t hash key).answer ≡ given x) ↔ (EntryFrom s t x × (pair_of s.names x ≡ pair hash key))
  pub apart : (x y : ℕ) → EntryFrom s 0 x → EntryFrom s 0 y → pair_of s.names x ≡ pair_of s.names y → x ≡ y

-- A whole walk of an accepted set, from the start of table t until Done.
pub record WholeWalk (s : Set) (t : ℕ) : Type 0 where
  -- the slots that its steps give, as one list, and no other list is what they give
  pub given-slots : List ℕ
  pub steps : Listing s (starts s t).cursor given-slots
  pub only : (l : List ℕ) → Listing s (starts s t).cursor l → l ≡ given-slots
  -- they are what the rules say of the bins, in that order: bins as the walk comes to them, a list by next, a tree from first by next
  pub order : (l : List ℕ) → Onward s t 0 l ↔ (l ≡ given-slots)
  -- from table 0: as many as the slots that are not free
  pub count : t ≡ 0 → length given-slots ≡ tally (slots_of s.names) (used s.cells)
  -- they are the entries of table t and of those below, and no slot is given twice
  pub entries : (x : ℕ) → (1 ≤ times x given-slots) ↔ EntryFrom s t x
  pub once : (x : ℕ) → times x given-slots ≤ 1
  -- from table 0: every slot that is not free, once
  pub all : t ≡ 0 → (x : ℕ) → x < slots_of s.names → used s.cells x ≡ times x given-slots
  -- lookup and walk agree: a slot is given exactly if lookup of its own pair answers it
  pub agree : (x : ℕ)
      → (1 ≤ times x given-slots) ↔ ((lookups s t (name_of s.names x hash_part) (name_of s.names x key_part)).answer ≡ given x)

pub record Walked : Type 0 where
  pub looking : (s : Set) (t hash key : ℕ) → Lookups s t hash key
  pub looks : (s : Set) → Fit s → (t hash key : ℕ) → t < tables_of s → LookupLooks s t hash key
  -- on words that fit the loop alone is lookup
  pub looking_fit : (s : Set) → Fit s → (t hash key : ℕ) → t < tables_of s → lookups_fit s t hash key ≡ lookups s t hash key
  pub looks_as_source : (wild : Wild) (lost : FindRun) (s : Set) → Fit s → (t hash key : ℕ) → t < tables_of s
      → LooksAsSource wild lost s t hash key
  pub starting : (s : Set) (t : ℕ) → Starts s t
  pub stepping : (s : Set) (c : Cursor) → Nexts s c
  -- a step is a call of the source's next from the same state, and that call has ended within so many turns
  pub as_source : (s : Set) → Fit s → (c : Cursor) → (BadCursor s c → ⊥)
      → (enough : ℕ)
      × ((turns : ℕ) → enough < turns → IsCall s c (nexts s c) (next_called turns s (length_at s c.base) (state_of s c) c.last))
  -- a cursor that start or next made is never bad, on every fit set
  pub made_never_bad : (s : Set) → Fit s → (c : Cursor) → Made s c → BadCursor s c → ⊥
  pub looking_accepted : (s : Set) → Fit s → Accepted s → (t hash key : ℕ) → t < tables_of s → LooksUp s t hash key
  pub walking_accepted : (s : Set) → Fit s → Accepted s → (c : Cursor) → Made s c → WalkFrom s c
  pub mapping_accepted : (s : Set) → Fit s → Accepted s → Map s
  pub whole_walk : (s : Set) → Fit s → Accepted s → (t : ℕ) → t < tables_of s → WholeWalk s t
