-- What a step of the walk comes to, in the rules' words and without its loop. Of the model only the record `WalkPoint` is used.
use Rattle.std.specs.Prelude.{◌≡◌, ◌≢◌, List, [], ◌∷◌, ℕ, suc, ◌+◌, ◌<◌, ◌≤◌, length, get_or, set}
use Rattle.slots.specs.Words.{null, next, cell}
use Rattle.slots.specs.Answers.{given, nothing, refused}
use Rattle.set_rules.specs.Words.{Set, tables_of, length_at, first_at, Bin, empty, moved, bad, list, tree, bin_at}
use Rattle.set_rules.specs.Cursor.{Cursor, index_at, Step}
use Rattle.set_rules.specs.Walk.{WalkPoint}
use Rattle.tree_rules.specs.Find.{slots_of}

-- A point of so many levels below the base table, with these indexes.
abbrev pub point_at : ℕ → List ℕ → WalkPoint
point_at d x = record { depth = d; indexes = x }

-- "the indexes name the next bin": the deepest one.
abbrev pub index_there : WalkPoint → ℕ
index_there p = get_or p.indexes p.depth 0

-- The bin that is named, and that it is there.
abbrev pub named : Set → ℕ → WalkPoint → Bin
named s base p = bin_at s (base + p.depth) (index_there p)

abbrev pub There : Set → ℕ → WalkPoint → Type 0
There s base p = index_there p < length_at s (base + p.depth)

-- Where a step from the cursor begins: at its depth and its eight indexes, "past the depth unread, handed back as 0".
pub record Begins (c : Cursor) (p : WalkPoint) : Type 0 where
  pub depth : p.depth ≡ c.depth
  pub eight : length p.indexes ≡ 8
  pub kept : (j : ℕ) → j ≤ c.depth → get_or p.indexes j 0 ≡ index_at c j
  pub past : (j : ℕ) → c.depth < j → get_or p.indexes j 0 ≡ 0

-- "after it comes that index plus the upper length, while below the lower length; then up"; in the base table comes the next bin.
pub data After (s : Set) (base : ℕ) : WalkPoint → WalkPoint → Type 0 where
  plus : {d : ℕ} {x : List ℕ}
      → get_or x (suc d) 0 + length_at s (base + d) < length_at s (base + suc d)
      → After s base (point_at (suc d) x) (point_at (suc d) (set x (suc d) (get_or x (suc d) 0 + length_at s (base + d))))
  up : {d : ℕ} {x : List ℕ} {q : WalkPoint}
      → length_at s (base + suc d) ≤ get_or x (suc d) 0 + length_at s (base + d)
      → After s base (point_at d (set x (suc d) 0)) q
      → After s base (point_at (suc d) x) q
  next-bin : {x : List ℕ} → After s base (point_at 0 x) (point_at 0 (set x 0 (get_or x 0 0 + 1)))

-- From a point, the walk comes to this one: past the empty bins, and down the Moved ones, "to the same index below".
pub data Comes (s : Set) (base : ℕ) (from : WalkPoint) : WalkPoint → Type 0 where
  start : Comes s base from from
  past : {p q : WalkPoint} → Comes s base from p → There s base p → named s base p ≡ empty → After s base p q → Comes s base from q
  down : {p : WalkPoint}
      → Comes s base from p
      → There s base p
      → named s base p ≡ moved
      → base + suc p.depth < tables_of s
      → Comes s base from (point_at (suc p.depth) (set p.indexes (suc p.depth) (index_there p)))

-- A step from the cursor c, whose last slot has no next, reads the bin b at the point p.
pub record Reads (s : Set) (c : Cursor) (b : Bin) (p : WalkPoint) : Type 0 where
  pub from : WalkPoint
  pub begins : Begins c from
  pub no_next : cell s.cells c.last next ≡ null
  pub comes : Comes s c.base from p
  pub there : There s c.base p
  pub bin : named s c.base p ≡ b

-- 9: "a read follows a link neither null nor a slot (source's check: see there), meets a tree header with null first (walk), a bad bin
-- word or Moved in the last table, or would visit one slot more than there are slots". The last never holds of a step: it visits the one
-- slot that it gives.
pub data Strays (s : Set) (c : Cursor) : Type 0 where
  stray_next : cell s.cells c.last next ≢ null → slots_of s.names ≤ cell s.cells c.last next → Strays s c
  bad_bin : {p : WalkPoint} → Reads s c bad p → Strays s c
  moved_last : {p : WalkPoint} → Reads s c moved p → tables_of s ≤ c.base + suc p.depth → Strays s c
  no_first : {p : WalkPoint} {h : ℕ} → Reads s c (tree h) p → first_at s h ≡ null → Strays s c
  stray_first_lem : {p : WalkPoint} {h : ℕ} → Reads s c (tree h) p → first_at s h ≢ null → slots_of s.names ≤ first_at s h → Strays s c

-- The cursor at a point, with the slot given.
abbrev pub moved_to : Cursor → WalkPoint → ℕ → Cursor
moved_to c p x = record { base = c.base; depth = p.depth; indexes = p.indexes; last = x }

-- What a step from a cursor that is not bad answers, and the cursor that comes back.
pub data Steps (s : Set) (c : Cursor) : Step → Type 0 where
  -- "the last slot's next, if any, comes first"
  by_next : {from : WalkPoint} {x : ℕ} → Begins c from → cell s.cells c.last next ≡ x → x ≢ null → x < slots_of s.names
      → Steps s c (record { answer = given x; cursor = moved_to c from x })
  by_list : {p q : WalkPoint} {x : ℕ} → Reads s c (list x) p → After s c.base p q
      → Steps s c (record { answer = given x; cursor = moved_to c q x })
  -- "A tree is walked from first by next."
  by_tree : {p q : WalkPoint} {h : ℕ} → Reads s c (tree h) p → first_at s h < slots_of s.names → After s c.base p q
      → Steps s c (record { answer = given (first_at s h); cursor = moved_to c q (first_at s h) })
  -- "Base index equal to the base length, at depth 0, is the end: with no such next it is Done, last slot then null"
  by_end : {from p : WalkPoint} → Begins c from → cell s.cells c.last next ≡ null → Comes s c.base from p → p.depth ≡ 0
      → index_there p ≡ length_at s c.base
      → Steps s c (record {
        answer = nothing;
        cursor = record { base = c.base; depth = 0; indexes = length_at s c.base ∷ 0 ∷ 0 ∷ 0 ∷ 0 ∷ 0 ∷ 0 ∷ 0 ∷ []; last = null };
      })
  lost : Strays s c → Steps s c (record { answer = refused 9; cursor = c })
