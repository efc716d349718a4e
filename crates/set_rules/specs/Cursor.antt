-- The walk's cursor: what it holds, which ones are bad, and the one that start makes.
use Rattle.std.specs.Prelude.{◌≡◌, ◌≢◌, Bool, true, List, [], ◌∷◌, ℕ, zero, suc, ◌+◌, ◌%◌, ◌<◌, ◌≤◌, length, get_or, eqb, ltb}
use Rattle.slots.specs.Words.{null, pick, ◌and◌}
use Rattle.slots.specs.Answers.{Answer, given, refused}
use Rattle.tree_rules.specs.Check.{in_range}
use Rattle.set_rules.specs.Words.{Set, tables_of, length_at, fits}
use Rattle.tree_rules.specs.Find.{slots_of}

-- "It holds base table, depth, eight indexes, the first the base index .., and the slot last given."
pub record Cursor : Type 0 where
  pub base : ℕ
  pub depth : ℕ
  pub indexes : List ℕ
  pub last : ℕ

-- The index at level j, which is that of table base + j.
abbrev pub index_at : Cursor → ℕ → ℕ
index_at c j = get_or c.indexes j 0

-- Eight indexes: the first, and zeros.
abbrev pub lone : ℕ → List ℕ
lone i = i ∷ 0 ∷ 0 ∷ 0 ∷ 0 ∷ 0 ∷ 0 ∷ 0 ∷ []

-- What start and next answer, and the cursor that comes with it.
pub record Step : Type 0 where
  pub answer : Answer
  pub cursor : Cursor

abbrev pub blank_cursor : Cursor
blank_cursor = record { base = 0; depth = 0; indexes = lone 0; last = 0 }

-- A cursor at the first bin of table t, with no slot given; 1, 10 hand back a cursor that is all zero.
unfoldable pub starts : Set → ℕ → Step
starts s t =
    pick (fits s)
    (pick (ltb t (tables_of s))
    (record { answer = given 1; cursor = record { base = t; depth = 0; indexes = lone 0; last = null } })
    (record { answer = refused 10; cursor = blank_cursor }))
    (record { answer = refused 1; cursor = blank_cursor })

-- "no such base table, indexes out of range (the end excepted) or not congruent to the level above modulo its length, depth past the
-- last table, last slot neither null nor a slot"
pub data BadCursor (s : Set) (c : Cursor) : Type 0 where
  no_base : tables_of s ≤ c.base → BadCursor s c
  too_deep : tables_of s ≤ c.base + c.depth → BadCursor s c
  out_of_range : (j : ℕ) → j ≤ c.depth → length_at s (c.base + j) ≤ index_at c j
      → ((c.depth ≡ 0) × (index_at c 0 ≡ length_at s c.base) → ⊥)
      → BadCursor s c
  not_congruent : (j : ℕ) → j < c.depth
      → index_at c (suc j) % length_at s (c.base + j) ≢ index_at c j % length_at s (c.base + j)
      → BadCursor s c
  stray_last : c.last ≢ null → slots_of s.names ≤ c.last → BadCursor s c

-- An index below one at i, in a table of `lower` bins under one of `upper`: the same, or that plus the upper length.
unfoldable pub level_fine : ℕ → ℕ → ℕ → ℕ → Bool
level_fine upper lower i k = ltb k lower and pick (eqb k i) true (eqb k (i + upper))

-- Each of the levels 1 to d is fine under the one above.
unfoldable pub levels_fine : ℕ → List ℕ → ℕ → List ℕ → Bool
levels_fine zero lengths base x = true
levels_fine (suc d) lengths base x =
    level_fine (get_or lengths (base + d) 0) (get_or lengths (base + suc d) 0) (get_or x d 0) (get_or x (suc d) 0)
    and levels_fine d lengths base x

-- The base index is below the base length, or at depth 0 the end.
unfoldable pub base_fine : ℕ → ℕ → ℕ → Bool
base_fine len depth i = pick (ltb i len) true (eqb depth 0 and eqb i len)

-- The test of a cursor, over tables of these lengths and n slots: numbers alone.
unfoldable pub fine : List ℕ → ℕ → ℕ → ℕ → List ℕ → ℕ → Bool
fine lengths n base depth x last =
    ltb (base + depth) (length lengths)
    and base_fine (get_or lengths base 0) depth (get_or x 0 0)
    and levels_fine depth lengths base x
    and in_range n last

abbrev pub fine_cursor : Set → Cursor → Bool
fine_cursor s c = fine s.lengths (slots_of s.names) c.base c.depth c.indexes c.last
