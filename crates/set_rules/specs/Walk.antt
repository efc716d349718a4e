-- "Walk. The cursor goes in by value and the new one comes back." The source's NodeIter, its stack of tables as eight indexes.
use Rattle.std.specs.Prelude.{◌≡◌, ◌⊎◌, List, [], ◌∷◌, ℕ, zero, suc, ◌+◌, ◌-◌, ◌*◌, ◌<◌, ◌≤◌, length, get_or, set, eqb, ltb, leb}
use Rattle.slots.specs.Words.{null, pick, next, cell}
use Rattle.slots.specs.Answers.{given, nothing, refused}
use Rattle.set_rules.specs.Words.{Set, tables_of, length_at, first_at, fits, Bin, empty, moved, bad, list, tree, bin_at}
use Rattle.set_rules.specs.Cursor.{Cursor, lone, Step, fine_cursor}
use Rattle.tree_rules.specs.Find.{slots_of}

-- Where a step stands: a depth, and the index at each level down to it. The deepest names the bin to be read.
pub record WalkPoint : Type 0 where
  pub depth : ℕ
  pub indexes : List ℕ

abbrev pub walk_point : ℕ → List ℕ → WalkPoint
walk_point d x = record { depth = d; indexes = x }

abbrev pub deepest : WalkPoint → ℕ
deepest p = get_or p.indexes p.depth 0

-- The bin at a point: of table base + depth.
abbrev pub bin_here : Set → ℕ → WalkPoint → Bin
bin_here s base p = bin_at s (base + p.depth) (deepest p)

-- "past the depth unread, handed back as 0"
unfoldable pub kept : ℕ → List ℕ → ℕ → ℕ
kept d x j = pick (leb j d) (get_or x j 0) 0

abbrev pub trimmed : ℕ → List ℕ → List ℕ
trimmed d x = kept d x 0 ∷ kept d x 1 ∷ kept d x 2 ∷ kept d x 3 ∷ kept d x 4 ∷ kept d x 5 ∷ kept d x 6 ∷ kept d x 7 ∷ []

-- "A Moved bin descends to the same index below"
abbrev pub below : Set → ℕ → WalkPoint → WalkPoint
below s base p = walk_point (suc p.depth) (set p.indexes (suc p.depth) (deepest p))

-- "that index plus the upper length", at level d + 1.
abbrev pub further : List ℕ → ℕ → ℕ → List ℕ → ℕ
further lengths base d x = get_or x (suc d) 0 + get_or lengths (base + d) 0

-- "after it comes that index plus the upper length, while below the lower length; then up": the source's recover_state, from depth d.
-- In the base table comes the next bin.
unfoldable pub advanced : ℕ → List ℕ → ℕ → List ℕ → WalkPoint
advanced zero lengths base x = walk_point 0 (set x 0 (get_or x 0 0 + 1))
advanced (suc d) lengths base x =
    pick (ltb (further lengths base d x) (get_or lengths (base + suc d) 0)) (walk_point (suc d) (set x (suc d) (further lengths base d x)))
    (advanced d lengths base (set x (suc d) 0))

-- A point that a step may stand at: its table is there, and each index is below its table's length,
-- or at depth 0 the base index is the end.
pub record InTables (lengths : List ℕ) (base : ℕ) (p : WalkPoint) : Type 0 where
  pub eight : length p.indexes ≡ 8
  pub few : length lengths ≤ 8
  pub twice : (k : ℕ) → suc k < length lengths → get_or lengths (suc k) 0 ≡ 2 * get_or lengths k 0
  pub deep : base + p.depth < length lengths
  pub within : (j : ℕ) → j < p.depth → get_or p.indexes j 0 < get_or lengths (base + j) 0
  pub last : (deepest p < get_or lengths (base + p.depth) 0) ⊎ ((p.depth ≡ 0) × (deepest p ≡ get_or lengths base 0))

-- The point after p.
abbrev pub went_on : Set → ℕ → WalkPoint → WalkPoint
went_on s base p = advanced p.depth s.lengths base p.indexes

-- What the loop over the bins comes to: an entry, and the point after it; the end; or it is lost.
pub data Sought : Type 0 where
  at : ℕ → WalkPoint → Sought
  ended lost : Sought

-- An entry is given with the point after its bin.
abbrev pub taken : Set → ℕ → WalkPoint → ℕ → Sought
taken s base p x = at x (went_on s base p)

-- One turn of it: the bin at the point p. A tree is walked from first, which is to be a slot.
abbrev pub entered : Set → ℕ → WalkPoint → Bin → (WalkPoint → Sought) → Sought
entered s base p empty rest = rest (went_on s base p)
entered s base p moved rest = pick (ltb (base + p.depth + 1) (tables_of s)) (rest (below s base p)) lost
entered s base p bad rest = lost
entered s base p (list x) rest = taken s base p x
entered s base p (tree h) rest = pick (ltb (first_at s h) (slots_of s.names)) (taken s base p (first_at s h)) lost

-- The loop, with so many turns left.
unfoldable pub sought : ℕ → Set → ℕ → WalkPoint → Sought
sought zero s base p = ended
sought (suc turns) s base p =
    pick (leb (length_at s (base + p.depth)) (deepest p)) ended
    (entered s base p (bin_here s base p) (λ q. sought turns s base q))

-- How many bins hang below a bin with so many tables left, itself counted.
unfoldable pub under : ℕ → ℕ
under zero = 0
under (suc m) = suc (under m + under m)

-- The bins of the base table and those below: no step needs more turns.
abbrev pub turns_in : Set → ℕ → ℕ
turns_in s base = length_at s base * under (tables_of s - base)

-- "Base index equal to the base length, at depth 0, is the end: with no such next it is Done, last slot then null"
abbrev pub done : Set → ℕ → Cursor
done s base = record { base = base; depth = 0; indexes = lone (length_at s base); last = null }

abbrev pub stepped : Set → Cursor → Sought → Step
stepped s c (at x p) = record { answer = given x; cursor = record { base = c.base; depth = p.depth; indexes = p.indexes; last = x } }
stepped s c ended = record { answer = nothing; cursor = done s c.base }
stepped s c lost = record { answer = refused 9; cursor = c }

-- Where the loop starts.
abbrev pub standing : Cursor → WalkPoint
standing c = walk_point c.depth (trimmed c.depth c.indexes)

-- A step from a cursor that is not bad: "the last slot's next, if any, comes first".
unfoldable pub steps_on : Set → Cursor → Step
steps_on s c =
    let link = cell s.cells c.last next in
    pick (eqb link null) (stepped s c (sought (turns_in s c.base) s c.base (standing c)))
    (pick (ltb link (slots_of s.names)) (stepped s c (at link (standing c))) (stepped s c lost))

-- "walk 1, 11, then 9", and a refusal hands back the same cursor.
unfoldable pub nexts : Set → Cursor → Step
nexts s c =
    pick (fits s) (pick (fine_cursor s c) (steps_on s c) (record { answer = refused 11; cursor = c }))
    (record { answer = refused 1; cursor = c })
