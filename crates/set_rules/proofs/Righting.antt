-- The cursors that start and next make are right, on any fit set: each index is right under the one above, where a step begins, where it
-- comes to and where it hands on.
use mathlib.Core.Path.{◌≡◌, refl, ap, sym, ◌∙◌}
use mathlib.Core.Logic.{◌⊎◌, inl, inr}
use mathlib.Core.List.{List}
use Prim.Native.Nat.{ℕ, zero, suc, ◌+◌, ◌-◌, ◌*◌, ◌<◌}
use native.Mathlib.Nat.{add-zero}
use native.Mathlib.Decide.{ℕ_discrete, dec_lt}
use native.Mathlib.Omega.{arith}
use lib.ListN.{length, get_or, set, length-set}
use lib.Seq.{get_or-set_same, get_or-set_other}
use Rattle.slots.specs.Words.{null}
use Rattle.set_rules.specs.Words.{Set, headers_in, first_at, Fit, Bin, bin_word}
use Rattle.set_rules.proofs.Fit.{length_least}
use Rattle.set_rules.proofs.Naming.{ranges}
use Rattle.set_rules.specs.Cursor.{Cursor, Step, BadCursor}
use Rattle.set_rules.specs.Walk.{WalkPoint, walk_point, deepest, advanced, InTables, standing, nexts}
use Rattle.set_rules.specs.Ways.{After, Comes, Reads, Steps, moved_to}
use Rattle.set_rules.specs.Held.{Made}
use Rattle.set_rules.proofs.Turns.{on, twice_at, advanced_lt, advanced_ge}
use Rattle.set_rules.proofs.Cursors.{Under, Right, right-not_bad, right-stands, trimmed_same}
use Rattle.set_rules.proofs.Beginning.{begins_is, read_comes}
use Rattle.set_rules.proofs.Seeking.{good_onward}
use Rattle.set_rules.proofs.Stepping.{onward-after, comes_good, steps_walked}
use Rattle.set_rules.proofs.Gates.{start_made, next-walked}
use Rattle.tree_rules.specs.Find.{slots_of}

-- Each level is right under the one above.
abbrev Levels : List ℕ → ℕ → WalkPoint → Type 0
Levels lengths base p =
    (j : ℕ) → j < p.depth
    → Under (get_or lengths (base + j) 0) (get_or lengths (base + suc j) 0) (get_or p.indexes j 0) (get_or p.indexes (suc j) 0)

module _ (lengths : List ℕ) (base : ℕ) (twice : (k : ℕ) → suc k < length lengths → get_or lengths (suc k) 0 ≡ 2 * get_or lengths k 0) where
  -- A write at level e leaves the levels above it.
  levels_set : (d e v : ℕ) (x : List ℕ) → d < e → Levels lengths base (walk_point d x) → Levels lengths base (walk_point d (set x e v))
  levels_set d e v x l h j k =
      let a = get_or-set_other x e j v 0 (omega arith) in
      let b = get_or-set_other x e (suc j) v 0 (omega arith) in
      rw (a, b) (h j k)

  -- One level more.
  levels_more : (d v : ℕ) (x : List ℕ) → length x ≡ 8 → suc d < 8 → Levels lengths base (walk_point d x)
      → Under (get_or lengths (base + d) 0) (get_or lengths (base + suc d) 0) (get_or x d 0) v
      → Levels lengths base (walk_point (suc d) (set x (suc d) v))
  levels_more d v x e l h u j k = go (ℕ_discrete j d)
    where
      go : Dec (j ≡ d)
          → Under (get_or lengths (base + j) 0) (get_or lengths (base + suc j) 0) (get_or (set x (suc d) v) j 0)
          (get_or (set x (suc d) v) (suc j) 0)
      go (yes f) =
          let a = get_or-set_other x (suc d) d v 0 (omega arith) in
          let b = get_or-set_same x (suc d) v 0 (omega arith) in
          rw (f, a, b) u
      go (no n) = levels_set d (suc d) v x (omega arith) h j (omega arith)

  above : (d : ℕ) (x : List ℕ) → Levels lengths base (walk_point (suc d) x) → Levels lengths base (walk_point d x)
  above d x h = λ j k. h j (omega arith)

  levels_advanced : (d : ℕ) (x : List ℕ) → length x ≡ 8 → d < 8 → base + d < length lengths → Levels lengths base (walk_point d x)
      → Levels lengths base (advanced d lengths base x)
  unfolding advanced
  levels_advanced zero x e l b h = λ j k. absurd (omega arith)
  levels_advanced (suc d) x e l b h =
      go (dec_lt (on lengths base d x) (get_or lengths (base + suc d) 0))
      (levels_advanced d (set x (suc d) 0) (length-set x (suc d) 0 ∙ e) (omega arith) (omega arith)
      (levels_set d (suc d) 0 x (omega arith) (above d x h)))
    where
      under : on lengths base d x < get_or lengths (base + suc d) 0
          → Under (get_or lengths (base + d) 0) (get_or lengths (base + suc d) 0) (get_or x d 0) (on lengths base d x)
      under k = (k, by (h d (omega arith)).1)
        where
          by : (get_or x (suc d) 0 ≡ get_or x d 0) ⊎ (get_or x (suc d) 0 ≡ get_or x d 0 + get_or lengths (base + d) 0)
              → (on lengths base d x ≡ get_or x d 0) ⊎ (on lengths base d x ≡ get_or x d 0 + get_or lengths (base + d) 0)
          by (inl f) = inr (omega (arith, f))
          by (inr f) = absurd (omega (arith, f, k, twice_at lengths base twice d b))

      go : Dec (on lengths base d x < get_or lengths (base + suc d) 0) → Levels lengths base (advanced d lengths base (set x (suc d) 0))
          → Levels lengths base (advanced (suc d) lengths base x)
      go (yes k) again = rw (advanced_lt lengths base d x k) (levels_more d (on lengths base d x) x e (omega arith) (above d x h) (under k))
      go (no n) again = rw (advanced_ge lengths base d x (omega arith)) again

-- A place with right levels makes a right cursor.
stands-right : (lengths : List ℕ) (n base : ℕ) (p : WalkPoint) (last : ℕ) → InTables lengths base p → Levels lengths base p
    → (last ≡ null) ⊎ (last < n)
    → Right lengths n base p.depth p.indexes last
stands-right lengths n base p last h l k =
    record { deep = h.deep; first = first (ℕ_discrete p.depth 0) h.last; level = l; known = k }
  where
    base_zero : get_or lengths (base + 0) 0 ≡ get_or lengths base 0
    base_zero = ap (λ (j : ℕ). get_or lengths j 0) (add-zero base)

    first : Dec (p.depth ≡ 0)
        → (deepest p < get_or lengths (base + p.depth) 0) ⊎ ((p.depth ≡ 0) × (deepest p ≡ get_or lengths base 0))
        → (get_or p.indexes 0 0 < get_or lengths base 0) ⊎ ((p.depth ≡ 0) × (get_or p.indexes 0 0 ≡ get_or lengths base 0))
    first (no d) w = let a = h.within 0 (omega arith) in inl (omega (arith, a, base_zero))
    first (yes d) (inl w) =
        let a : deepest p ≡ get_or p.indexes 0 0 = ap (λ (j : ℕ). get_or p.indexes j 0) d in
        let b : get_or lengths (base + p.depth) 0 ≡ get_or lengths base 0 = ap (λ (j : ℕ). get_or lengths (base + j) 0) d ∙ base_zero in
        inl (omega (arith, a, b, w))
    first (yes d) (inr e) =
        let a : deepest p ≡ get_or p.indexes 0 0 = ap (λ (j : ℕ). get_or p.indexes j 0) d in
        inr (d, sym a ∙ e.1)

-- On any fit set, accepted or not, no cursor that start and next make is bad.
module _ (s : Set) (fit : Fit s) where
  abbrev RightAt : Cursor → Type 0
  RightAt c = Right s.lengths (slots_of s.names) c.base c.depth c.indexes c.last

  module _ (c : Cursor) (right : RightAt c) where
    stands : InTables s.lengths c.base (standing c)
    stands = right-stands s fit c right

    short : c.depth < 8
    short = omega (arith, right.deep, fit.most)

    levels_start : Levels s.lengths c.base (standing c)
    levels_start j l =
        rw (trimmed_same c.depth c.indexes j (omega arith) short, trimmed_same c.depth c.indexes (suc j) (omega arith) short)
        (right.level j l)

    levels_after : {p q : WalkPoint} → InTables s.lengths c.base p → Levels s.lengths c.base p → After s c.base p q
        → Levels s.lengths c.base q
    levels_after {p} h l a =
        rw (onward-after s c.base a) at
        (levels_advanced s.lengths c.base fit.twice p.depth p.indexes h.eight
        (omega (arith, h.deep, h.few)) h.deep l)

    levels_comes : {p : WalkPoint} → Comes s c.base (standing c) p → Levels s.lengths c.base p
    levels_comes (Comes.start) = levels_start
    levels_comes (Comes.past k w e a) = levels_after (comes_good s c.base (standing c) stands k) (levels_comes k) a
    levels_comes (Comes.down {p} k w e l) =
        let h = comes_good s c.base (standing c) stands k in
        levels_more s.lengths c.base fit.twice p.depth (deepest p) p.indexes h.eight (omega (arith, h.few))
        (levels_comes k)
        (omega (arith, w, twice_at s.lengths c.base fit.twice p.depth l), inl refl)

    right-after : {b : Bin} {p q : WalkPoint} (x : ℕ) → Reads s c b p → After s c.base p q → x < slots_of s.names
        → RightAt (moved_to c q x)
    right-after {b} {p} {q} x r a l =
        let k = comes_good s c.base (standing c) stands (read_comes c r) in
        let g = rw (onward-after s c.base a) at (good_onward s c.base p k r.there) in
        stands-right s.lengths (slots_of s.names) c.base q x g (levels_after k (levels_comes (read_comes c r)) a) (inr l)

    kept-right : {r : Step} → Steps s c r → RightAt r.cursor
    kept-right (Steps.by_next {x = x} b e n l) =
        rw (begins_is c b) (stands-right s.lengths (slots_of s.names) c.base (standing c) x stands levels_start (inr l))
    kept-right (Steps.by_list {p} {q} {x} r a) =
        right-after x r a (((ranges (slots_of s.names) (headers_in s) (bin_word s (c.base + p.depth) (deepest p))).lists x).0 r.bin).3
    kept-right (Steps.by_tree {p} {q} {h} r m a) = right-after (first_at s h) r a m
    kept-right (Steps.by_end b e k d f) =
        record { deep = omega (arith, right.deep); first = inr (refl, refl); level = λ j l. absurd (omega arith); known = inl refl }
    kept-right (Steps.lost h) = right

    next-right : RightAt (nexts s c).cursor
    next-right = rw (next-walked s c fit (right-not_bad s fit c right)) (kept-right (steps_walked s fit c stands))

  made_right : {c : Cursor} → Made s c → RightAt c
  made_right (Made.started {t} l) =
      rw (start_made s t fit l)
      (record { deep = omega arith; first = inl (length_least fit t l); level = λ j k. absurd (omega arith); known = inl refl })
  made_right (Made.stepped {c} m) = next-right c (made_right m)

  pub made_not_bad : (c : Cursor) → Made s c → BadCursor s c → ⊥
  made_not_bad c m = right-not_bad s fit c (made_right m)
