-- The source's stack of frames is the cursor's indexes above its depth: popping a frame is going up a level, pushing one going down, and
-- so a step of the walk is a call of the source's next.
use mathlib.Core.Path.{◌≡◌, refl, ap, sym, ◌∙◌}
use mathlib.Core.Logic.{◌⊎◌, inl, inr}
use mathlib.Core.Bool.{true, false}
use mathlib.Core.List.{List}
use Prim.Native.Nat.{ℕ, zero, suc, ◌+◌, ◌<◌, ◌≤◌}
use native.Mathlib.Nat.{add-zero, add-suc}
use native.Mathlib.Numerals.{add-one}
use native.Mathlib.Decide.{dec_lt, ℕ_discrete}
use native.Mathlib.Omega.{arith}
use lib.ListN.{length, get_or, set, length-set}
use lib.Seq.{get_or-set_same, get_or-set_other}
use borrow.Author.Tests.{le-leb, lt-leb, lt-ltb, le-ltb, eq-eqb, ne_eqb}
use Rattle.slots.specs.Words.{null, next, cell}
use Rattle.set_rules.specs.Words.{Set, tables_of, length_at, first_at, Fit, Bin, empty, moved, bad, list, tree}
use Rattle.set_rules.specs.Cursor.{Cursor, BadCursor}
use Rattle.set_rules.specs.Walk.{WalkPoint, deepest, bin_here, advanced, went_on, below, Sought, at, ended, lost, trimmed}
use Rattle.set_rules.specs.Walk.{standing}
use Rattle.set_rules.specs.Walk.{stepped, steps_on, turns_in, nexts}
use Rattle.set_rules.specs.NodeIter.{Iter, iter, over, pushed, recovered, proceeds, Yield, yields, ends, stuck, matched, looped}
use Rattle.set_rules.specs.NodeIter.{next_called, frames, state_at, state_of, IsCall}
use Rattle.set_rules.proofs.Turns.{on, advanced_lt, advanced_ge}
use Rattle.set_rules.proofs.Standing.{within_or_end, left_all}
use Rattle.set_rules.proofs.Cursors.{trimmed_same}
use Rattle.set_rules.proofs.Seeking.{Good, Here, left_at, seeks, at_end, at-empty, at_bad, at_list, at_moved, at_last, at_tree}
use Rattle.set_rules.proofs.Seeking.{at_stray, falls-onward, falls_below, good_onward, good_below}
use Rattle.set_rules.proofs.Gates.{next-walked, next-stands}
use Rattle.tree_rules.specs.Find.{slots_of}

module _ (s : Set) (base : ℕ) where
  abbrev state : WalkPoint → Iter
  state p = state_at s base p.depth p.indexes

  frames-agree : (d : ℕ) (x y : List ℕ) → ((j : ℕ) → j < d → get_or x j 0 ≡ get_or y j 0) → frames s base d x ≡ frames s base d y
  unfolding frames
  frames-agree zero x y h = refl
  frames-agree (suc d) x y h = rw (h d (omega arith), frames-agree d x y (λ j k. h j (omega arith)))

  -- The state depends on the indexes down to the depth.
  state-agree : (d : ℕ) (x y : List ℕ) → ((j : ℕ) → j ≤ d → get_or x j 0 ≡ get_or y j 0) → state_at s base d x ≡ state_at s base d y
  state-agree d x y h = rw (h d (omega arith), h 0 (omega arith), frames-agree d x y (λ j k. h j (omega arith)))

  frames-set : (d v : ℕ) (x : List ℕ) → frames s base d (set x d v) ≡ frames s base d x
  frames-set d v x = frames-agree d (set x d v) x (λ j k. get_or-set_other x d j v 0 (omega arith))

  state-set : (d v : ℕ) (x : List ℕ) → state_at s base d (set x (suc d) v) ≡ state_at s base d x
  state-set d v x = state-agree d (set x (suc d) v) x (λ j k. get_or-set_other x (suc d) j v 0 (omega arith))

  -- The state with another index at its depth, which is not the base table's.
  state-at : (d v : ℕ) (x : List ℕ) → length x ≡ 8 → suc d < 8
      → state_at s base (suc d) (set x (suc d) v) ≡ iter (base + suc d) v (get_or x 0 0) (frames s base (suc d) x)
  state-at d v x e l =
      rw (get_or-set_same x (suc d) v 0 (omega arith), get_or-set_other x (suc d) 0 v 0 (omega arith), frames-set (suc d) v x)

  abbrev back : ℕ → List ℕ → Iter
  back d x = recovered (frames s base d x) (length_at s base) (base + d) (get_or x d 0) (get_or x 0 0) (length_at s (base + d))

  back_first : (x : List ℕ) → length x ≡ 8 → back 0 x ≡ state (advanced 0 s.lengths base x)
  unfolding recovered frames advanced
  back_first x e =
      let z : length_at s (base + 0) ≡ length_at s base = ap (λ (k : ℕ). length_at s k) (add-zero base) in
      let l : length_at s (base + 0) ≤ get_or x 0 0 + length_at s base = omega arith in
      rw (
        le-leb (length_at s (base + 0)) (get_or x 0 0 + length_at s base) l,
        get_or-set_same x 0 (get_or x 0 0 + 1) 0 (omega arith),
        add-one,
      )

  -- What follows a bin that was read is the point after it.
  recovers : (d : ℕ) (x : List ℕ) → length x ≡ 8 → d < 8 → back d x ≡ state (advanced d s.lengths base x)
  unfolding recovered frames
  recovers zero x e l = back_first x e
  recovers (suc d) x e l = go (dec_lt (on s.lengths base d x) (length_at s (base + suc d))) (λ y f. recovers d y f (omega arith))
    where
      go : Dec (on s.lengths base d x < length_at s (base + suc d))
          → ((y : List ℕ) → length y ≡ 8 → back d y ≡ state (advanced d s.lengths base y))
          → back (suc d) x ≡ state (advanced (suc d) s.lengths base x)
      go (yes k) again =
          rw (
            advanced_lt s.lengths base d x k,
            lt-ltb (on s.lengths base d x) (length_at s (base + suc d)) k,
            state-at d (on s.lengths base d x) x e l,
          )
      go (no n) again =
          let k : length_at s (base + suc d) ≤ on s.lengths base d x = omega arith in
          let y : List ℕ = set x (suc d) 0 in
          let same : back d y ≡ back d x = ap (λ (it : Iter). proceeds s (length_at s base) it) (state-set d 0 x) in
          rw (advanced_ge s.lengths base d x k, le-ltb (on s.lengths base d x) (length_at s (base + suc d)) k)
          (sym same ∙ again y (length-set x (suc d) 0 ∙ e))

  module _ (p : WalkPoint) (h : Good s base p) where
    proceeding : proceeds s (length_at s base) (state p) ≡ state (went_on s base p)
    proceeding = recovers p.depth p.indexes h.eight (omega (arith, h.deep, h.few))

    pushing : Here s base p → base + suc p.depth < tables_of s → pushed s (state p) ≡ state (below s base p)
    unfolding frames
    pushing w l = sym (state-at p.depth (deepest p) p.indexes h.eight (omega (arith, h.few)) ∙ rw add-suc)

    goes_on : Here s base p → over s (length_at s base) (state p) ≡ false
    goes_on w =
        rw (
          lt-leb (length_at s base) (get_or p.indexes 0 0) (first (ℕ_discrete p.depth 0)),
          lt-leb (length_at s (base + p.depth)) (deepest p) w,
        )
      where
        zeroth : length_at s (base + 0) ≡ length_at s base
        zeroth = ap (λ (k : ℕ). length_at s k) (add-zero base)

        first : Dec (p.depth ≡ 0) → get_or p.indexes 0 0 < length_at s base
        first (yes e) = let z = rw e at w in omega (arith, z, zeroth)
        first (no d) = omega (arith, h.within 0 (omega arith), zeroth)

    is-over : (p.depth ≡ 0) × (length_at s (base + p.depth) ≤ deepest p) → over s (length_at s base) (state p) ≡ true
    is-over e =
        let z : length_at s (base + p.depth) ≡ length_at s base =
        ap (λ (k : ℕ). length_at s (base + k)) e.0 ∙ ap (λ (k : ℕ). length_at s k) (add-zero base) in
        let f : deepest p ≡ get_or p.indexes 0 0 = ap (λ (k : ℕ). get_or p.indexes k 0) e.0 in
        rw (le-leb (length_at s base) (get_or p.indexes 0 0) (omega (arith, z, f, e.1)))

  -- What the loop comes to is what the source's comes to.
  data Meets : Sought → Yield → Type 0 where
    given_both : {x : ℕ} {q : WalkPoint} → Good s base q → Meets (at x q) (yields x (state q))
    over_both : Meets ended ends
    lost_both : Meets lost stuck

  module _ (t : ℕ) (p : WalkPoint) (h : Good s base p) where
    turn_over : (p.depth ≡ 0) × (length_at s (base + p.depth) ≤ deepest p)
        → Meets (seeks s base p) (looped (suc t) s (length_at s base) (state p))
    unfolding looped
    turn_over e = rw (at_end s base p e.1, is-over p h e) over_both

    module _ (w : Here s base p)
        (again : (q : WalkPoint) → Good s base q → left_at s base q < t → Meets (seeks s base q) (looped t s (length_at s base) (state q)))
        (k : left_at s base p < suc t) where
      abbrev turned_to : Bin → Yield
      turned_to b = matched s (length_at s base) (state p) b (λ it. looped t s (length_at s base) it)

      by_bin : (b : Bin) → bin_here s base p ≡ b → Meets (seeks s base p) (turned_to b)
      by_bin empty e =
          rw (at-empty s base p h w e, proceeding p h)
          (again (went_on s base p) (good_onward s base p h w) (omega (arith, falls-onward s base p h w)))
      by_bin bad e = rw (at_bad s base p h w e) lost_both
      by_bin (list x) e = rw (at_list s base p h w e, proceeding p h) (given_both (good_onward s base p h w))
      by_bin moved e = go (dec_lt (base + suc p.depth) (tables_of s))
        where
          go : Dec (base + suc p.depth < tables_of s) → Meets (seeks s base p) (turned_to moved)
          go (yes l) =
              let m : suc (base + p.depth) < tables_of s = omega arith in
              rw (at_moved s base p h w e l, lt-ltb (suc (base + p.depth)) (tables_of s) m, pushing p h w l)
              (again (below s base p) (good_below s base p h w l) (omega (arith, falls_below s base p h w l)))
          go (no n) =
              let m : tables_of s ≤ suc (base + p.depth) = omega arith in
              rw (at_last s base p h w e (omega arith), le-ltb (suc (base + p.depth)) (tables_of s) m) lost_both
      by_bin (tree a) e = go (dec_lt (first_at s a) (slots_of s.names))
        where
          go : Dec (first_at s a < slots_of s.names) → Meets (seeks s base p) (turned_to (tree a))
          go (yes l) =
              rw (at_tree s base p h w e l, lt-ltb (first_at s a) (slots_of s.names) l, proceeding p h)
              (given_both (good_onward s base p h w))
          go (no n) =
              let l : slots_of s.names ≤ first_at s a = omega arith in
              rw (at_stray s base p h w e l, le-ltb (first_at s a) (slots_of s.names) l) lost_both

      turn_on : Meets (seeks s base p) (looped (suc t) s (length_at s base) (state p))
      unfolding looped
      turn_on = rw (goes_on p h w) (by_bin (bin_here s base p) refl)

  meets : (t : ℕ) (p : WalkPoint) → Good s base p → left_at s base p < t → Meets (seeks s base p) (looped t s (length_at s base) (state p))
  meets zero p h k = absurd (omega arith)
  meets (suc t) p h k = go (within_or_end s.lengths base p h) (λ q g l. meets t q g l)
    where
      go : (Here s base p) ⊎ ((p.depth ≡ 0) × (length_at s (base + p.depth) ≤ deepest p))
          → ((q : WalkPoint) → Good s base q → left_at s base q < t → Meets (seeks s base q) (looped t s (length_at s base) (state q)))
          → Meets (seeks s base p) (looped (suc t) s (length_at s base) (state p))
      go (inl w) again = turn_on t p h w again k
      go (inr e) again = turn_over t p h e

module _ (s : Set) (fit : Fit s) (c : Cursor) (good : BadCursor s c → ⊥) where
  h : Good s c.base (standing c)
  h = next-stands s c fit good

  begun : state_at s c.base c.depth (trimmed c.depth c.indexes) ≡ state_of s c
  begun =
      state-agree s c.base c.depth (trimmed c.depth c.indexes) c.indexes
      (λ j k. trimmed_same c.depth c.indexes j k (omega (arith, h.deep, h.few)))

  alike : {o : Sought} {y : Yield} → Meets s c.base o y → IsCall s c (stepped s c o) y
  alike (given_both g) = (refl, refl, refl, refl)
  alike over_both = refl
  alike lost_both = refl

  pub as_source : (turns : ℕ) → turns_in s c.base < turns
      → IsCall s c (nexts s c) (next_called turns s (length_at s c.base) (state_of s c) c.last)
  unfolding steps_on
  as_source turns k = rw (next-walked s c fit good) (go (ℕ_discrete link null) (dec_lt link (slots_of s.names)))
    where
      link : ℕ
      link = cell s.cells c.last next

      go : Dec (link ≡ null) → Dec (link < slots_of s.names)
          → IsCall s c (steps_on s c) (next_called turns s (length_at s c.base) (state_of s c) c.last)
      go (yes e) d =
          rw (eq-eqb link null e)
          (rw begun at (alike (meets s c.base turns (standing c) h (omega (arith, left_all s.lengths c.base (standing c) h)))))
      go (no n) (yes l) = rw (ne_eqb link null n, lt-ltb link (slots_of s.names) l) (refl, begun, refl, refl)
      go (no n) (no l) = let m : slots_of s.names ≤ link = omega arith in rw (ne_eqb link null n, le-ltb link (slots_of s.names) m) refl
