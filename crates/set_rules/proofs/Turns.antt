-- A number that falls with each turn of the walk's loop: the bins that are left to read, where each bin is read at most once.
use mathlib.Core.Path.{◌≡◌, refl, sym, ap, ◌∙◌}
use mathlib.Core.List.{List}
use Prim.Native.Nat.{ℕ, zero, suc, ◌+◌, ◌-◌, ◌*◌, ◌<◌, ◌≤◌}
use native.Mathlib.Nat.{add-suc, add-zero, suc-mul, mul-le-mul_right}
use native.Mathlib.Decide.{dec_lt}
use native.Mathlib.Omega.{arith}
use lib.ListN.{length, get_or, set, length-set}
use lib.Seq.{get_or-set_same, get_or-set_other}
use lib.Dec.{ltb}
use borrow.Author.Tests.{lt-ltb, le-ltb}
use Rattle.slots.specs.Words.{pick}
use Rattle.set_rules.specs.Walk.{WalkPoint, walk_point, further, advanced, under}

-- The bins that come after the one at depth d, and those from the point on.
unfoldable pub later : List ℕ → ℕ → ℕ → List ℕ → ℕ
later lengths base zero x = (get_or lengths base 0 - (get_or x 0 0 + 1)) * under (length lengths - base)
later lengths base (suc d) x =
    later lengths base d x
    + pick (ltb (further lengths base d x) (get_or lengths (base + suc d) 0)) (under (length lengths - (base + suc d))) 0

unfoldable pub left : List ℕ → ℕ → ℕ → List ℕ → ℕ
left lengths base zero x = (get_or lengths base 0 - get_or x 0 0) * under (length lengths - base)
left lengths base (suc d) x = under (length lengths - (base + suc d)) + later lengths base (suc d) x

pub under_some : (m : ℕ) → 0 < m → 0 < under m
unfolding under
under_some zero h = absurd (omega arith)
under_some (suc m) h = omega arith

module _ (lengths : List ℕ) (base : ℕ) where
  -- A write below a level does not change it.
  later_set : (d j v : ℕ) (x : List ℕ) → d < j → later lengths base d (set x j v) ≡ later lengths base d x
  unfolding later
  later_set zero j v x h = rw (get_or-set_other x j 0 v 0 (omega arith))
  later_set (suc d) j v x h = rw (get_or-set_other x j (suc d) v 0 (omega arith), later_set d j v x (omega arith))

  pub twice_at : ((k : ℕ) → suc k < length lengths → get_or lengths (suc k) 0 ≡ 2 * get_or lengths k 0)
      → (d : ℕ) → base + suc d < length lengths → get_or lengths (base + suc d) 0 ≡ 2 * get_or lengths (base + d) 0
  twice_at t d h = rw (add-suc base d) (t (base + d) (omega arith))

  -- One level, by its test.
  module _ (d : ℕ) (x : List ℕ) where
    abbrev pub on : ℕ
    on = further lengths base d x

    pub advanced_lt : on < get_or lengths (base + suc d) 0 → advanced (suc d) lengths base x ≡ walk_point (suc d) (set x (suc d) on)
    unfolding advanced
    advanced_lt h = simp (lt-ltb _ _ h)

    pub advanced_ge : get_or lengths (base + suc d) 0 ≤ on → advanced (suc d) lengths base x ≡ advanced d lengths base (set x (suc d) 0)
    unfolding advanced
    advanced_ge h = simp (le-ltb _ _ h)

    later_lt : on < get_or lengths (base + suc d) 0
        → later lengths base (suc d) x ≡ later lengths base d x + under (length lengths - (base + suc d))
    unfolding later
    later_lt h = simp (lt-ltb _ _ h)

    later_ge : get_or lengths (base + suc d) 0 ≤ on → later lengths base (suc d) x ≡ later lengths base d x
    unfolding later
    later_ge h = simp (le-ltb _ _ h, add-zero)

  left-suc : (d : ℕ) (x : List ℕ) → left lengths base (suc d) x ≡ under (length lengths - (base + suc d)) + later lengths base (suc d) x
  unfolding left
  left-suc d x = refl

  abbrev pub left_of : WalkPoint → ℕ
  left_of p = left lengths base p.depth p.indexes

  left_first : (x : List ℕ) → length x ≡ 8 → left_of (advanced 0 lengths base x) ≡ later lengths base 0 x
  unfolding left later advanced
  left_first x e = rw (get_or-set_same x 0 (get_or x 0 0 + 1) 0 (omega arith))

  module _ (twice : (k : ℕ) → suc k < length lengths → get_or lengths (suc k) 0 ≡ 2 * get_or lengths k 0) where
    -- The point after one has the bins that come after it.
    pub left-advanced : (d : ℕ) (x : List ℕ) → length x ≡ 8 → d < 8 → base + d < length lengths
        → left_of (advanced d lengths base x) ≡ later lengths base d x
    left-advanced zero x e l h = left_first x e
    left-advanced (suc d) x e l h =
        go (dec_lt (on d x) (get_or lengths (base + suc d) 0)) (λ y f. left-advanced d y f (omega arith) (omega arith))
      where
        go : Dec (on d x < get_or lengths (base + suc d) 0)
            → ((y : List ℕ) → length y ≡ 8 → left_of (advanced d lengths base y) ≡ later lengths base d y)
            → left_of (advanced (suc d) lengths base x) ≡ later lengths base (suc d) x
        go (yes k) again =
            let y : List ℕ = set x (suc d) (on d x) in
            let z : get_or y (suc d) 0 ≡ on d x = get_or-set_same x (suc d) (on d x) 0 (omega arith) in
            let t = twice_at twice d h in
            let full : later lengths base (suc d) y ≡ later lengths base d y = later_ge d y (omega (arith, z, t)) in
            let same = later_set d (suc d) (on d x) x (omega arith) in
            ap left_of (advanced_lt d x k) ∙ left-suc d y ∙ omega (arith, full, same, later_lt d x k)
        go (no k) again =
            let y : List ℕ = set x (suc d) 0 in
            ap left_of (advanced_ge d x (omega arith)) ∙ again y (length-set x (suc d) 0 ∙ e)
            ∙ later_set d (suc d) 0 x (omega arith) ∙ sym (later_ge d x (omega arith))

  pub left-top : (x : List ℕ) → left lengths base 0 x ≤ get_or lengths base 0 * under (length lengths - base)
  unfolding left
  left-top x = mul-le-mul_right (under (length lengths - base)) (omega arith)

  -- A point whose bin is there has that bin, those below it, and those that come after.
  pub left_within : (d : ℕ) (x : List ℕ) → get_or x d 0 < get_or lengths (base + d) 0
      → left lengths base d x ≡ under (length lengths - (base + d)) + later lengths base d x
  unfolding left later
  left_within zero x h =
      let z : get_or lengths base 0 - get_or x 0 0 ≡ suc (get_or lengths base 0 - (get_or x 0 0 + 1)) =
      omega (arith, ap (λ (k : ℕ). get_or lengths k 0) (add-zero base)) in
      let u = under (length lengths - base) in
      let v : length lengths - (base + 0) ≡ length lengths - base = omega arith in
      rw (z, suc-mul, v) (omega arith)
  left_within (suc d) x h = refl

  module _ (twice : (k : ℕ) → suc k < length lengths → get_or lengths (suc k) 0 ≡ 2 * get_or lengths k 0) where
    under_two : (d : ℕ) → base + suc d < length lengths
        → under (length lengths - (base + d)) ≡ suc (under (length lengths - (base + suc d)) + under (length lengths - (base + suc d)))
    unfolding under
    under_two d h =
        let z : length lengths - (base + d) ≡ suc (length lengths - (base + suc d)) = omega arith in
        rw z

    later_most : (d : ℕ) (y : List ℕ) → later lengths base (suc d) y ≤ later lengths base d y + under (length lengths - (base + suc d))
    later_most d y = go (dec_lt (on d y) (get_or lengths (base + suc d) 0))
      where
        go : Dec (on d y < get_or lengths (base + suc d) 0)
            → later lengths base (suc d) y ≤ later lengths base d y + under (length lengths - (base + suc d))
        go (yes k) = omega (arith, later_lt d y k)
        go (no k) = omega (arith, later_ge d y (omega arith))

    -- Descending reads one bin, whichever of those below it goes to.
    pub left_down : (d v : ℕ) (x : List ℕ) → get_or x d 0 < get_or lengths (base + d) 0 → base + suc d < length lengths
        → left lengths base (suc d) (set x (suc d) v) < left lengths base d x
    left_down d v x w h =
        let y : List ℕ = set x (suc d) v in
        omega (arith, left-suc d y, later_most d y, later_set d (suc d) v x (omega arith), under_two d h, left_within d x w)

    -- No point has more bins left than there are.
    pub left_most : (d : ℕ) (x : List ℕ) → base + d < length lengths → ((j : ℕ) → j ≤ d → get_or x j 0 < get_or lengths (base + j) 0)
        → under (length lengths - (base + d)) + later lengths base d x ≤ get_or lengths base 0 * under (length lengths - base)
    left_most zero x h w =
        let u = under (length lengths - base) in
        let a = left_within 0 x (w 0 (omega arith)) in
        let b : left lengths base 0 x ≤ get_or lengths base 0 * under (length lengths - base) = left-top x in
        omega (arith, a, b)
    left_most (suc d) x h w =
        go (dec_lt (on d x) (get_or lengths (base + suc d) 0)) (left_most d x (omega arith) (λ j k. w j (omega arith)))
      where
        go : Dec (on d x < get_or lengths (base + suc d) 0)
            → under (length lengths - (base + d)) + later lengths base d x ≤ get_or lengths base 0 * under (length lengths - base)
            → under (length lengths - (base + suc d)) + later lengths base (suc d) x ≤ get_or lengths base 0 * under (length lengths - base)
        go (yes k) i = omega (arith, i, later_lt d x k, under_two d h)
        go (no k) i = omega (arith, i, later_ge d x (omega arith), under_two d h)
