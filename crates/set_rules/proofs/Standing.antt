-- The point after one where a step may stand, and those below it, are such points too.
use mathlib.Core.Path.{◌≡◌, refl, ap, ◌∙◌}
use mathlib.Core.Logic.{◌⊎◌, inl, inr}
use mathlib.Core.List.{List}
use Prim.Native.Nat.{ℕ, zero, suc, ◌+◌, ◌-◌, ◌*◌, ◌<◌, ◌≤◌}
use native.Mathlib.Nat.{add-zero}
use native.Mathlib.Decide.{dec_lt, ℕ_discrete}
use native.Mathlib.Omega.{arith}
use lib.ListN.{length, get_or, set, length-set}
use lib.Seq.{get_or-set_same, get_or-set_other}
use Rattle.set_rules.specs.Walk.{WalkPoint, walk_point, deepest, advanced, InTables, under}
use Rattle.set_rules.proofs.Turns.{on, advanced_lt, advanced_ge, left, left_within, left_most, left-top, under_some}

module _ (lengths : List ℕ) (base : ℕ) where
  -- The bin at the point is there.
  abbrev pub Within : WalkPoint → Type 0
  Within p = deepest p < get_or lengths (base + p.depth) 0

  base_zero : get_or lengths (base + 0) 0 ≡ get_or lengths base 0
  base_zero = ap (λ (k : ℕ). get_or lengths k 0) (add-zero base)

  -- With its bin there, or at the end.
  pub within_or_end : (p : WalkPoint) → InTables lengths base p
      → (Within p) ⊎ ((p.depth ≡ 0) × (get_or lengths (base + p.depth) 0 ≤ deepest p))
  within_or_end p h = go h.last
    where
      go : (Within p) ⊎ ((p.depth ≡ 0) × (deepest p ≡ get_or lengths base 0))
          → (Within p) ⊎ ((p.depth ≡ 0) × (get_or lengths (base + p.depth) 0 ≤ deepest p))
      go (inl w) = inl w
      go (inr e) =
          let z : get_or lengths (base + p.depth) 0 ≡ get_or lengths base 0 = ap (λ (k : ℕ). get_or lengths (base + k) 0) e.0 ∙ base_zero in
          inr (e.0, omega (arith, z))

  stands_first : (x : List ℕ) → InTables lengths base (walk_point 0 x) → get_or x 0 0 < get_or lengths (base + 0) 0
      → InTables lengths base (advanced 0 lengths base x)
  unfolding advanced
  stands_first x h w =
      record {
        eight = length-set x 0 (get_or x 0 0 + 1) ∙ h.eight;
        few = h.few;
        twice = h.twice;
        deep = h.deep;
        within = λ j k. absurd (omega arith);
        last = ending (dec_lt (get_or x 0 0 + 1) (get_or lengths (base + 0) 0));
      }
    where
      y : List ℕ
      y = set x 0 (get_or x 0 0 + 1)

      by : Dec (get_or x 0 0 + 1 < get_or lengths (base + 0) 0)
          → get_or y 0 0 ≡ get_or x 0 0 + 1
          → (get_or y 0 0 < get_or lengths (base + 0) 0) ⊎ ((◌≡◌ {A = ℕ} 0 0) × (get_or y 0 0 ≡ get_or lengths base 0))
      by (yes k) z = inl (omega (arith, z))
      by (no k) z = inr (refl, omega (arith, z, base_zero))

      ending : Dec (get_or x 0 0 + 1 < get_or lengths (base + 0) 0)
          → (get_or y 0 0 < get_or lengths (base + 0) 0) ⊎ ((◌≡◌ {A = ℕ} 0 0) × (get_or y 0 0 ≡ get_or lengths base 0))
      ending k =
          let z : get_or y 0 0 ≡ get_or x 0 0 + 1 = get_or-set_same x 0 (get_or x 0 0 + 1) 0 (omega (arith, h.eight)) in
          by k z

  -- One level up, what was written below is not there.
  stands_up : (d : ℕ) (x : List ℕ) (v : ℕ) → InTables lengths base (walk_point (suc d) x)
      → InTables lengths base (walk_point d (set x (suc d) v))
  stands_up d x v h =
      record {
        eight = length-set x (suc d) v ∙ h.eight;
        few = h.few;
        twice = h.twice;
        deep = omega (arith, h.deep);
        within = λ j k. rw (get_or-set_other x (suc d) j v 0 (omega arith)) (h.within j (omega arith));
        last = inl (rw (get_or-set_other x (suc d) d v 0 (omega arith)) (h.within d (omega arith)));
      }

  stands_plus : (d : ℕ) (x : List ℕ) (v : ℕ) → InTables lengths base (walk_point (suc d) x) → v < get_or lengths (base + suc d) 0
      → InTables lengths base (walk_point (suc d) (set x (suc d) v))
  stands_plus d x v h l =
      record {
        eight = length-set x (suc d) v ∙ h.eight;
        few = h.few;
        twice = h.twice;
        deep = h.deep;
        within = λ j k. rw (get_or-set_other x (suc d) j v 0 (omega arith)) (h.within j k);
        last = inl (rw (get_or-set_same x (suc d) v 0 (omega (arith, h.eight, h.deep, h.few))) l);
      }

  pub stands-advanced : (d : ℕ) (x : List ℕ) → InTables lengths base (walk_point d x) → get_or x d 0 < get_or lengths (base + d) 0
      → InTables lengths base (advanced d lengths base x)
  stands-advanced zero x h w = stands_first x h w
  stands-advanced (suc d) x h w = go (dec_lt (on lengths base d x) (get_or lengths (base + suc d) 0)) (λ y k l. stands-advanced d y k l)
    where
      go : Dec (on lengths base d x < get_or lengths (base + suc d) 0)
          → ((y : List ℕ) → InTables lengths base (walk_point d y) → get_or y d 0 < get_or lengths (base + d) 0
          → InTables lengths base (advanced d lengths base y))
          → InTables lengths base (advanced (suc d) lengths base x)
      go (yes k) again = rw (advanced_lt lengths base d x k) (stands_plus d x (on lengths base d x) h k)
      go (no k) again =
          rw (advanced_ge lengths base d x (omega arith))
          (again (set x (suc d) 0) (stands_up d x 0 h) (rw (get_or-set_other x (suc d) d 0 0 (omega arith)) (h.within d (omega arith))))

  -- Each index down to the bin is there.
  pub inside : (p : WalkPoint) → InTables lengths base p → Within p → (j : ℕ) → j ≤ p.depth
      → get_or p.indexes j 0 < get_or lengths (base + j) 0
  inside p h w j k = go (ℕ_discrete j p.depth)
    where
      go : Dec (j ≡ p.depth) → get_or p.indexes j 0 < get_or lengths (base + j) 0
      go (yes e) = rw e w
      go (no n) = h.within j (omega arith)

  -- A bin of the table below is such a point.
  pub stands_down : (p : WalkPoint) (v : ℕ) → InTables lengths base p → Within p → base + suc p.depth < length lengths
      → v < get_or lengths (base + suc p.depth) 0
      → InTables lengths base (walk_point (suc p.depth) (set p.indexes (suc p.depth) v))
  stands_down p v h w l b =
      let d = p.depth in
      let x = p.indexes in
      record {
        eight = length-set x (suc d) v ∙ h.eight;
        few = h.few;
        twice = h.twice;
        deep = l;
        within = λ j k. rw (get_or-set_other x (suc d) j v 0 (omega arith)) (inside p h w j (omega arith));
        last = inl (rw (get_or-set_same x (suc d) v 0 (omega (arith, h.eight, h.few))) b);
      }

  -- What is left at a point: something where its bin is there, and never more than there is.
  pub left_some : (p : WalkPoint) → InTables lengths base p → Within p → 0 < left lengths base p.depth p.indexes
  left_some p h w =
      omega (
        arith,
        left_within lengths base p.depth p.indexes w,
        under_some (length lengths - (base + p.depth)) (omega (arith, h.deep)),
      )

  pub left_all : (p : WalkPoint) → InTables lengths base p
      → left lengths base p.depth p.indexes ≤ get_or lengths base 0 * under (length lengths - base)
  left_all p h = go h.last
    where
      go : (Within p) ⊎ ((p.depth ≡ 0) × (deepest p ≡ get_or lengths base 0))
          → left lengths base p.depth p.indexes ≤ get_or lengths base 0 * under (length lengths - base)
      go (inl w) =
          omega (
            arith,
            left_within lengths base p.depth p.indexes w,
            left_most lengths base h.twice p.depth p.indexes h.deep (inside p h w),
          )
      go (inr e) = rw e.0 (left-top lengths base p.indexes)
