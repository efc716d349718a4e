-- What each way out of the loop over a cursor's points says, from the law of one level.
use mathlib.Core.Path.{◌≡◌, sym, ◌∙◌}
use mathlib.Core.List.{List}
use Prim.Native.Nat.{ℕ, zero, suc, ◌+◌, ◌-◌, ◌<◌, ◌≤◌}
use native.Mathlib.Numerals.{sub-one}
use native.Mathlib.Omega.{arith}
use lib.ListN.{get_or, set}
use lib.Seq.{get_or-set_other}
use lib.Dec.{ltb}
use borrow.Author.Tests.{lt-ltb, le-ltb}
use Rattle.slots.specs.Words.{pick}
use Rattle.set_rules.specs.Walk.{WalkPoint, walk_point, advanced}

-- The points after one.
module _ (lengths : List ℕ) (base : ℕ) (x : List ℕ) where
  pub advanced_none : (d : ℕ) {p : WalkPoint} → advanced d lengths base x ≡ p → d ≤ 0 → {first : ℕ} → first ≡ get_or x 0 0 → {y : List ℕ}
      → y ≡ set x 0 (first + 1) → walk_point 0 y ≡ p
  unfolding advanced
  advanced_none zero i h e f = rw (f, e) i
  advanced_none (suc d) i h e f = absurd (omega arith)

  advanced_some : (d : ℕ) → 0 < d
      → advanced d lengths base x
      ≡ pick (ltb (get_or x d 0 + get_or lengths (base + (d - 1)) 0) (get_or lengths (base + d) 0))
      (walk_point d (set x d (get_or x d 0 + get_or lengths (base + (d - 1)) 0)))
      (advanced (d - 1) lengths base (set x d 0))
  unfolding advanced
  advanced_some zero h = absurd (omega arith)
  advanced_some (suc d) h = rw sub-one

  module _ (d : ℕ) {p : WalkPoint} (inv : advanced d lengths base x ≡ p) (more : 0 < d) {lower upper i : ℕ}
      (a : lower ≡ get_or lengths (base + d) 0)
      (b : upper ≡ get_or lengths (base + (d - 1)) 0)
      (c : i ≡ get_or x d 0)
    where
      turned : pick (ltb (i + upper) lower) (walk_point d (set x d (i + upper))) (advanced (d - 1) lengths base (set x d 0)) ≡ p
      turned = rw (a, b, c) (sym (advanced_some d more) ∙ inv)

      pub advanced_plus : i + upper < lower → {y : List ℕ} → y ≡ set x d (i + upper) → walk_point d y ≡ p
      advanced_plus l e = rw e (rw (lt-ltb _ _ l) at turned)

      pub advanced_up : lower ≤ i + upper → {y : List ℕ} → y ≡ set x d 0 → advanced (d - 1) lengths base y ≡ p
      advanced_up l e = rw e (rw (le-ltb _ _ l) at turned)

-- A write below leaves the base index.
pub base_stays : (x : List ℕ) (d v : ℕ) → 0 < d → {y : List ℕ} → y ≡ set x d v → get_or y 0 0 ≡ get_or x 0 0
base_stays x d v h e = rw e (get_or-set_other x d 0 v 0 (omega arith))
