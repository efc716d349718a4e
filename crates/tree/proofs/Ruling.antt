-- What one call of each rule's recursion comes to: at null, with no depth left, and at a slot.
use mathlib.Core.Path.{◌≡◌, refl}
use mathlib.Core.Logic.{◌≢◌}
use mathlib.Core.Bool.{Bool, true, false}
use mathlib.Core.List.{List}
use Prim.Native.Nat.{ℕ, zero, suc, ◌+◌, ◌-◌, ◌≤◌}
use native.Mathlib.Numerals.{sub-one}
use native.Mathlib.Omega.{arith}
use lib.Dec.{eqb}
use borrow.Author.Tests.{eq-eqb, ne_eqb}
use Rattle.slots.specs.Words.{null, pick, state, left, right, cell}
use Rattle.slots.specs.Answers.{Value, none, some}
use Rattle.slots.proofs.Laws.{some_is}
use Rattle.tree_rules.specs.Sizes.{has_size}
use Rattle.tree_rules.specs.Rules.{then, follows, risen, all_calm, levelled, with_parts, slots_below, is_calm}
use Rattle.tree_rules.proofs.Reaching.{refuted}

module _ (names cells : List ℕ) (m i : ℕ) where
  pub rise_null : (depth : ℕ) → i ≡ null → some m ≡ risen depth names cells m i
  unfolding risen
  rise_null zero e = simp (eq-eqb i null e)
  rise_null (suc depth) e = simp (eq-eqb i null e)

  pub rise_zero : (depth : ℕ) → i ≢ null → depth ≡ 0 → none ≡ risen depth names cells m i
  unfolding risen
  rise_zero zero n e = simp (ne_eqb i null n)
  rise_zero (suc depth) n e = absurd (omega arith)

  pub rise_on : (depth : ℕ) → i ≢ null → depth ≢ 0
      → risen depth names cells m i
      ≡ then (risen (depth - 1) names cells m (cell cells i left))
      (λ k. pick (follows names k i) (risen (depth - 1) names cells i (cell cells i right)) none)
  unfolding risen
  rise_on zero n d = absurd (d refl)
  rise_on (suc depth) n d = rw (ne_eqb i null n, sub-one)

module _ (cells : List ℕ) (i : ℕ) where
  pub calm_null : (depth : ℕ) → i ≡ null → true ≡ all_calm depth cells i
  unfolding all_calm
  calm_null zero e = simp (eq-eqb i null e)
  calm_null (suc depth) e = simp (eq-eqb i null e)

  pub calm_on : (depth : ℕ) → i ≢ null → depth ≢ 0
      → all_calm depth cells i
      ≡ pick (is_calm cells i)
      (pick (all_calm (depth - 1) cells (cell cells i left)) (all_calm (depth - 1) cells (cell cells i right)) false) false
  unfolding all_calm
  calm_on zero n d = absurd (d refl)
  calm_on (suc depth) n d = rw (ne_eqb i null n, sub-one)

  pub level-null : (depth : ℕ) → i ≡ null → some 0 ≡ levelled depth cells i
  unfolding levelled
  level-null zero e = simp (eq-eqb i null e)
  level-null (suc depth) e = simp (eq-eqb i null e)

  pub level_on : (depth : ℕ) → i ≢ null → depth ≢ 0
      → levelled depth cells i
      ≡ then (levelled (depth - 1) cells (cell cells i left))
      (λ a. then (levelled (depth - 1) cells (cell cells i right))
      (λ b. pick (eqb a b) (some (pick (eqb (cell cells i state) 2) a (a + 1))) none))
  unfolding levelled
  level_on zero n d = absurd (d refl)
  level_on (suc depth) n d = rw (ne_eqb i null n, sub-one)

module _ (cells sizes : List ℕ) (i : ℕ) where
  pub weigh_null : (depth : ℕ) → i ≡ null → some 0 ≡ slots_below depth cells sizes i
  unfolding slots_below
  weigh_null zero e = simp (eq-eqb i null e)
  weigh_null (suc depth) e = simp (eq-eqb i null e)

  pub weigh_zero : i ≢ null → none ≡ slots_below 0 cells sizes i
  unfolding slots_below
  weigh_zero n = simp (ne_eqb i null n)

  pub weigh_on : (depth : ℕ) → i ≢ null → depth ≢ 0
      → slots_below depth cells sizes i
      ≡ then (slots_below (depth - 1) cells sizes (cell cells i left))
      (λ a. then (slots_below (depth - 1) cells sizes (cell cells i right))
      (λ b. pick (has_size sizes i (with_parts a b)) (some (with_parts a b)) none))
  unfolding slots_below
  weigh_on zero n d = absurd (d refl)
  weigh_on (suc depth) n d = rw (ne_eqb i null n, sub-one)

-- No way meets more black slots than it goes deep.
pub level_bound : (cells : List ℕ) (depth i a : ℕ) → levelled depth cells i ≡ some a → a ≤ depth
unfolding levelled
level_bound cells zero i a e = go (eqb i null) e
  where
    go : (b : Bool) → pick b (some 0) none ≡ some a → a ≤ 0
    go true z = omega (arith, some_is z)
    go false z = refuted z
level_bound cells (suc depth) i a e =
    go (eqb i null) _ (levelled depth cells (cell cells i right)) e (λ k. level_bound cells depth (cell cells i left) k)
  where
    last : (x y : Bool) (k : ℕ) → k ≤ depth → pick x (some (pick y k (k + 1))) none ≡ some a → a ≤ suc depth
    last true true k h z = omega (arith, some_is z)
    last true false k h z = omega (arith, some_is z)
    last false y k h z = refuted z

    both : (k : ℕ) (v : Value) → k ≤ depth → then v (λ b. pick (eqb k b) (some (pick (eqb (cell cells i state) 2) k (k + 1))) none) ≡ some a
        → a ≤ suc depth
    both k (some b) h z = last (eqb k b) (eqb (cell cells i state) 2) k h z
    both k none h z = refuted z

    go : (b : Bool) (u v : Value)
        → pick b (some 0) (then u (λ k. then v (λ b. pick (eqb k b) (some (pick (eqb (cell cells i state) 2) k (k + 1))) none))) ≡ some a
        → ((k : ℕ) → u ≡ some k → k ≤ depth) → a ≤ suc depth
    go true u v z h = omega (arith, some_is z)
    go false (some k) v z h = both k v (h k refl) z
    go false none v z h = refuted z
