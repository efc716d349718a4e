-- The walks of T3 and T7 a visit at a time: neither hands back more visits than it was given, and fuel past the visits changes nothing.
use Rattle.std.proofs.Common.{◌≡◌, ℕ, zero, suc, ◌-◌, ◌<◌, ◌≤◌, Bool, true, false, eqb, ltb, ◌≢◌, List, sym, refl, ◌∙◌, sub-one, arith}
use Rattle.std.proofs.Common.{le-ltb, lt-ltb, eq-eqb, ne_eqb}
use borrow.Author.Tests.{eqb-false}
use Rattle.slots.specs.Words.{null, pick, left, right, prev, next, cell}
use Rattle.slots.specs.Answers.{Value, none, some}
use Rattle.slots.proofs.Laws.{some_is}
use Rattle.tree_rules.specs.Rules.{then, stands, reached}
use Rattle.tree_rules.specs.Chain.{chained}
use Rattle.tree_rules.proofs.Reaching.{refuted}

-- The tests of a visit, and what comes after them.
abbrev gate : ℕ → Bool → Bool → Bool → Bool → Value → Value
gate v absent inside spent stand t = pick absent (some v) (pick inside (pick spent none (pick stand t none)) none)

module _ (n : ℕ) (cells : List ℕ) where
  within_gate : (v m : ℕ) (a b s c : Bool) (t : Value) (f : ℕ → Value)
      → ((k : ℕ) → t ≡ some k → k ≤ v - 1) → ((k : ℕ) → f k ≡ some m → m ≤ k) → gate v a b s c (then t f) ≡ some m → m ≤ v
  within_gate v m true b s c t f first second e = omega (arith, some_is e)
  within_gate v m false false s c t f first second e = refuted e
  within_gate v m false true true c t f first second e = refuted e
  within_gate v m false true false false t f first second e = refuted e
  within_gate v m false true false true (some k) f first second e = omega (arith, first k refl, second k e)
  within_gate v m false true false true none f first second e = refuted e

  within_null : (a : Bool) (v m : ℕ) → pick a (some v) none ≡ some m → m ≤ v
  within_null true v m e = omega (arith, some_is e)
  within_null false v m e = refuted e

  pub reached_within : (fuel q i v m : ℕ) → reached fuel n cells q i v ≡ some m → m ≤ v
  unfolding reached
  reached_within zero q i v m e = within_null (eqb i null) v m e
  reached_within (suc fuel) q i v m e =
      within_gate v m (eqb i null) (ltb i n) (eqb v 0) (stands cells q i) (reached fuel n cells i (cell cells i left) (v - 1))
      (λ rest. reached fuel n cells i (cell cells i right) rest)
      (λ k h. reached_within fuel i (cell cells i left) (v - 1) k h)
      (λ k h. reached_within fuel i (cell cells i right) k m h)
      e

  fuel_gate : (v : ℕ) (a b s c : Bool) (t u : Value) (f g : ℕ → Value) → (s ≡ false → t ≡ u)
      → ((k : ℕ) → s ≡ false → t ≡ some k → f k ≡ g k)
      → gate v a b s c (then t f) ≡ gate v a b s c (then u g)
  fuel_gate v true b s c t u f g first second = refl
  fuel_gate v false false s c t u f g first second = refl
  fuel_gate v false true true c t u f g first second = refl
  fuel_gate v false true false false t u f g first second = refl
  fuel_gate v false true false true (some k) u f g first second = rw (← first refl, second k refl refl)
  fuel_gate v false true false true none u f g first second = rw (← first refl)

  fuel_none : (v : ℕ) (a b s c : Bool) (t : Value) → s ≡ true → pick a (some v) none ≡ gate v a b s c t
  fuel_none v true b s c t h = refl
  fuel_none v false true s c t h = rw h
  fuel_none v false false s c t h = refl

  pub reached_fuel : (f g q i v : ℕ) → v ≤ f → v ≤ g → reached f n cells q i v ≡ reached g n cells q i v
  unfolding reached
  reached_fuel zero zero q i v hf hg = refl
  reached_fuel zero (suc g) q i v hf hg = fuel_none v (eqb i null) (ltb i n) (eqb v 0) (stands cells q i) _ (eq-eqb v 0 (omega arith))
  reached_fuel (suc f) zero q i v hf hg = sym (fuel_none v (eqb i null) (ltb i n) (eqb v 0) (stands cells q i) _ (eq-eqb v 0 (omega arith)))
  reached_fuel (suc f) (suc g) q i v hf hg =
      fuel_gate v (eqb i null) (ltb i n) (eqb v 0) (stands cells q i) _ _ _ _
      (λ d. reached_fuel f g i (cell cells i left) (v - 1) (omega arith) (omega arith))
      (λ k d e. reached_fuel f g i (cell cells i right) k
      (omega (arith, reached_within f i (cell cells i left) (v - 1) k e, eqb-false v 0 d))
      (omega (arith, reached_within f i (cell cells i left) (v - 1) k e, eqb-false v 0 d)))

  -- One visit, with as much fuel as visits.
  module _ (q i v : ℕ) where
    pub reach_null : i ≡ null → some v ≡ reached v n cells q i v
    unfolding reached
    reach_null e = go v
      where
        go : (k : ℕ) → some v ≡ reached k n cells q i v
        go zero = simp (eq-eqb i null e)
        go (suc k) = simp (eq-eqb i null e)

    pub reach_outside : i ≢ null → n ≤ i → none ≡ reached v n cells q i v
    unfolding reached
    reach_outside d h = go v
      where
        go : (k : ℕ) → none ≡ reached k n cells q i v
        go zero = simp (ne_eqb i null d)
        go (suc k) = simp (ne_eqb i null d, le-ltb i n h)

    pub reach_spent : i ≢ null → v ≡ 0 → none ≡ reached v n cells q i v
    unfolding reached
    reach_spent d e = rw (e, ne_eqb i null d)

    module _ (d : i ≢ null) (l : i < n) (w : v ≢ 0) {stand : Bool} (s : stand ≡ stands cells q i) where
      pub reach_wrong : stand ≡ false → none ≡ reached v n cells q i v
      unfolding reached
      reach_wrong e = go v w
        where
          go : (k : ℕ) → k ≢ 0 → none ≡ reached k n cells q i k
          go zero z = absurd (z refl)
          go (suc k) z = rw (ne_eqb i null d, lt-ltb i n l, ne_eqb (suc k) 0 z, ← s, e)

      pub reach_on : stand ≡ true
          → reached v n cells q i v
          ≡ then (reached (v - 1) n cells i (cell cells i left) (v - 1)) (λ rest. reached (v - 1) n cells i (cell cells i right) rest)
      unfolding reached
      reach_on e = go v w
        where
          go : (k : ℕ) → k ≢ 0
              → reached k n cells q i k
              ≡ then (reached (k - 1) n cells i (cell cells i left) (k - 1)) (λ rest. reached (k - 1) n cells i (cell cells i right) rest)
          go zero z = absurd (z refl)
          go (suc k) z = rw (ne_eqb i null d, lt-ltb i n l, ne_eqb (suc k) 0 z, ← s, e, sub-one)

-- One step along the chain.
module _ (n : ℕ) (cells : List ℕ) (q i : ℕ) where
  pub chain_null : (v : ℕ) → i ≡ null → some v ≡ chained v n cells q i
  unfolding chained
  chain_null zero e = simp (eq-eqb i null e)
  chain_null (suc v) e = simp (eq-eqb i null e)

  pub chain_outside : (v : ℕ) → i ≢ null → n ≤ i → none ≡ chained v n cells q i
  unfolding chained
  chain_outside zero d h = simp (ne_eqb i null d)
  chain_outside (suc v) d h = simp (ne_eqb i null d, le-ltb i n h)

  pub chain_spent : (v : ℕ) → i ≢ null → v ≡ 0 → none ≡ chained v n cells q i
  unfolding chained
  chain_spent zero d e = simp (ne_eqb i null d)
  chain_spent (suc v) d e = absurd (omega arith)

  pub chain_astray : (v : ℕ) → i ≢ null → i < n → {back : ℕ} → back ≡ cell cells i prev → back ≢ q → none ≡ chained v n cells q i
  unfolding chained
  chain_astray zero d l e f = simp (ne_eqb i null d)
  chain_astray (suc v) d l e f = rw (ne_eqb i null d, lt-ltb i n l, ne_eqb (cell cells i prev) q (λ z. f (e ∙ z)))

  pub chain_on : (v : ℕ) → i ≢ null → i < n → v ≢ 0 → {back : ℕ} → back ≡ cell cells i prev → back ≡ q → {j : ℕ} → j ≡ cell cells i next
      → chained v n cells q i ≡ chained (v - 1) n cells i j
  unfolding chained
  chain_on zero d l w e f g = absurd (w refl)
  chain_on (suc v) d l w e f g = rw (ne_eqb i null d, lt-ltb i n l, eq-eqb (cell cells i prev) q (sym e ∙ f), sub-one, g)

-- A chain never hands back more visits than it was given.
within_link : (v m : ℕ) (a b c : Bool) (t : Value) → (t ≡ some m → m ≤ v)
    → pick a (some (suc v)) (pick b (pick c t none) none) ≡ some m → m ≤ suc v
within_link v m true b c t h e = omega (arith, some_is e)
within_link v m false false c t h e = refuted e
within_link v m false true false t h e = refuted e
within_link v m false true true t h e = omega (arith, h e)

pub chained_within : (n : ℕ) (cells : List ℕ) (v q i m : ℕ) → chained v n cells q i ≡ some m → m ≤ v
unfolding chained
chained_within n cells zero q i m e = within_null n cells (eqb i null) 0 m e
chained_within n cells (suc v) q i m e =
    within_link v m (eqb i null) (ltb i n) (eqb (cell cells i prev) q) (chained v n cells i (cell cells i next))
    (λ h. chained_within n cells v i (cell cells i next) m h)
    e
