-- The tests from one number on: a test that holds hands on to the next, one that fails is the answer.
use mathlib.Core.Path.{◌≡◌, refl, sym, subst, ◌∙◌}
use mathlib.Core.Logic.{◌≢◌}
use mathlib.Core.Bool.{Bool, true, false}
use mathlib.Core.List.{List}
use Prim.Native.Nat.{ℕ, suc, ◌+◌, ◌-◌, ◌≤◌}
use native.Mathlib.Omega.{arith}
use borrow.Author.Tests.{eqb-true, eqb-false, ne_eqb}
use Rattle.std.specs.Prelude.{None, Some, eqb}
use Rattle.slots.specs.Words.{pick}
use Rattle.tree.specs.Check.{failing_of}
use Rattle.tree_rules.specs.Check.{test, first_from, not_all_red}

module _ (names cells : List ℕ) (i : ℕ) where
  next : (k t : ℕ) → test names cells t i ≡ true → first_from (suc k) names cells t i ≡ first_from k names cells (suc t) i
  unfolding first_from
  next k t e = rw e

  here : (k t : ℕ) → test names cells t i ≡ false → first_from (suc k) names cells t i ≡ t
  unfolding first_from
  here k t e = rw e

  -- The same of the eight, told by the number of the test alone.
  pub holds_on : (t : ℕ) → t ≤ 8 → test names cells t i ≡ true
      → first_from (9 - t) names cells t i ≡ first_from (9 - (t + 1)) names cells (t + 1) i
  holds_on t l e =
      let s : suc (8 - t) ≡ 9 - t = omega arith in
      let u : 8 - t ≡ 9 - (t + 1) = omega arith in
      let v : suc t ≡ t + 1 = omega arith in
      subst (λ k. first_from k names cells t i ≡ first_from (9 - (t + 1)) names cells (t + 1) i) s
      (subst (λ k. first_from (suc (8 - t)) names cells t i ≡ first_from k names cells (t + 1) i) u
      (subst (λ k. first_from (suc (8 - t)) names cells t i ≡ first_from (8 - t) names cells k i) v (next (8 - t) t e)))

  fails_at : (t : ℕ) → t ≤ 8 → test names cells t i ≡ false → first_from (9 - t) names cells t i ≡ t
  fails_at t l e =
      let s : suc (8 - t) ≡ 9 - t = omega arith in
      subst (λ k. first_from k names cells t i ≡ t) s (here (8 - t) t e)

  pub fails_here : (t : ℕ) → 1 ≤ t → t ≤ 8 → test names cells t i ≡ false → {f : ℕ} → first_from (9 - t) names cells t i ≡ f
      → Some t ≡ failing_of f
  fails_here t h l e {f} w = let z : t ≡ f = sym (fails_at t l e) ∙ w in rw (← z, ne_eqb t 0 (omega arith))

  pub all_held_lem : (t : ℕ) → t ≡ 9 → first_from (9 - t) names cells t i ≡ 0
  unfolding first_from
  all_held_lem t e = rw e

-- Whether one fails, read off its number.
pub failing_none : (f : ℕ) → None ≡ failing_of f → f ≡ 0
failing_none f e = go (eqb f 0) refl e
  where
    go : (b : Bool) → eqb f 0 ≡ b → None ≡ pick b None (Some f) → f ≡ 0
    go true x e = eqb-true f 0 x
    go false x e = absurd (cc)

pub failing_some : (f t : ℕ) → Some t ≡ failing_of f → (t ≡ f) × (f ≢ 0)
failing_some f t e = go (eqb f 0) refl e
  where
    go : (b : Bool) → eqb f 0 ≡ b → Some t ≡ pick b None (Some f) → (t ≡ f) × (f ≢ 0)
    go true x e = absurd (cc)
    go false x e = (cc, eqb-false f 0 x)

pub last_test : (names cells : List ℕ) (t i : ℕ) → t ≢ 1 → t ≢ 2 → t ≢ 3 → t ≢ 4 → t ≢ 5 → t ≢ 6 → t ≢ 7
    → test names cells t i ≡ not_all_red cells i
unfolding test
last_test names cells t i a b c d e f g =
    rw (ne_eqb t 1 a, ne_eqb t 2 b, ne_eqb t 3 c, ne_eqb t 4 d, ne_eqb t 5 e, ne_eqb t 6 f, ne_eqb t 7 g)
