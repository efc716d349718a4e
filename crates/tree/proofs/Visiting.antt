-- What each way out of a visit says of the walk, with as much fuel as visits.
use mathlib.Core.Path.{◌≡◌, refl, ap, sym, ◌∙◌}
use mathlib.Core.Logic.{◌≢◌}
use mathlib.Core.Bool.{Bool, true, false}
use mathlib.Core.List.{List}
use Prim.Native.Nat.{ℕ, zero, suc, ◌<◌, ◌≤◌, ◌-◌}
use native.Mathlib.Numerals.{sub-one}
use native.Mathlib.Omega.{arith}
use Rattle.std.specs.Prelude.{Option, None, Some, Result, Ok, Err}
use Rattle.std.specs.Result.{result_err}
use Rattle.slots.specs.Words.{null, left, right, cell}
use Rattle.tree_rules.specs.Find.{slots_of}
use Rattle.tree_rules.specs.Check.{links_in, first_failing, Walk, passed, failed, strayed, onward, walk_answer, walked}
use Rattle.tree.specs.Check.{failing_of, walk_of, checked_of}
use Rattle.tree.specs.declared.check.Fault.{Fault}
use Rattle.tree.specs.declared.check.Fault.TheVariants.{Fails, Lost}
use Rattle.tree.proofs.Testing.{failing_none, failing_some}
use Rattle.tree_rules.proofs.Walking.{walk_null, walk_outside, walk_spent, walk_loose, walk_fails, walk_on, walked_fuel, walked_within}

-- A visit whose tests pass goes on with the left subtree.
left_first : (names cells : List ℕ) (i v : ℕ) → i ≢ null → i < slots_of names → v ≢ 0 → links_in (slots_of names) cells i ≡ true
    → first_failing names cells i ≡ 0
    → {t : ℕ} → t ≡ cell cells i left → {o : Walk} → o ≡ walked (v - 1) names cells t (v - 1)
    → walked v names cells i v ≡ onward o (λ rest. walked (v - 1) names cells (cell cells i right) rest)
left_first names cells i zero n l w q f p a = absurd (w refl)
left_first names cells i (suc k) n l w q f p a = walk_on names cells n l w k q f ∙ rw (a, p, sub-one)

module _ (names cells : List ℕ) (i v : ℕ) where
  pub absent : i ≡ null → passed v ≡ walked v names cells i v
  absent e = sym (walk_null names cells v i v e)

  pub outside : i ≢ null → slots_of names ≤ i → strayed ≡ walked v names cells i v
  outside n h = sym (walk_outside names cells v i v n h)

  pub spent : i ≢ null → v ≡ 0 → strayed ≡ walked v names cells i v
  spent n e = sym (walk_spent names cells v i v n e)

  module _ (n : i ≢ null) (l : i < slots_of names) (w : v ≢ 0) {named : Bool} (q : named ≡ links_in (slots_of names) cells i) where
    pub loose : named ≡ false → strayed ≡ walked v names cells i v
    loose e = sym (walk_loose names cells n l w v (sym q ∙ e))

    module _ (y : named ≡ true) {failing : Option ℕ} (f : failing ≡ failing_of (first_failing names cells i)) where
      pub fails : {t : ℕ} → failing ≡ Some t → failed t i ≡ walked v names cells i v
      fails {t} e = go v w
        where
          s : (t ≡ first_failing names cells i) × (first_failing names cells i ≢ 0)
          s = failing_some (first_failing names cells i) t (sym e ∙ f)

          go : (k : ℕ) → k ≢ 0 → failed t i ≡ walked k names cells i k
          go zero z = absurd (z refl)
          go (suc k) z = ap (λ (t : ℕ). failed t i) s.0 ∙ sym (walk_fails names cells n l z k (sym q ∙ y) s.1)

      lefts : failing ≡ None → {t : ℕ} → t ≡ cell cells i left → {o : Walk} → o ≡ walked (v - 1) names cells t (v - 1)
          → walked v names cells i v ≡ onward o (λ rest. walked (v - 1) names cells (cell cells i right) rest)
      lefts z p a = left_first names cells i v n l w (sym q ∙ y) (failing_none (first_failing names cells i) (sym z ∙ f)) p a

      pub left_stops : failing ≡ None → {t : ℕ} → t ≡ cell cells i left → (r : Fault)
          → walk_of (Err r) ≡ walked (v - 1) names cells t (v - 1) → walk_of (Err r) ≡ walked v names cells i v
      left_stops z p (Fails u j) a = sym (lefts z p a)
      left_stops z p Lost a = sym (lefts z p a)

      pub both : failing ≡ None → {t r rest : ℕ} {o : Walk} → t ≡ cell cells i left → passed rest ≡ walked (v - 1) names cells t (v - 1)
          → r ≡ cell cells i right → o ≡ walked rest names cells r rest → o ≡ walked v names cells i v
      both z {t} {r} {rest} p a b c =
          c ∙ ap (λ (j : ℕ). walked rest names cells j rest) b
          ∙ walked_fuel names cells rest (v - 1) (cell cells i right) rest (omega arith)
          (walked_within names cells (v - 1) t (v - 1) rest (omega arith) (sym a))
          ∙ sym (lefts z p a)

-- What the walk comes to is what the check answers.
pub told : (r : Result ℕ Fault) → checked_of (result_err r) ≡ walk_answer (walk_of r)
told (Ok v) = refl
told (Err (Fails t i)) = refl
told (Err Lost) = refl
