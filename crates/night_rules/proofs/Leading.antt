-- Following one field to a slot: the number of steps is determined by where one starts, so no slot is passed twice, and as many steps as
-- there are slots are enough.
use mathlib.Core.Path.{◌≡◌, refl, ap, sym, ◌∙◌}
use mathlib.Core.Logic.{◌≢◌, ◌↔◌, inl, inr}
use mathlib.Core.Bool.{Bool, true, false, false≢true}
use mathlib.Core.List.{List, [], ◌∷◌}
use Prim.Native.Nat.{ℕ, zero, suc, ◌<◌, ◌≤◌}
use native.Mathlib.Decide.{ℕ_discrete}
use native.Mathlib.Omega.{arith}
use lib.ListN.{length}
use borrow.Author.Tests.{eq-eqb, ne_eqb, eqb-true}
use Rattle.slots.specs.Words.{null, cell}
use Rattle.tree_rules.specs.Tree.{times}
use Rattle.tree_rules.specs.Check.{Named}
use Rattle.tree_rules.proofs.Counting.{times_head, times_else, times_cases, length_most}
use Rattle.tree_rules.proofs.Rank.{Rank, home, up}
use Rattle.night_rules.specs.Shows.{LeadsTo, there, one_more}
use Rattle.night_rules.specs.Why.{leads_to}

-- From k it takes d steps to x.
pub data InSteps (cells : List ℕ) (f x : ℕ) : ℕ → ℕ → Type 0 where
  stay : {k : ℕ} → k ≡ x → InSteps cells f x k 0
  step : {k d : ℕ} → k ≢ x → InSteps cells f x (cell cells k f) d → InSteps cells f x k (suc d)

pub rank_steps : {cells : List ℕ} {f k d : ℕ} → Rank cells f k d → InSteps cells f null k d
rank_steps (home e) = stay e
rank_steps (up n r) = step n (rank_steps r)

module _ {cells : List ℕ} {f x : ℕ} where
  steps_unique : {k d e : ℕ} → InSteps cells f x k d → InSteps cells f x k e → d ≡ e
  steps_unique (stay a) (stay b) = refl
  steps_unique (stay a) (step n r) = absurd (n a)
  steps_unique (step n r) (stay a) = absurd (n a)
  steps_unique (step n r) (step m s) = ap suc (steps_unique r s)

  pub leads_steps : {k : ℕ} → LeadsTo cells f x k → (d : ℕ) × InSteps cells f x k d
  leads_steps (there e) = (0, stay e)
  leads_steps (one_more {k} l) = go (leads_steps l) (ℕ_discrete k x)
    where
      go : (d : ℕ) × InSteps cells f x (cell cells k f) d → Dec (k ≡ x) → (d : ℕ) × InSteps cells f x k d
      go h (yes e) = (0, stay e)
      go h (no m) = (suc h.0, step m h.1)

  steps_tested : (b : ℕ) {k d : ℕ} → InSteps cells f x k d → d ≤ b → leads_to b cells f x k ≡ true
  unfolding leads_to
  steps_tested zero {k} (stay e) l = eq-eqb k x e
  steps_tested (suc b) {k} (stay e) l = rw (eq-eqb k x e)
  steps_tested zero (step n r) l = absurd (omega arith)
  steps_tested (suc b) {k} (step n r) l = rw (ne_eqb k x n) (steps_tested b r (omega arith))

  tested_leads : (b k : ℕ) → leads_to b cells f x k ≡ true → LeadsTo cells f x k
  unfolding leads_to
  tested_leads zero k e = there (eqb-true k x e)
  tested_leads (suc b) k e = go (ℕ_discrete k x) (tested_leads b (cell cells k f))
    where
      go : Dec (k ≡ x) → (leads_to b cells f x (cell cells k f) ≡ true → LeadsTo cells f x (cell cells k f)) → LeadsTo cells f x k
      go (yes z) again = there z
      go (no m) again = one_more (again (rw (ne_eqb k x m) at e))

-- The slots passed on so many steps from k.
passed : List ℕ → ℕ → ℕ → ℕ → List ℕ
passed cells f zero k = []
passed cells f (suc d) k = k ∷ passed cells f d (cell cells k f)

length_passed : (cells : List ℕ) (f d k : ℕ) → length (passed cells f d k) ≡ d
unfolding passed
length_passed cells f zero k = refl
length_passed cells f (suc d) k = ap suc (length_passed cells f d (cell cells k f))

-- Each slot passed has fewer steps to go than the one before.
record Onward (cells : List ℕ) (f x j d : ℕ) : Type 0 where
  steps : ℕ
  left : InSteps cells f x j steps
  some : 1 ≤ steps
  most : steps ≤ d

passed_on : {cells : List ℕ} {f x k d : ℕ} (j : ℕ) → InSteps cells f x k d → 1 ≤ times j (passed cells f d k) → Onward cells f x j d
unfolding passed times
passed_on j (stay e) h = absurd (omega arith)
passed_on {cells} {f} {x} j (step {k} {d} n r) h =
    times_cases j k (passed cells f d (cell cells k f)) h
    (λ e. record { steps = suc d; left = rw e (step n r); some = omega arith; most = omega arith })
    (λ y. (let o = passed_on j r y in record { steps = o.steps; left = o.left; some = o.some; most = omega (arith, o.most) }))

passed_once : {cells : List ℕ} {f x k d : ℕ} (j : ℕ) → InSteps cells f x k d → times j (passed cells f d k) ≤ 1
unfolding passed times
passed_once j (stay e) = omega arith
passed_once {cells} {f} {x} j (step {k} {d} n r) =
    go (ℕ_discrete j k) (ℕ_discrete (times j (passed cells f d (cell cells k f))) 0) (passed_once j r)
  where
    rest : List ℕ
    rest = passed cells f d (cell cells k f)

    go : Dec (j ≡ k) → Dec (times j rest ≡ 0) → times j rest ≤ 1 → times j (k ∷ rest) ≤ 1
    go (no e) z o = omega (arith, times_else j k rest e)
    go (yes e) (yes z) o = rw e (omega (arith, times_head k rest, ap (λ (i : ℕ). times i rest) e))
    go (yes e) (no z) o =
        let p = passed_on j r (omega arith) in
        let s : InSteps cells f x j (suc d) = rw e (step n r) in absurd (omega (arith, p.most, steps_unique p.left s))

-- In words whose links are named, and where null leads nowhere, all the slots passed are slots: they are no more than there are.
module _ (n : ℕ) (cells : List ℕ) (f x : ℕ) (small : n ≤ null) (named : (i : ℕ) → i < n → Named n (cell cells i f))
    (ends : cell cells null f ≡ null) where
  pub null_steps : (d : ℕ) → null ≢ x → InSteps cells f x null d → ⊥
  null_steps zero m (stay e) = m e
  null_steps (suc d) m (step g r) = null_steps d m (rw ends at r)

  null_none : (d : ℕ) → InSteps cells f x null d → d ≡ 0
  null_none zero r = refl
  null_none (suc d) (step g r) = absurd (null_steps (suc d) g (step g r))

  passed_inside : {k d : ℕ} (j : ℕ) → k < n → InSteps cells f x k d → 1 ≤ times j (passed cells f d k) → j < n
  unfolding passed times
  passed_inside j l (stay e) h = absurd (omega arith)
  passed_inside j l (step {k} {d} g r) h =
      times_cases j k (passed cells f d (cell cells k f)) h (λ e. omega arith) (λ y. go (named k l) y (λ b. passed_inside j b r y))
    where
      go : Named n (cell cells k f) → 1 ≤ times j (passed cells f d (cell cells k f)) → (cell cells k f < n → j < n) → j < n
      go (inl e) y again = absurd (omega (arith, none, y))
        where
          zeros : d ≡ 0
          zeros = null_none d (rw e at r)

          none : times j (passed cells f d (cell cells k f)) ≡ 0
          none = rw zeros refl
      go (inr b) y again = again b

  pub steps_most : {k d : ℕ} → k < n → InSteps cells f x k d → d ≤ n
  steps_most {k} {d} l r =
      omega (
        arith,
        length_passed cells f d k,
        length_most n (passed cells f d k) (λ j y. passed_inside j l r y) (λ j. passed_once j r),
      )

  -- As many steps as there are slots, or more, decide it.
  pub leads_tested : (k : ℕ) → k < n → {b : ℕ} → n ≤ b → (leads_to b cells f x k ≡ true) ↔ LeadsTo cells f x k
  leads_tested k l {b} most = (
    tested_leads b k,
    λ h. (let s = leads_steps h in steps_tested b s.1 (omega (arith, steps_most l s.1))),
  )

  pub leads_dec : (k : ℕ) → k < n → Dec (LeadsTo cells f x k)
  leads_dec k l = go (leads_to n cells f x k) refl
    where
      go : (b : Bool) → leads_to n cells f x k ≡ b → Dec (LeadsTo cells f x k)
      go true e = yes ((leads_tested k l {b = n} (omega arith)).0 e)
      go false e = no (λ h. false≢true (sym e ∙ (leads_tested k l {b = n} (omega arith)).1 h))
