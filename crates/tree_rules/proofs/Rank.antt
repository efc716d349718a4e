-- Following one field of the slots until null: the number of steps is determined by the slot, so of two slots passed on the way
-- as many steps below null, there is only one.
use Rattle.std.proofs.Common.{◌≡◌, ℕ, zero, suc, ◌+◌, ◌<◌, ◌≢◌, List, sym, refl, ap, ◌∙◌, arith}
use Rattle.slots.specs.Words.{null, cell}

-- The field f followed so many times from the slot k.
pub climb : List ℕ → ℕ → ℕ → ℕ → ℕ
climb cells f zero k = k
climb cells f (suc m) k = climb cells f m (cell cells k f)

-- From k it takes d steps to null.
pub data Rank (cells : List ℕ) (f : ℕ) : ℕ → ℕ → Type 0 where
  home : {k : ℕ} → k ≡ null → Rank cells f k 0
  up : {k d : ℕ} → k ≢ null → Rank cells f (cell cells k f) d → Rank cells f k (suc d)

pub rank_unique : {cells : List ℕ} {f k d e : ℕ} → Rank cells f k d → Rank cells f k e → d ≡ e
rank_unique (home a) (home b) = refl
rank_unique (home a) (up n r) = absurd (n a)
rank_unique (up n r) (home a) = absurd (n a)
rank_unique (up n r) (up m s) = ap suc (rank_unique r s)

pub rank_up : {cells : List ℕ} {f x q d : ℕ} → x ≢ null → cell cells x f ≡ q → Rank cells f q d → Rank cells f x (suc d)
rank_up {d = d} n e r = up {d = d} n (rw e r)

-- From k some steps lead to x, and d more than one from there to null.
pub record Under (cells : List ℕ) (f d x k : ℕ) : Type 0 where
  pub steps : ℕ
  pub leads : climb cells f steps k ≡ x
  pub ranked : Rank cells f k (steps + suc d)

climb_on : (cells : List ℕ) (f m k : ℕ) → climb cells f (suc m) k ≡ cell cells (climb cells f m k) f
unfolding climb
climb_on cells f zero k = refl
climb_on cells f (suc m) k = climb_on cells f m (cell cells k f)

pub under_self : {cells : List ℕ} {f d x : ℕ} → Rank cells f x (suc d) → Under cells f d x x
unfolding climb
under_self {d = d} r = let z : 0 + suc d ≡ suc d = omega arith in record { steps = 0; leads = refl; ranked = rw z r }

pub under_above : {cells : List ℕ} {f d x y k : ℕ} → cell cells y f ≡ x → Under cells f (suc d) y k → Under cells f d x k
under_above {cells} {f} {d} {x} {y} {k} e h =
    let z : suc h.steps + suc d ≡ h.steps + suc (suc d) = omega arith in
    record {
      steps = suc h.steps;
      leads = climb_on cells f h.steps k ∙ ap (λ (j : ℕ). cell cells j f) h.leads ∙ e;
      ranked = rw z h.ranked;
    }

-- No slot stands under two as near to null.
pub under_one_lem : {cells : List ℕ} {f d x y k : ℕ} → Under cells f d x k → Under cells f d y k → x ≡ y
under_one_lem {cells} {f} {d} {x} {y} {k} h g =
    let r = rank_unique h.ranked g.ranked in
    let s : h.steps ≡ g.steps = omega arith in
    sym h.leads ∙ ap (λ (m : ℕ). climb cells f m k) s ∙ g.leads

pub under_deep : {cells : List ℕ} {f d e x k : ℕ} → Under cells f d x k → Rank cells f k e → d < e
under_deep h r = omega (arith, rank_unique h.ranked r)
