-- A walk down the links of a tree, at most so many steps: by the link of the side that is picked at each slot, until it is null.
use Rattle.std.proofs.Common.{◌≡◌, ℕ, zero, suc, ◌+◌, ◌-◌, ◌<◌, ◌≤◌, eqb, ◌≢◌, List, arith}
use Rattle.slots.specs.Words.{null, pick, cell}
use Rattle.slots.proofs.Laws.{pick_eq, pick_ne}

-- What the walk answers at a slot and the side picked there, with no step left; and a step.
pub record Walk {A : Type 0} (cells : List ℕ) (side : ℕ → ℕ) (here : ℕ → ℕ → A) (walk : ℕ → ℕ → A) : Type 0 where
  pub spent : (p : ℕ) → walk zero p ≡ here p (side p)
  pub unrolled : (n p : ℕ) → walk (suc n) p ≡ pick (eqb (cell cells p (side p)) null) (here p (side p)) (walk n (cell cells p (side p)))

-- After t of n steps: no step is left, or the link is null, or it goes down.
module _ {A : Type 0} {cells : List ℕ} {side : ℕ → ℕ} {here : ℕ → ℕ → A} {walk : ℕ → ℕ → A} (k : Walk cells side here walk) {n t : ℕ} where
  pub bottom : {p f : ℕ} {w : A} → walk (n - t) p ≡ w → n ≤ t → f ≡ side p → here p f ≡ w
  bottom {p} i h e = let z : n - t ≡ 0 = omega arith in rw (k.spent p, ← e) at (rw z at i)

  pub ended : {p f q : ℕ} {w : A} → walk (n - t) p ≡ w → t < n → f ≡ side p → q ≡ cell cells p f → q ≡ null → here p f ≡ w
  ended {p} i h e1 e2 v =
      let s : n - t ≡ suc (n - (t + 1)) = omega arith in
      rw (k.unrolled (n - (t + 1)) p, ← e1, ← e2, pick_eq _ _ v) at (rw s at i)

  pub down : {p f q : ℕ} {w : A} → walk (n - t) p ≡ w → t < n → f ≡ side p → q ≡ cell cells p f → q ≢ null
      → walk (n - (t + 1)) q ≡ w
  down {p} i h e1 e2 v =
      let s : n - t ≡ suc (n - (t + 1)) = omega arith in
      rw (k.unrolled (n - (t + 1)) p, ← e1, ← e2, pick_ne _ _ v) at (rw s at i)
