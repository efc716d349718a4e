-- What the steps that write sizes come to, on plain values: each law takes the equations that the calls give, in the order of the code.
use Rattle.std.proofs.Common.{◌≡◌, ℕ, suc, ◌+◌, ◌-◌, ◌<◌, ◌≤◌, ◌≢◌, List, get_or, set, arith}
use Rattle.slots.specs.Words.{null, parent, cell, sum}
use Rattle.slots.proofs.Laws.{pick_eq, pick_ne}
use Rattle.redblack.specs.Links.{lent_links}
use Rattle.redblack.specs.Rotate.{recounted}
use Rattle.redblack.specs.Climbing.{climbed, weighed, swapped}

module _ (l : List ℕ) (p r a b : ℕ) where
  pub recount : {old one two both all : ℕ} {l1 l2 : List ℕ}
      → old ≡ get_or l p 0 → l1 ≡ set l r old → one ≡ get_or l1 a 0 → two ≡ get_or l1 b 0
      → both ≡ sum one two → all ≡ sum 1 both → l2 ≡ set l1 p all
      → l2 ≡ recounted l p r a b
  unfolding recounted
  recount e1 e2 e3 e4 e5 e6 e7 = rw (← e1, ← e2, ← e3, ← e4, ← e5, ← e6) e7

module _ (l : List ℕ) (p t : ℕ) where
  pub exchange : {old new : ℕ} {l1 l2 : List ℕ}
      → old ≡ get_or l p 0 → new ≡ get_or l t 0 → l1 ≡ set l p new → l2 ≡ set l1 t old → l2 ≡ swapped l p t
  unfolding swapped
  exchange e1 e2 e3 e4 = rw (← e1, ← e2, ← e3) e4

-- The way up after t of n steps: no step is left, or there is no slot above, or it goes on.
module _ (cells : List ℕ) (d n t p : ℕ) (l : List ℕ) {w : List ℕ} (i : climbed (n - t) cells l p d ≡ w) where
  pub spent : n ≤ t → l ≡ w
  unfolding climbed
  spent h = let z : n - t ≡ 0 = omega arith in rw z at i

  pub topped : t < n → p ≡ null → l ≡ w
  unfolding climbed
  topped h v = let s : n - t ≡ suc (n - (t + 1)) = omega arith in rw (pick_eq _ _ v) at (rw s at i)

  pub upward : {old new q : ℕ} {l1 : List ℕ} → t < n → p ≢ null
      → old ≡ get_or l p 0 → new ≡ sum old d → l1 ≡ set l p new → q ≡ cell cells p parent
      → climbed (n - (t + 1)) cells l1 q d ≡ w
  unfolding climbed
  upward h v e1 e2 e3 e4 =
      let s : n - t ≡ suc (n - (t + 1)) = omega arith in
      rw (e3, e2, e1, e4) (rw (pick_ne _ _ v) at (rw s at i))

module _ (budget : ℕ) (cells l : List ℕ) (x v d : ℕ) where
  pub weigh : {above : ℕ} {l1 l2 : List ℕ}
      → l1 ≡ set l x v → above ≡ cell cells x parent → l2 ≡ climbed budget cells l1 above d
      → (root : ℕ) → lent_links cells root l2 ≡ weighed budget (lent_links cells root l) x v d
  weigh e1 e2 e3 root = rw (← e1, ← e2, ← e3)
