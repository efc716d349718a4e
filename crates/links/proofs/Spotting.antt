-- What the steps of a descent and of the hanging come to, on plain values: each law takes the equations that the calls give,
-- in the order of the code.
use Rattle.std.proofs.Common.{◌≡◌, ℕ, ◌≢◌, List, refl}
use Rattle.slots.specs.Words.{null, parent, left, right, write}
use Rattle.slots.proofs.Laws.{pick_eq, pick_ne}
use Rattle.redblack.specs.Links.{Links, lent_links}
use Rattle.redblack.specs.Climbing.{weighed_in}
use Rattle.redblack.specs.Insertion.{balanced_insertion}
use Rattle.redblack.specs.Hanging.{Spot, spot, side_for, descended, hooked, inserted, spotted}
use Rattle.links.specs.Spots.{spot_of}
use Rattle.links.specs.declared.spot.Spot as code
use Rattle.links.proofs.Walks.{Walk}

-- The descent is a walk by the side where the pair belongs.
pub descent : (names cells : List ℕ) (hash key : ℕ)
    → Walk cells (λ p. side_for names p hash key) spot (λ n p. descended names cells n p hash key)
unfolding descended
descent names cells hash key = record { spent = λ p. refl; unrolled = λ n p. refl }

-- The tree is empty, is not.
module _ (steps : ℕ) (names : List ℕ) (s : Links) (hash key : ℕ) where
  pub empty : s.root ≡ null → spot null left ≡ spotted steps names s hash key
  unfolding spotted
  empty h = rw (pick_eq _ _ h)

  pub full : {w : Spot} → s.root ≢ null → w ≡ descended names s.cells steps s.root hash key → w ≡ spotted steps names s hash key
  unfolding spotted
  full n e = rw (pick_ne _ _ n) e

module _ (l : List ℕ) (x above side : ℕ) where
  pub hook : {l1 l2 l3 l4 : List ℕ}
      → l1 ≡ write l x parent above → l2 ≡ write l1 x left null → l3 ≡ write l2 x right null → l4 ≡ write l3 above side x
      → (root : ℕ) (sizes : List ℕ) → lent_links l4 root sizes ≡ hooked (lent_links l root sizes) x (spot above side)
  unfolding hooked
  hook e1 e2 e3 e4 root sizes = rw (← e1, ← e2, ← e3, ← e4)

module _ (budget : ℕ) (names : List ℕ) (s : Links) (x hash key : ℕ) where
  pub hang : {at : code.Spot} {l z : List ℕ} {w : Links}
      → ((sizes : List ℕ) → spot_of at ≡ spotted budget names (lent_links s.cells s.root sizes) hash key)
      → ((root : ℕ) (sizes : List ℕ) → lent_links l root sizes ≡ hooked (lent_links s.cells root sizes) x (spot_of at))
      → ((root : ℕ) → lent_links l root z ≡ weighed_in budget (lent_links l root s.sizes) x)
      → w ≡ balanced_insertion budget (lent_links l s.root z) x
      → w ≡ inserted budget s x (spotted budget names s hash key)
  unfolding inserted
  hang e1 e2 e3 e4 = rw (← e1 s.sizes, ← e2 s.root s.sizes, ← e3 s.root) e4
