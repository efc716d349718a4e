-- What the steps of a removal come to, on plain values: each law takes the equations that the calls give, in the order of the code.
use Rattle.std.proofs.Common.{◌≡◌, ℕ, Bool, ◌≢◌, List, refl, eq-eqb, ne_eqb}
use Rattle.slots.specs.Words.{null, state, parent, left, right, black, code, cell, write}
use Rattle.slots.proofs.Laws.{pick_eq, pick_ne}
use Rattle.redblack.specs.Links.{Links, lent_links, read, is_red, colour_of}
use Rattle.redblack.specs.Climbing.{weighed_out, swapped}
use Rattle.redblack.specs.Removal.{replaced, lowered, traded, replacement, spliced, detached, dropped, leftmost, removed}
use Rattle.links.specs.Spots.{relinked, rebalanced, blackened}
use Rattle.links.proofs.Walks.{Walk}

-- p stands on the left of q, on the right.
module _ (l : List ℕ) (q p x : ℕ) where
  pub relink_left : {c : ℕ} {l1 : List ℕ} → c ≡ cell l q left → c ≡ p → l1 ≡ write l q left x
      → (root : ℕ) (sizes : List ℕ) → lent_links l1 root sizes ≡ relinked (lent_links l root sizes) q p x
  relink_left e1 h e2 root sizes = rw (← e1, pick_eq _ _ h, ← e2)

  pub relink_right : {c : ℕ} {l1 : List ℕ} → c ≡ cell l q left → c ≢ p → l1 ≡ write l q right x
      → (root : ℕ) (sizes : List ℕ) → lent_links l1 root sizes ≡ relinked (lent_links l root sizes) q p x
  relink_right e1 h e2 root sizes = rw (← e1, pick_ne _ _ h, ← e2)

-- There is no q, there is.
module _ (s : Links) (q p x : ℕ) where
  pub rootward : q ≡ null → lent_links s.cells x s.sizes ≡ replaced s q p x
  unfolding replaced
  rootward h = rw (pick_eq _ _ h)

  pub under : {l : List ℕ} → q ≢ null
      → ((root : ℕ) (sizes : List ℕ) → lent_links l root sizes ≡ relinked (lent_links s.cells root sizes) q p x)
      → lent_links l s.root s.sizes ≡ replaced s q p x
  unfolding replaced
  under n e = rw (pick_ne _ _ n) (e s.root s.sizes)

-- The successor t is p's right child, or stands deeper.
module _ (l : List ℕ) (p t pr tp : ℕ) where
  pub child : {l1 l2 : List ℕ} → t ≡ pr → l1 ≡ write l p parent t → l2 ≡ write l1 t right p
      → (root : ℕ) (sizes : List ℕ) → lent_links l2 root sizes ≡ lowered (lent_links l root sizes) p t pr tp
  unfolding lowered
  child h e1 e2 root sizes = rw (pick_eq _ _ h, ← e1, ← e2)

  pub deeper : {l1 l2 l3 l4 : List ℕ}
      → t ≢ pr → l1 ≡ write l p parent tp
      → ((root : ℕ) (sizes : List ℕ) → lent_links l2 root sizes ≡ relinked (lent_links l1 root sizes) tp t p)
      → l3 ≡ write l2 t right pr → l4 ≡ write l3 pr parent t
      → (root : ℕ) (sizes : List ℕ) → lent_links l4 root sizes ≡ lowered (lent_links l root sizes) p t pr tp
  unfolding lowered
  deeper n e1 e2 e3 e4 root sizes = rw (pick_ne _ _ n, ← e1, ← e2 root sizes, ← e3, ← e4)

module _ (s : Links) (p t : ℕ) where
  pub trade : {high low pl tr pp pr tp top : ℕ} {l1 l2 l3 l4 l5 l6 l7 l8 l9 l z : List ℕ}
      → high ≡ code (colour_of s p) → low ≡ code (colour_of s t)
      → pl ≡ read s p left → tr ≡ read s t right → pp ≡ read s p parent → pr ≡ read s p right → tp ≡ read s t parent
      → l1 ≡ write s.cells t state high → l2 ≡ write l1 p state low
      → ((root : ℕ) (sizes : List ℕ) → lent_links l3 root sizes ≡ lowered (lent_links l2 root sizes) p t pr tp)
      → l4 ≡ write l3 p left null → l5 ≡ write l4 p right tr → l6 ≡ write l5 tr parent p
      → l7 ≡ write l6 t left pl → l8 ≡ write l7 pl parent t → l9 ≡ write l8 t parent pp
      → ((sizes : List ℕ) → lent_links l top sizes ≡ replaced (lent_links l9 s.root sizes) pp p t)
      → z ≡ swapped s.sizes p t
      → lent_links l top z ≡ traded s p t
  unfolding traded
  trade f1 f2 r1 r2 r3 r4 r5 e1 e2 e3 e4 e5 e6 e7 e8 e9 e10 e11 =
      rw (
        ← f1,
        ← f2,
        ← r1,
        ← r2,
        ← r3,
        ← r4,
        ← r5,
        ← e1,
        ← e2,
        ← e3 s.root s.sizes,
        ← e4,
        ← e5,
        ← e6,
        ← e7,
        ← e8,
        ← e9,
        ← e10 s.sizes,
        ← e11,
      )

-- p has no child, one on the right, one on the left.
module _ (l : List ℕ) (p : ℕ) where
  pub itself : {low high : ℕ} → low ≡ cell l p left → low ≡ null → high ≡ cell l p right → high ≡ null
      → (root : ℕ) (sizes : List ℕ) → p ≡ replacement (lent_links l root sizes) p
  unfolding replacement
  itself e1 h e2 k root sizes = rw (← e1, pick_eq _ _ h, ← e2, pick_eq _ _ k)

  pub right_child : {low high : ℕ} → low ≡ cell l p left → low ≡ null → high ≡ cell l p right → high ≢ null
      → (root : ℕ) (sizes : List ℕ) → high ≡ replacement (lent_links l root sizes) p
  unfolding replacement
  right_child e1 h e2 k root sizes = rw (← e1, pick_eq _ _ h, ← e2, pick_ne _ _ k)

  pub left_child : {low : ℕ} → low ≡ cell l p left → low ≢ null
      → (root : ℕ) (sizes : List ℕ) → low ≡ replacement (lent_links l root sizes) p
  unfolding replacement
  left_child e1 h root sizes = rw (← e1, pick_ne _ _ h)

module _ (s : Links) (p x : ℕ) where
  pub splice : {pp top : ℕ} {l1 l l2 l3 l4 : List ℕ}
      → pp ≡ read s p parent → l1 ≡ write s.cells x parent pp
      → ((sizes : List ℕ) → lent_links l top sizes ≡ replaced (lent_links l1 s.root sizes) pp p x)
      → l2 ≡ write l p left null → l3 ≡ write l2 p right null → l4 ≡ write l3 p parent null
      → lent_links l4 top s.sizes ≡ spliced s p x
  unfolding spliced
  splice e1 e2 e3 e4 e5 e6 = rw (← e1, ← e2, ← e3 s.sizes, ← e4, ← e5, ← e6)

module _ (s : Links) (p : ℕ) where
  pub detach : {pp top : ℕ} {l l1 : List ℕ}
      → pp ≡ read s p parent
      → ((sizes : List ℕ) → lent_links l top sizes ≡ replaced (lent_links s.cells s.root sizes) pp p null)
      → l1 ≡ write l p parent null
      → lent_links l1 top s.sizes ≡ detached s p
  unfolding detached
  detach e1 e2 e3 = rw (← e1, ← e2 s.sizes, ← e3)

-- x is the root, is not.
module _ (s : Links) (x : ℕ) where
  pub at_root : {l : List ℕ} → s.root ≡ x → l ≡ write s.cells x state (code black) → lent_links l s.root s.sizes ≡ blackened s x
  at_root h e = rw (pick_eq _ _ h, ← e)

  pub not_root : s.root ≢ x → s ≡ blackened s x
  not_root h = rw (pick_ne _ _ h)

-- The slot stands as its own replacement, or its one child takes its position.
module _ (budget : ℕ) (s : Links) (p : ℕ) where
  pub drop_itself : {x low top : ℕ} {b : Bool} {l l1 l2 y z : List ℕ}
      → ((root : ℕ) (sizes : List ℕ) → x ≡ replacement (lent_links s.cells root sizes) p) → b ≡ is_red s p → x ≡ p
      → lent_links l low y ≡ rebalanced budget s x b
      → ((root : ℕ) → lent_links l root z ≡ weighed_out budget (lent_links l root y) p)
      → ((sizes : List ℕ) → lent_links l1 top sizes ≡ detached (lent_links l low sizes) p)
      → ((sizes : List ℕ) → lent_links l2 top sizes ≡ blackened (lent_links l1 top sizes) x)
      → lent_links l2 top z ≡ dropped budget s p
  unfolding dropped
  drop_itself {low = low} {z = z} e1 e2 h e3 e4 e5 e6 =
      rw (← e1 s.root s.sizes, ← e2, eq-eqb _ _ h, ← e3, ← e4 low, ← e5 z) (e6 z)

  pub drop-spliced : {x low top : ℕ} {b : Bool} {l l1 l2 y z : List ℕ}
      → ((root : ℕ) (sizes : List ℕ) → x ≡ replacement (lent_links s.cells root sizes) p) → b ≡ is_red s p → x ≢ p
      → ((root : ℕ) → lent_links s.cells root y ≡ weighed_out budget (lent_links s.cells root s.sizes) p)
      → ((sizes : List ℕ) → lent_links l low sizes ≡ spliced (lent_links s.cells s.root sizes) p x)
      → lent_links l1 top z ≡ rebalanced budget (lent_links l low y) x b
      → ((sizes : List ℕ) → lent_links l2 top sizes ≡ blackened (lent_links l1 top sizes) x)
      → lent_links l2 top z ≡ dropped budget s p
  unfolding dropped
  drop-spliced {y = y} {z = z} e1 e2 h e3 e4 e5 e6 =
      rw (← e1 s.root s.sizes, ← e2, ne_eqb _ _ h, ← e3 s.root, ← e4 y, ← e5) (e6 z)

-- The way to the leftmost slot is a walk by the left side.
pub leftward : (s : Links) → Walk s.cells (λ p. left) (λ p f. p) (λ n p. leftmost n s p)
unfolding leftmost
leftward s = record { spent = λ p. refl; unrolled = λ n p. refl }

-- p has no child on the left, none on the right, two children.
module _ (budget : ℕ) (s : Links) (p : ℕ) where
  pub no_left : {c : ℕ} {w : Links} → c ≡ read s p left → c ≡ null → w ≡ dropped budget s p → w ≡ removed budget s p
  unfolding removed
  no_left e1 h e2 = rw (← e1, pick_eq _ _ h) e2

  pub no_right : {c d : ℕ} {w : Links}
      → c ≡ read s p left → c ≢ null → d ≡ read s p right → d ≡ null → w ≡ dropped budget s p → w ≡ removed budget s p
  unfolding removed
  no_right e1 h e2 k e3 = rw (← e1, pick_ne _ _ h, ← e2, pick_eq _ _ k) e3

  pub both : {c d q : ℕ} {t w : Links}
      → c ≡ read s p left → c ≢ null → d ≡ read s p right → d ≢ null
      → ((root : ℕ) (sizes : List ℕ) → q ≡ leftmost budget (lent_links s.cells root sizes) d) → t ≡ traded s p q → w ≡ dropped budget t p
      → w ≡ removed budget s p
  unfolding removed
  both e1 h e2 k e3 e4 e5 = rw (← e1, pick_ne _ _ h, ← e2, pick_ne _ _ k, ← e3 s.root s.sizes, ← e4) e5
