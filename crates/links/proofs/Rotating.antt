-- What the steps of a rotation come to, on plain values: each law takes the equations that the calls give, in the order of the code.
use Rattle.std.proofs.Common.{◌≡◌, ℕ, ◌≢◌, List}
use Rattle.slots.specs.Words.{null, state, parent, black, code, cell, write}
use Rattle.slots.proofs.Laws.{pick_eq, pick_ne}
use Rattle.redblack.specs.Links.{Links, lent_links, read}
use Rattle.redblack.specs.Rotate.{hung, recounted, turned, rotated}

-- The ways through hang.
module _ (near far : ℕ) (s : Links) (pp p r : ℕ) where
  pub hung_root : {l : List ℕ} → pp ≡ null → l ≡ write s.cells r state (code black) → lent_links l r s.sizes ≡ hung near far s pp p r
  unfolding hung
  hung_root h e = rw (pick_eq _ _ h, ← e)

  pub hung_near : {l : List ℕ} {c : ℕ} → pp ≢ null → c ≡ read s pp near → c ≡ p → l ≡ write s.cells pp near r
      → lent_links l s.root s.sizes ≡ hung near far s pp p r
  unfolding hung
  hung_near h c t e = rw (pick_ne _ _ h, ← c, pick_eq _ _ t, ← e)

  pub hung_far : {l : List ℕ} {c : ℕ} → pp ≢ null → c ≡ read s pp near → c ≢ p → l ≡ write s.cells pp far r
      → lent_links l s.root s.sizes ≡ hung near far s pp p r
  unfolding hung
  hung_far h c t e = rw (pick_ne _ _ h, ← c, pick_ne _ _ t, ← e)

-- The ways through rotate: p is null, it has no child on the far side, it goes down.
module _ (near far : ℕ) (s : Links) (p : ℕ) where
  pub none : p ≡ null → s ≡ rotated near far s p
  unfolding rotated
  none h = rw (pick_eq _ _ h)

  pub childless : {r : ℕ} → p ≢ null → r ≡ read s p far → r ≡ null → s ≡ rotated near far s p
  unfolding rotated
  childless n c h = rw (pick_ne _ _ n, ← c, pick_eq _ _ h)

  pub turn : {r inner pp a b top : ℕ} {l1 l2 l3 l l4 l5 z : List ℕ}
      → p ≢ null → r ≡ read s p far → r ≢ null
      → inner ≡ read s r near → l1 ≡ write s.cells p far inner → l2 ≡ write l1 inner parent p
      → pp ≡ cell l2 p parent → l3 ≡ write l2 r parent pp
      → ((sizes : List ℕ) → lent_links l top sizes ≡ hung near far (lent_links l3 s.root sizes) pp p r)
      → l4 ≡ write l r near p → l5 ≡ write l4 p parent r
      → a ≡ cell l5 p near → b ≡ cell l5 p far → z ≡ recounted s.sizes p r a b
      → lent_links l5 top z ≡ rotated near far s p
  unfolding rotated turned
  turn n e1 h e2 e3 e4 e5 e6 e7 e8 e9 e10 e11 e12 =
      rw (pick_ne _ _ n, ← e1, pick_ne _ _ h, ← e2, ← e3, ← e4, ← e5, ← e6, ← e7 s.sizes, ← e8, ← e9, ← e10, ← e11, ← e12)
