-- What the steps of the balancing come to, on plain values: each law takes the equations that the calls give, in the order of the code.
use Rattle.std.proofs.Common.{◌≡◌, ℕ, zero, suc, ◌+◌, ◌-◌, ◌<◌, ◌≤◌, Bool, true, false, not, ◌≢◌, List, Option, None, Some, refl, arith}
use borrow.Author.Tests.{not-true, not-false}
use Rattle.slots.specs.Words.{null, state, parent, left, right, black, red, code, cell, write}
use Rattle.slots.proofs.Laws.{pick_eq, pick_ne}
use Rattle.redblack.specs.Links.{Links, lent_links, read, is_red, colour_of, Turn, done, more}
use Rattle.redblack.specs.Rotate.{rotated}
use Rattle.redblack.specs.Insertion.{raised, straightened, lifted, insertion_turn, insertion_turns, balanced_insertion}
use Rattle.redblack.specs.Deletion.{capped, outer_red, inner_red, dark_sib, by_sib, deletion_turn, balanced_deletion}
use Rattle.links.specs.Turns.{turn_of}

-- The steps of balance_insertion.
module _ (near far : ℕ) (s : Links) (xp xpp : ℕ) where
  pub raise : {l1 l2 : List ℕ} {t : Links}
      → l1 ≡ write s.cells xp state (code black) → l2 ≡ write l1 xpp state (code red)
      → t ≡ rotated far near (lent_links l2 s.root s.sizes) xpp → t ≡ raised near far s xp xpp
  unfolding raised
  raise e1 e2 e3 = rw (← e1, ← e2) e3

-- x stands on the inner side, on the outer; the uncle is red, is not.
module _ (near far : ℕ) (s : Links) (x xp xpp : ℕ) where
  pub inner : {c q qp : ℕ} {t u : Links}
      → c ≡ read s xp far → x ≡ c → t ≡ rotated near far s xp → q ≡ read t xp parent → qp ≡ read t q parent → u ≡ raised near far t q qp
      → more u xp ≡ straightened near far s x xp xpp
  unfolding straightened
  inner c h e1 e2 e3 e4 = rw (← c, pick_eq _ _ h, ← e1, ← e2, ← e3, ← e4)

  pub outer : {c : ℕ} {u : Links} → c ≡ read s xp far → x ≢ c → u ≡ raised near far s xp xpp → more u x ≡ straightened near far s x xp xpp
  unfolding straightened
  outer c h e = rw (← c, pick_ne _ _ h, ← e)

  pub uncle_red : {y : ℕ} {b : Bool} {l1 l2 l3 : List ℕ}
      → y ≡ read s xpp far → b ≡ is_red s y → b ≡ true
      → l1 ≡ write s.cells y state (code black) → l2 ≡ write l1 xp state (code black) → l3 ≡ write l2 xpp state (code red)
      → more (lent_links l3 s.root s.sizes) xpp ≡ lifted near far s x xp xpp
  unfolding lifted
  uncle_red e1 e2 h e3 e4 e5 = rw (← e1, ← e2, h, ← e3, ← e4, ← e5)

  pub uncle_black : {y : ℕ} {b : Bool} {v : Turn}
      → y ≡ read s xpp far → b ≡ is_red s y → b ≡ false → v ≡ straightened near far s x xp xpp → v ≡ lifted near far s x xp xpp
  unfolding lifted
  uncle_black e1 e2 h e3 = rw (← e1, ← e2, h) e3

-- The ways out of a turn: x has no parent; its parent is not red, is the root, stands on the left or on the right.
module _ (s : Links) (x : ℕ) where
  pub orphan : {xp : ℕ} {l : List ℕ} → xp ≡ read s x parent → xp ≡ null → l ≡ write s.cells x state (code black)
      → done (lent_links l x s.sizes) ≡ insertion_turn s x
  unfolding insertion_turn
  orphan e1 h e2 = rw (← e1, pick_eq _ _ h, ← e2)

  pub parent_black : {xp : ℕ} {b : Bool} → xp ≡ read s x parent → xp ≢ null → b ≡ is_red s xp → not b ≡ true → done s ≡ insertion_turn s x
  unfolding insertion_turn
  parent_black {b = b} e1 n e2 h = rw (← e1, pick_ne _ _ n, ← e2, not-true b h)

  pub parent_root : {xp xpp : ℕ} {b : Bool}
      → xp ≡ read s x parent → xp ≢ null → b ≡ is_red s xp → not b ≡ false → xpp ≡ read s xp parent → xpp ≡ null
      → done s ≡ insertion_turn s x
  unfolding insertion_turn
  parent_root {b = b} e1 n e2 h e3 t = rw (← e1, pick_ne _ _ n, ← e2, not-false b h, ← e3, pick_eq _ _ t)

  pub parent-left : {xp xpp c : ℕ} {b : Bool} {v : Turn}
      → xp ≡ read s x parent → xp ≢ null → b ≡ is_red s xp → not b ≡ false → xpp ≡ read s xp parent → xpp ≢ null
      → c ≡ read s xpp left → c ≡ xp → v ≡ lifted left right s x xp xpp
      → v ≡ insertion_turn s x
  unfolding insertion_turn
  parent-left {b = b} e1 n e2 h e3 t e4 p e5 = rw (← e1, pick_ne _ _ n, ← e2, not-false b h, ← e3, pick_ne _ _ t, ← e4, pick_eq _ _ p) e5

  pub parent-right : {xp xpp c : ℕ} {b : Bool} {v : Turn}
      → xp ≡ read s x parent → xp ≢ null → b ≡ is_red s xp → not b ≡ false → xpp ≡ read s xp parent → xpp ≢ null
      → c ≡ read s xpp left → c ≢ xp → v ≡ lifted right left s x xp xpp
      → v ≡ insertion_turn s x
  unfolding insertion_turn
  parent-right {b = b} e1 n e2 h e3 t e4 p e5 = rw (← e1, pick_ne _ _ n, ← e2, not-false b h, ← e3, pick_ne _ _ t, ← e4, pick_ne _ _ p) e5

-- What a turn leads to, where the rest of the loop is known.
abbrev after : Turn → (Links → ℕ → Links) → Links
after v rest = elim v [ done t ↦ t | more t y ↦ rest t y ]

-- A loop with a budget: none left, and a turn with what it leads to.
pub record Loop (turn : Links → ℕ → Turn) (loop : ℕ → Links → ℕ → Links) : Type 0 where
  pub spent : (s : Links) (x : ℕ) → loop zero s x ≡ s
  pub unrolled : (n : ℕ) (s : Links) (x : ℕ) → loop (suc n) s x ≡ after (turn s x) (loop n)

-- After b of n turns: the budget is spent, or a turn ends the loop, or it goes on.
module _ {turn : Links → ℕ → Turn} {loop : ℕ → Links → ℕ → Links} (k : Loop turn loop) {n b x : ℕ} {s w : Links}
    (i : loop (n - b) s x ≡ w) where
  pub over : n ≤ b → s ≡ w
  over h = let z : n - b ≡ 0 = omega arith in rw (k.spent s x) at (rw z at i)

  module _ (h : b < n) where
    turned : {v : Turn} → v ≡ turn s x → after v (loop (n - (b + 1))) ≡ w
    turned e = let z : n - b ≡ suc (n - (b + 1)) = omega arith in rw (k.unrolled (n - (b + 1)) s x, ← e) at (rw z at i)

    pub ends : {step : ℕ × Option ℕ} {cells sizes : List ℕ} → turn_of step cells sizes ≡ turn s x → step.1 ≡ None
        → lent_links cells step.0 sizes ≡ w
    ends e d = rw d at (turned e)

    pub goes_on : {step : ℕ × Option ℕ} {cells sizes : List ℕ} {y : ℕ} → turn_of step cells sizes ≡ turn s x → step.1 ≡ Some y
        → loop (n - (b + 1)) (lent_links cells step.0 sizes) y ≡ w
    goes_on e d = rw d at (turned e)

pub insertion : Loop insertion_turn insertion_turns
unfolding insertion_turns
insertion = record { spent = λ s x. refl; unrolled = λ n s x. refl }

pub started : (budget : ℕ) (s : Links) (x : ℕ) {l : List ℕ} {w : Links}
    → l ≡ write s.cells x state (code red) → w ≡ insertion_turns budget (lent_links l s.root s.sizes) x
    → w ≡ balanced_insertion budget s x
unfolding balanced_insertion
started budget s x e1 e2 = rw (← e1) e2

-- The steps of balance_deletion.
module _ (near far : ℕ) (s : Links) (xp y : ℕ) where
  pub outer_turn : {h o : ℕ} {l1 l2 l3 : List ℕ} {t : Links}
      → h ≡ code (colour_of s xp) → l1 ≡ write s.cells y state h → o ≡ cell l1 y far
      → l2 ≡ write l1 o state (code black) → l3 ≡ write l2 xp state (code black)
      → t ≡ rotated near far (lent_links l3 s.root s.sizes) xp
      → more t t.root ≡ outer_red near far s xp y
  unfolding outer_red capped
  outer_turn e1 e2 e3 e4 e5 e6 = rw (← e1, ← e2, ← e3, ← e4, ← e5, ← e6)

module _ (near far : ℕ) (s : Links) (y : ℕ) where
  pub inner_turn : {i : ℕ} {l1 l2 : List ℕ} {t : Links}
      → i ≡ read s y near → l1 ≡ write s.cells i state (code black) → l2 ≡ write l1 y state (code red)
      → t ≡ rotated far near (lent_links l2 s.root s.sizes) y → t ≡ inner_red near far s y
  unfolding inner_red
  inner_turn e1 e2 e3 e4 = rw (← e1, ← e2, ← e3) e4

-- The outer nephew is red, the inner alone, neither.
module _ (near far : ℕ) (s : Links) (x xp y : ℕ) where
  pub outer_red_lem : {o : ℕ} {b : Bool} {v : Turn}
      → o ≡ read s y far → b ≡ is_red s o → b ≡ true → v ≡ outer_red near far s xp y → v ≡ dark_sib near far s x xp y
  unfolding dark_sib
  outer_red_lem e1 e2 h e3 = rw (← e1, ← e2, h) e3

  pub inner_red_lem : {o i q z : ℕ} {b d : Bool} {t : Links} {v : Turn}
      → o ≡ read s y far → b ≡ is_red s o → b ≡ false → i ≡ read s y near → d ≡ is_red s i → d ≡ true
      → t ≡ inner_red near far s y → q ≡ read t x parent → z ≡ read t q far → v ≡ outer_red near far t q z
      → v ≡ dark_sib near far s x xp y
  unfolding dark_sib
  inner_red_lem e1 e2 h e3 e4 k e5 e6 e7 e8 = rw (← e1, ← e2, h, ← e3, ← e4, k, ← e5, ← e6, ← e7) e8

  pub none_red : {o i : ℕ} {b d : Bool} {l : List ℕ}
      → o ≡ read s y far → b ≡ is_red s o → b ≡ false → i ≡ read s y near → d ≡ is_red s i → d ≡ false
      → l ≡ write s.cells y state (code red)
      → more (lent_links l s.root s.sizes) xp ≡ dark_sib near far s x xp y
  unfolding dark_sib
  none_red e1 e2 h e3 e4 k e5 = rw (← e1, ← e2, h, ← e3, ← e4, k, ← e5)

module _ (near far : ℕ) (s : Links) (x xp : ℕ) where
  pub sibling_red : {y q z : ℕ} {b : Bool} {l1 l2 : List ℕ} {t : Links} {v : Turn}
      → y ≡ read s xp far → b ≡ is_red s y → b ≡ true
      → l1 ≡ write s.cells y state (code black) → l2 ≡ write l1 xp state (code red)
      → t ≡ rotated near far (lent_links l2 s.root s.sizes) xp
      → q ≡ read t x parent → z ≡ read t q far → v ≡ dark_sib near far t x q z
      → v ≡ by_sib near far s x xp
  unfolding by_sib
  sibling_red e1 e2 h e3 e4 e5 e6 e7 e8 = rw (← e1, ← e2, h, ← e3, ← e4, ← e5, ← e6, ← e7) e8

  pub sibling_black : {y : ℕ} {b : Bool} {v : Turn}
      → y ≡ read s xp far → b ≡ is_red s y → b ≡ false → v ≡ dark_sib near far s x xp y → v ≡ by_sib near far s x xp
  unfolding by_sib
  sibling_black e1 e2 h e3 = rw (← e1, ← e2, h) e3

-- The ways out of a turn: x is null, is the root, has no parent, is red, stands on the left or on the right.
module _ (s : Links) (x : ℕ) where
  pub nowhere : x ≡ null → done s ≡ deletion_turn s x
  unfolding deletion_turn
  nowhere h = rw (pick_eq _ _ h)

  pub at_root : x ≢ null → x ≡ s.root → done s ≡ deletion_turn s x
  unfolding deletion_turn
  at_root n h = rw (pick_ne _ _ n, pick_eq _ _ h)

  pub rootless : {xp : ℕ} {l : List ℕ}
      → x ≢ null → x ≢ s.root → xp ≡ read s x parent → xp ≡ null → l ≡ write s.cells x state (code black)
      → done (lent_links l x s.sizes) ≡ deletion_turn s x
  unfolding deletion_turn
  rootless n m e1 h e2 = rw (pick_ne _ _ n, pick_ne _ _ m, ← e1, pick_eq _ _ h, ← e2)

  pub red_slot_lem : {xp : ℕ} {b : Bool} {l : List ℕ}
      → x ≢ null → x ≢ s.root → xp ≡ read s x parent → xp ≢ null → b ≡ is_red s x → b ≡ true → l ≡ write s.cells x state (code black)
      → done (lent_links l s.root s.sizes) ≡ deletion_turn s x
  unfolding deletion_turn
  red_slot_lem n m e1 h e2 t e3 = rw (pick_ne _ _ n, pick_ne _ _ m, ← e1, pick_ne _ _ h, ← e2, t, ← e3)

  pub from_left : {xp c : ℕ} {b : Bool} {v : Turn}
      → x ≢ null → x ≢ s.root → xp ≡ read s x parent → xp ≢ null → b ≡ is_red s x → b ≡ false
      → c ≡ read s xp left → c ≡ x → v ≡ by_sib left right s x xp
      → v ≡ deletion_turn s x
  unfolding deletion_turn
  from_left n m e1 h e2 t e3 p e4 = rw (pick_ne _ _ n, pick_ne _ _ m, ← e1, pick_ne _ _ h, ← e2, t, ← e3, pick_eq _ _ p) e4

  pub from_right : {xp c : ℕ} {b : Bool} {v : Turn}
      → x ≢ null → x ≢ s.root → xp ≡ read s x parent → xp ≢ null → b ≡ is_red s x → b ≡ false
      → c ≡ read s xp left → c ≢ x → v ≡ by_sib right left s x xp
      → v ≡ deletion_turn s x
  unfolding deletion_turn
  from_right n m e1 h e2 t e3 p e4 = rw (pick_ne _ _ n, pick_ne _ _ m, ← e1, pick_ne _ _ h, ← e2, t, ← e3, pick_ne _ _ p) e4

pub deletion : Loop deletion_turn balanced_deletion
unfolding balanced_deletion
deletion = record { spent = λ s x. refl; unrolled = λ n s x. refl }
