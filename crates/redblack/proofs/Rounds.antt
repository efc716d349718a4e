-- The two balancings only paint, rotate and, at the top, root: what these steps keep, both balancings keep,
-- whatever the colours and the budget.
use mathlib.Core.Path.{◌≡◌, refl, ◌∙◌}
use mathlib.Core.Bool.{Bool, true, false}
use Prim.Native.Nat.{ℕ, suc, zero}
use lib.Dec.{eqb}
use borrow.Author.Tests.{eqb-true}
use Rattle.slots.specs.Words.{pick, null, state, parent, left, Colour, code, Side, other, toward, black, red, leftward, rightward}
use Rattle.slots.proofs.Laws.{cell_across}
use Rattle.redblack.specs.Links.{Links, read, rooted, painted, is_red, colour_of, Turn, done, more}
use Rattle.redblack.specs.Rotate.{rotated}
use Rattle.redblack.specs.Insertion.{raised, straightened, lifted, insertion_turn, insertion_turns, balanced_insertion}
use Rattle.redblack.specs.Deletion.{capped, outer_red, inner_red, dark_sib, by_sib, deletion_turn, balanced_deletion}
use Rattle.redblack.proofs.Ends.{Link, up, on}

-- The two fields of a rotation: a side's and the other's.
pub data Sides : ℕ → ℕ → Type 0 where
  sides : (σ : Side) → Sides (toward σ) (toward (other σ))

pub flip : {near far : ℕ} → Sides near far → Sides far near
flip (sides leftward) = sides rightward
flip (sides rightward) = sides leftward

pub near_link : {near far : ℕ} → Sides near far → Link near
near_link (sides σ) = on σ

pub far_link : {near far : ℕ} → Sides near far → Link far
far_link (sides σ) = on (other σ)

-- Inv holds of links that lead from slots of P to slots of P only; R are those of P that are not null. Each step at such slots keeps Inv.
pub record Keeping (P R : ℕ → Type 0) (Inv : Links → Type 0) : Type 0 where
  pub loose : {i : ℕ} → R i → P i
  pub solid : {i : ℕ} → P i → eqb i null ≡ false → R i
  pub link : {s : Links} (i g : ℕ) → Link g → P i → Inv s → P (read s i g)
  pub root : {s : Links} → Inv s → P s.root
  pub paint : {s : Links} (i : ℕ) (c : Colour) → P i → Inv s → Inv (painted s i c)
  pub spin : {s : Links} {near far : ℕ} (p : ℕ) → Sides near far → P p → Inv s → Inv (rotated near far s p)
  pub crown : {s : Links} (x : ℕ) → R x → read s x parent ≡ null → Inv s → Inv (rooted s x)

-- To paint changes no link.
pub still_links : (s : Links) (x : ℕ) (c : Colour) (k : ℕ) → read (painted s x c) k parent ≡ read s k parent
still_links s x c k = cell_across s.cells x state (code c) k parent refl refl refl

-- What a turn leaves, and of which slots the next may be.
pub data Round (Inv : Links → Type 0) (Q : ℕ → Type 0) : Turn → Type 0 where
  ended : {t : Links} → Inv t → Round Inv Q (done t)
  going : {t : Links} {y : ℕ} → Inv t → Q y → Round Inv Q (more t y)

turn_pick : {Inv : Links → Type 0} {Q : ℕ → Type 0} {g k : Turn} (b : Bool) → (b ≡ true → Round Inv Q g) → (b ≡ false → Round Inv Q k)
    → Round Inv Q (pick b g k)
turn_pick true h k = h refl
turn_pick false h k = k refl

module _ {P R : ℕ → Type 0} {Inv : Links → Type 0} (K : Keeping P R Inv) where
  -- The insertion: the next slot is not null.
  round_raised : {near far : ℕ} {s : Links} (xp xpp : ℕ) → Sides near far → P xp → P xpp → Inv s → Inv (raised near far s xp xpp)
  unfolding raised
  round_raised xp xpp f pxp pxpp h = K.spin xpp (flip f) pxpp (K.paint xpp red pxpp (K.paint xp black pxp h))

  round_straightened : {near far : ℕ} {s : Links} (x xp xpp : ℕ) → Sides near far → R x → R xp → P xpp → Inv s
      → Round Inv R (straightened near far s x xp xpp)
  unfolding straightened
  round_straightened {near} {far} {s} x xp xpp f px pxp pxpp h =
      let h1 = K.spin xp f (K.loose pxp) h in
      let pq = K.link xp parent up (K.loose pxp) h1 in
      turn_pick (eqb x (read s xp far)) (λ e. going (round_raised _ _ f pq (K.link _ parent up pq h1) h1) pxp)
      (λ e. going (round_raised xp xpp f (K.loose pxp) pxpp h) px)

  round_lifted : {near far : ℕ} {s : Links} (x xp xpp : ℕ) → Sides near far → R x → R xp → R xpp → Inv s
      → Round Inv R (lifted near far s x xp xpp)
  unfolding lifted
  round_lifted {near} {far} {s} x xp xpp f px pxp pxpp h =
      turn_pick (is_red s (read s xpp far))
      (λ e. going (K.paint xpp red (K.loose pxpp)
      (K.paint xp black (K.loose pxp) (K.paint _ black (K.link xpp far (far_link f) (K.loose pxpp) h) h))) pxpp)
      (λ e. round_straightened x xp xpp f px pxp (K.loose pxpp) h)

  pub round_insertion_turn : {s : Links} (x : ℕ) → R x → Inv s → Round Inv R (insertion_turn s x)
  unfolding insertion_turn
  round_insertion_turn {s} x px h =
      let xp = read s x parent in
      let xpp = read s xp parent in
      let oxp : P xp = K.link x parent up (K.loose px) h in
      let oxpp : P xpp = K.link xp parent up oxp h in
      turn_pick (eqb xp null) (λ e. ended (K.crown x px (still_links s x black x ∙ eqb-true xp null e) (K.paint x black (K.loose px) h)))
      (λ e. turn_pick (is_red s xp)
      (λ r. turn_pick (eqb xpp null) (λ d. ended h)
      (λ d. turn_pick (eqb (read s xpp left) xp) (λ u. round_lifted x xp xpp (sides leftward) px (K.solid oxp e) (K.solid oxpp d) h)
      (λ u. round_lifted x xp xpp (sides rightward) px (K.solid oxp e) (K.solid oxpp d) h)))
      (λ r. ended h))

  pub round_insertion_turns : {s : Links} (m x : ℕ) → R x → Inv s → Inv (insertion_turns m s x)
  unfolding insertion_turns
  round_insertion_turns zero x px h = h
  round_insertion_turns {s} (suc m) x px h = go (round_insertion_turn x px h) refl (λ t y py k. round_insertion_turns m y py k)
    where
      go : {g : Turn} → Round Inv R g → insertion_turn s x ≡ g → ((t : Links) (y : ℕ) → R y → Inv t → Inv (insertion_turns m t y))
          → Inv (insertion_turns (suc m) s x)
      go (ended k) e again = rw (e, insertion_turns) k
      go (going {t} {y} k py) e again = rw (e, insertion_turns) (again t y py k)

  pub round_insertion : {s : Links} (m x : ℕ) → R x → Inv s → Inv (balanced_insertion m s x)
  unfolding balanced_insertion
  round_insertion m x px h = round_insertion_turns m x px (K.paint x red (K.loose px) h)

  -- The deletion: the next slot may be null.
  round_outer_red : {near far : ℕ} {s : Links} (xp y : ℕ) → Sides near far → P xp → P y → Inv s → Round Inv P (outer_red near far s xp y)
  unfolding outer_red capped
  round_outer_red {near} {far} {s} xp y f pxp py h =
      let h1 = K.paint y (colour_of s xp) py h in
      let h2 = K.spin xp f pxp (K.paint xp black pxp (K.paint _ black (K.link y far (far_link f) py h1) h1)) in
      going h2 (K.root h2)

  round_inner_red : {near far : ℕ} {s : Links} (y : ℕ) → Sides near far → P y → Inv s → Inv (inner_red near far s y)
  unfolding inner_red
  round_inner_red {near} y f py h = K.spin y (flip f) py (K.paint y red py (K.paint _ black (K.link y near (near_link f) py h) h))

  round_dark_sib : {near far : ℕ} {s : Links} (x xp y : ℕ) → Sides near far → P x → P xp → P y → Inv s
      → Round Inv P (dark_sib near far s x xp y)
  unfolding dark_sib
  round_dark_sib {near} {far} {s} x xp y f px pxp py h =
      let h1 = round_inner_red y f py h in
      let pq = K.link x parent up px h1 in
      turn_pick (is_red s (read s y far)) (λ e. round_outer_red xp y f pxp py h)
      (λ e. turn_pick (is_red s (read s y near)) (λ d. round_outer_red _ _ f pq (K.link _ far (far_link f) pq h1) h1)
      (λ d. going (K.paint y red py h) pxp))

  round_by_sib : {near far : ℕ} {s : Links} (x xp : ℕ) → Sides near far → P x → P xp → Inv s → Round Inv P (by_sib near far s x xp)
  unfolding by_sib
  round_by_sib {near} {far} {s} x xp f px pxp h =
      let py = K.link xp far (far_link f) pxp h in
      let h1 = K.spin xp f pxp (K.paint xp red pxp (K.paint _ black py h)) in
      let pq = K.link x parent up px h1 in
      turn_pick (is_red s (read s xp far)) (λ e. round_dark_sib x _ _ f px pq (K.link _ far (far_link f) pq h1) h1)
      (λ e. round_dark_sib x xp _ f px pxp py h)

  pub round_deletion_turn : {s : Links} (x : ℕ) → P x → Inv s → Round Inv P (deletion_turn s x)
  unfolding deletion_turn
  round_deletion_turn {s} x px h =
      let xp = read s x parent in
      let pxp : P xp = K.link x parent up px h in
      turn_pick (eqb x null) (λ e. ended h)
      (λ e. turn_pick (eqb x s.root) (λ d. ended h)
      (λ d. turn_pick (eqb xp null)
      (λ u. ended (K.crown x (K.solid px e) (still_links s x black x ∙ eqb-true xp null u) (K.paint x black px h)))
      (λ u. turn_pick (is_red s x) (λ r. ended (K.paint x black px h))
      (λ r. turn_pick (eqb (read s xp left) x) (λ v. round_by_sib x xp (sides leftward) px pxp h)
      (λ v. round_by_sib x xp (sides rightward) px pxp h)))))

  pub round_deletion : {s : Links} (m x : ℕ) → P x → Inv s → Inv (balanced_deletion m s x)
  unfolding balanced_deletion
  round_deletion zero x px h = h
  round_deletion {s} (suc m) x px h = go (round_deletion_turn x px h) refl (λ t y py k. round_deletion m y py k)
    where
      go : {g : Turn} → Round Inv P g → deletion_turn s x ≡ g → ((t : Links) (y : ℕ) → P y → Inv t → Inv (balanced_deletion m t y))
          → Inv (balanced_deletion (suc m) s x)
      go (ended k) e again = rw (e, balanced_deletion) k
      go (going {t} {y} k py) e again = rw (e, balanced_deletion) (again t y py k)
