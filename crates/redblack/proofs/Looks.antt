-- What a loop reads at a place of the tree: the side that it came from, and colours.
use mathlib.Core.Path.{◌≡◌}
use mathlib.Core.Logic.{◌≢◌}
use mathlib.Core.Bool.{true, false}
use Prim.Native.Nat.{ℕ}
use native.Mathlib.Omega.{arith}
use lib.Dec.{eqb}
use Rattle.slots.specs.Words.{pick, state, left, right, Colour, code, Side, other, toward, black, red, leftward, rightward}
use Rattle.slots.proofs.Laws.{pick_eq, pick_ne, cell-null}
use Rattle.redblack.specs.Links.{Links, read, is_red, colour_of}
use Rattle.redblack.specs.Sided.{Sided, top, Cap, Hangs, fork}
use Rattle.redblack.specs.Balance.{RedBlack, void, dark}
use Rattle.redblack.proofs.Frames.{cell_of}

-- A loop looks at the left child to find the side: it is the side of the slot that it came from.
pub pick_side : {A : Type 0} (s : Links) (υ : Side) (x xp : ℕ) (f : ℕ → ℕ → A) → read s xp (toward υ) ≡ x → read s xp (toward (other υ)) ≢ x
    → pick (eqb (read s xp left) x) (f left right) (f right left) ≡ f (toward υ) (toward (other υ))
pick_side s leftward x xp f e d = pick_eq _ _ e
pick_side s rightward x xp f e d = pick_ne _ _ d

pub red_top : {n q : ℕ} {s : Links} {σ : Side} {a b : Sided} {i : ℕ} → Hangs n s q (fork σ red a i b) → is_red s i ≡ true
red_top h = rw (cell_of h).hued

-- A black top is not red, and neither is null.
pub dark_top : {n q h : ℕ} {s : Links} {t : Sided} → Cap n s → RedBlack black h t → Hangs n s q t → is_red s (top t) ≡ false
dark_top {s = s} k void h = rw (cell-null s.cells state (omega (arith, k.long, k.small)))
dark_top k (dark u v) h = rw (cell_of h).hued

-- The colour read is the colour written.
pub colour-is : (s : Links) (i : ℕ) (c : Colour) → read s i state ≡ code c → colour_of s i ≡ c
colour-is s i black e = rw e
colour-is s i red e = rw e
