-- What a read gives after any number of writes: words lie apart, so `simp reads` takes each write away or reads it.
use mathlib.Core.Path.{◌≡◌, refl, ◌∙◌}
use mathlib.Core.Bool.{true, false}
use Prim.Native.Nat.{ℕ, ◌+◌, ◌*◌, ◌<◌, ◌≤◌}
use native.Mathlib.Omega.{arith}
use lib.ListN.{length}
use lib.Dec.{eqb}
use borrow.Author.Tests.{ne_eqb, le-leb}
use Rattle.slots.specs.Words.{null, state, parent, Side, toward, fields, roomy, leftward, rightward}
use Rattle.slots.proofs.Laws.{cell_same, cell_across, cell_else, roomy-write, toward-small, toward-other, other-toward}
use Rattle.redblack.specs.Links.{Links}
use Rattle.redblack.specs.Sided.{Cap}

-- A side's field is neither the colour's nor the parent's.
pub side_state : (σ : Side) → eqb (toward σ) state ≡ false
side_state leftward = refl
side_state rightward = refl

pub state_side : (σ : Side) → eqb state (toward σ) ≡ false
state_side leftward = refl
state_side rightward = refl

pub side_parent : (σ : Side) → eqb (toward σ) parent ≡ false
side_parent leftward = refl
side_parent rightward = refl

pub parent_side : (σ : Side) → eqb parent (toward σ) ≡ false
parent_side leftward = refl
parent_side rightward = refl

-- The rules of a read over writes: their premises are that the slot has its words, that slots differ, that fields differ.
pub ruleset reads = (
  cell_same,
  cell_across,
  cell_else,
  roomy-write,
  toward-small,
  toward-other,
  other-toward,
  side_state,
  state_side,
  side_parent,
  parent_side,
)

-- A slot of the n has all its words.
pub roomy_cap : {n : ℕ} {s : Links} (i : ℕ) → Cap n s → i < n → roomy fields s.cells i ≡ true
unfolding roomy
roomy_cap {n} {s} i k h = le-leb (7 * i + 7) (length s.cells) (omega (arith, k.long))

-- Writes keep the lengths.
pub recap : {n : ℕ} {s t : Links} → Cap n s → length t.cells ≡ length s.cells → Cap n t
recap k e = record { long = e ∙ k.long; small = k.small }

-- A slot is not null.
pub solid : {n i : ℕ} → i < n → n ≤ null → eqb i null ≡ false
solid {n} {i} h l = ne_eqb i null (omega arith)
