-- A way is printed as the row of its slots: the slot that is come to last stands last.
use mathlib.Core.Path.{◌≡◌, refl, ap, sym, ◌∙◌}
use mathlib.Core.Logic.{◌≢◌}
use mathlib.Core.List.{List, [], ◌∷◌, ◌++◌, append_assoc, append-nil}
use Prim.Native.Nat.{ℕ, zero, suc, ◌+◌, ◌≤◌}
use native.Mathlib.Omega.{arith}
use lib.ListN.{length, length-append}
use borrow.Author.Tests.{eq-eqb, ne_eqb}
use Rattle.slots.specs.Words.{null, left, state, cell, code, red}
use Rattle.script_rules.specs.Letters.{letters}
use Rattle.script_rules.specs.Blanks.{blanks_filled, piece, is_blank}
use Rattle.dump_rules.specs.Sentence.{step_text, down_to, onward}
use Rattle.dump_rules.specs.Rows.{RowDown, top, under, RowOn, over, on, behind_text, row_text}
use Rattle.dump_rules.specs.Claims.{Rows}

module _ (cells : List ℕ) where
  behind_more : (row : List ℕ) (i : ℕ) → behind_text cells (row ++ (i ∷ [])) ≡ behind_text cells row ++ (letters ", " ++ step_text cells i)
  unfolding behind_text
  behind_more [] i = simp append-nil
  behind_more (x ∷ row) i = simp (behind_more row i, append_assoc)

  row_more : (row : List ℕ) (i : ℕ) → 1 ≤ length row
      → row_text cells (row ++ (i ∷ [])) ≡ row_text cells row ++ (letters ", " ++ step_text cells i)
  row_more [] i h = absurd (omega arith)
  row_more (x ∷ row) i h = simp (behind_more row i, append_assoc)

  row_some : {i : ℕ} {row : List ℕ} → RowDown cells i row → 1 ≤ length row
  row_some (top e) = omega arith
  row_some (under {i} {p} {row} e d r) = simp length-append (omega arith)

  down_row : {i : ℕ} {row : List ℕ} (n : ℕ) → RowDown cells i row → length row ≤ n + 1 → down_to n cells i ≡ row_text cells row
  unfolding down_to behind_text
  down_row zero (top {i} e) h = sym (append-nil (step_text cells i))
  down_row (suc n) (top {i} e) h = rw (e) (sym (append-nil (step_text cells i)))
  down_row zero (under {i} {p} {row} e d r) h = absurd (omega (arith, row_some r, length-append row (i ∷ [])))
  down_row (suc n) (under {i} {p} {row} e d r) h =
      rw (e, ne_eqb p null d, down_row n r (omega (arith, length-append row (i ∷ [])))) (sym (row_more row i (row_some r)))

  on_row : {i : ℕ} {row : List ℕ} (n : ℕ) → RowOn cells i row → length row ≤ n → onward n cells i ≡ behind_text cells row
  unfolding onward behind_text
  on_row zero (over e) h = refl
  on_row (suc n) (over {i} e) h = rw (eq-eqb i null e)
  on_row zero (on d r) h = absurd (omega arith)
  on_row {i = j} (suc n) (on {i} {row} d r) h = rw (ne_eqb i null d, on_row {i = cell cells i left} n r (omega arith))

pub rows : (cells : List ℕ) (n i : ℕ) → Rows cells n i
unfolding step_text blanks_filled piece is_blank
rows cells n i =
    record {
      down = λ row r h. down_row cells n r h;
      on = λ row r h. on_row cells n r h;
      reds = λ e. rw (eq-eqb (cell cells i state) (code red) e);
      blacks = λ d. rw (ne_eqb (cell cells i state) (code red) d);
    }
