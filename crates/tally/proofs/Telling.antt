-- What is written one after another is the text of the figures.
use mathlib.Core.Path.{◌≡◌, refl, ap, sym, ◌∙◌}
use mathlib.Core.Bool.{Bool, true, false}
use mathlib.Core.List.{List, [], ◌∷◌, ◌++◌, append_assoc}
use Prim.Native.Nat.{ℕ, suc, ◌+◌, ◌-◌, ◌<◌, ◌≤◌}
use native.Mathlib.Numerals.{add-one}
use native.Mathlib.Omega.{arith}
use Rattle.slots.specs.Words.{pick}
use Rattle.script_rules.specs.Letters.{letters}
use Rattle.script_rules.specs.Blanks.{says, blanks_filled, piece, is_blank}
use Rattle.script_rules.specs.Feeding.{Paper, typed}
use Rattle.script_rules.proofs.Typing.{typed_append}
use Rattle.figure_rules.specs.Totals.{sets_in, refused_in, entries_in, lists_in, trees_in, looks_in, row_in}
use Rattle.figure_rules.specs.Stream.{figures}
use Rattle.figure_rules.specs.Printed.{rows_text, figures_text}
use Rattle.tally.specs.Parts.{counts_text, last_text}

-- One text behind another.
behind : (p : Paper) {q r : Paper} (l m : List ℕ) → q ≡ typed p l → r ≡ typed q m → r ≡ typed p (l ++ m)
behind p l m e f = f ∙ ap (λ (x : Paper). typed x m) e ∙ sym (typed_append p l m)

module _ (t : List ℕ) (p : Paper) {a b : Paper} where
  pub counts_told : {c d e : Paper} → a ≡ typed p (says "sets #\n" (sets_in t ∷ [])) → b ≡ typed a (says "refused #\n" (refused_in t ∷ []))
      → c ≡ typed b (says "entries #\n" (entries_in t ∷ []))
      → d ≡ typed c (says "lists #\n" (lists_in t ∷ []))
      → e ≡ typed d (says "trees #\n" (trees_in t ∷ []))
      → e ≡ typed p (counts_text t)
  unfolding counts_text
  counts_told {c} {d} f g h i j = behind p _ _ f (behind a _ _ g (behind b _ _ h (behind c _ _ i j)))

  pub last_told : a ≡ typed p (says "more #\n" (row_in t 33 ∷ [])) → b ≡ typed a (says "mean # #\n" (looks_in t ∷ (entries_in t ∷ [])))
      → b ≡ typed p (last_text t)
  unfolding last_text
  last_told f g = behind p _ _ f g

-- The numbers of a line are those of the totals.
module _ (t : List ℕ) (p : Paper) where
  pub mean_told : {a b : ℕ} → a ≡ looks_in t → b ≡ entries_in t
      → typed p (says "mean # #\n" (a ∷ (b ∷ []))) ≡ typed p (says "mean # #\n" (looks_in t ∷ (entries_in t ∷ [])))
  mean_told e f = rw (e, f)

  pub row_told : (i : ℕ) {a : ℕ} → a ≡ row_in t i
      → typed p (says "looks # #\n" (i ∷ (a ∷ []))) ≡ typed p (says "looks # #\n" (i ∷ (row_in t i ∷ [])))
  row_told i e = rw e

-- The rows: a line and the rest, or the end of them.
module _ (t : List ℕ) (p : Paper) (i : ℕ) where
  pub rows_turn : {q : Paper} → i ≤ 32 → q ≡ typed p (says "looks # #\n" (i ∷ (row_in t i ∷ [])))
      → typed q (rows_text (33 - (i + 1)) t (i + 1)) ≡ typed p (rows_text (33 - i) t i)
  unfolding rows_text
  rows_turn l e =
      let z : 33 - i ≡ suc (33 - (i + 1)) = omega arith in
      rw (z, add-one i) (behind p (says "looks # #\n" (i ∷ (row_in t i ∷ []))) (rows_text (33 - suc i) t (suc i)) e refl)

  pub rows_over : 32 < i → p ≡ typed p (rows_text (33 - i) t i)
  unfolding rows_text typed
  rows_over l = let z : 33 - i ≡ 0 = omega arith in rw z

-- All of it.
parts_are : (t : List ℕ) (o : Bool)
    → counts_text t ++ (rows_text 32 t 1 ++ (last_text t ++ pick o (letters "no 17\n") [])) ≡ figures_text (figures t o)
unfolding counts_text last_text figures_text
parts_are t o = simp append_assoc

module _ (t : List ℕ) (p : Paper) {a b c : Paper} (f : a ≡ typed p (counts_text t)) (g : b ≡ typed a (rows_text 32 t 1))
    (h : c ≡ typed b (last_text t)) where
  all_told : (o : Bool) {d : Paper} → d ≡ typed c (pick o (letters "no 17\n") []) → d ≡ typed p (figures_text (figures t o))
  all_told o e = behind p _ _ f (behind a _ _ g (behind b _ _ h e)) ∙ ap (typed p) (parts_are t o)

  pub over-told : {o : Bool} {d : Paper} → o ≡ true → d ≡ typed c (says "no 17\n" []) → d ≡ typed p (figures_text (figures t o))
  unfolding blanks_filled piece is_blank
  over-told z e = rw z (all_told true e)

  pub not-over-told : {o : Bool} → o ≡ false → c ≡ typed p (figures_text (figures t o))
  unfolding typed
  not-over-told z = rw z (all_told false refl)
