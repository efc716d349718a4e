-- What bytes leave on a lent buffer: one after another, and all of them where there is room.
use mathlib.Core.Path.{◌≡◌, refl, ap, sym, ◌∙◌}
use mathlib.Core.List.{List, [], ◌∷◌, ◌++◌}
use mathlib.Core.Logic.{◌≢◌}
use Prim.Native.Nat.{ℕ, zero, suc, ◌+◌, ◌-◌, ◌/◌, ◌%◌, ◌<◌, ◌≤◌}
use native.Mathlib.Numerals.{add-one}
use native.Mathlib.Omega.{arith}
use lib.ListN.{length, drop, get_or}
use lib.Seq.{drop-cons}
use borrow.Author.Tests.{lt-ltb, le-ltb}
use Rattle.script_rules.specs.Text.{newline, digits, decimal}
use Rattle.script_rules.specs.Answers.{number_line}
use Rattle.script_rules.specs.Feeding.{Paper, typed_one, typed}

-- Bytes after bytes.
pub typed_append : (p : Paper) (l m : List ℕ) → typed p (l ++ m) ≡ typed (typed p l) m
unfolding typed
typed_append p [] m = refl
typed_append p (b ∷ l) m = typed_append (typed_one p b) l m

pub typed_one_lem : (p : Paper) (b : ℕ) → typed p (b ∷ []) ≡ typed_one p b
unfolding typed
typed_one_lem p b = refl

-- The byte at a place of a word, and then the rest of it.
pub typed_drop : (p : Paper) (word : List ℕ) (i : ℕ) → i < length word
    → typed p (drop i word) ≡ typed (typed_one p (get_or word i 0)) (drop (i + 1) word)
unfolding typed
typed_drop p word i h = rw (add-one i, drop-cons word i 0 h)

pub typed-over : (p : Paper) (word : List ℕ) (i : ℕ) → length word ≤ i → typed p (drop i word) ≡ p
unfolding typed
typed-over p [] zero h = refl
typed-over p [] (suc i) h = refl
typed-over p (b ∷ l) zero h = absurd (omega arith)
typed-over p (b ∷ l) (suc i) h = typed-over p l i (omega arith)

-- The digits of a number: none, the last one, and those before it.
pub digits_none : (p : Paper) (most x : ℕ) → most ≡ 0 → p ≡ typed p (digits most x)
unfolding typed digits
digits_none p zero x e = refl
digits_none p (suc k) x e = absurd (omega arith)

pub digits_last : (p q : Paper) (most x : ℕ) → most ≢ 0 → x < 10 → q ≡ typed_one p (48 + x) → q ≡ typed p (digits most x)
unfolding typed digits
digits_last p q zero x n h e = absurd (n refl)
digits_last p q (suc k) x n h e = simp (lt-ltb _ _ h) e

pub digits_more : (p q r : Paper) (most x : ℕ) → most ≢ 0 → 10 ≤ x → q ≡ typed p (digits (most - 1) (x / 10))
    → r ≡ typed_one q (48 + x % 10)
    → r ≡ typed p (digits most x)
unfolding digits
digits_more p q r zero x n h e f = absurd (n refl)
digits_more p q r (suc k) x n h e f =
    let less : suc k - 1 ≡ k = omega arith in
    f ∙ ap (λ (s : Paper). typed_one s (48 + x % 10)) (e ∙ ap (λ (m : ℕ). typed p (digits m (x / 10))) less)
    ∙ sym (typed_one_lem (typed p (digits k (x / 10))) (48 + x % 10))
    ∙ sym (typed_append p (digits k (x / 10)) ((48 + x % 10) ∷ []))
    ∙ simp (le-ltb _ _ h)

-- A word, a number and the end of the line, one after another.
pub word_number_end : (p : Paper) (word : List ℕ) (v : ℕ) {q r s : Paper} → q ≡ typed p word → r ≡ typed q (decimal v)
    → s ≡ typed_one r newline
    → s ≡ typed p (number_line word v)
word_number_end p word v e f g =
    g ∙ sym (typed_one_lem _ newline) ∙ ap (λ (x : Paper). typed x (newline ∷ [])) (f ∙ ap (λ (x : Paper). typed x (decimal v)) e)
    ∙ sym (typed_append _ (decimal v) (newline ∷ [])) ∙ sym (typed_append p word _)
