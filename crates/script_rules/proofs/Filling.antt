-- A sentence with blanks is written byte by byte, and each blank takes the next number.
use mathlib.Core.Path.{◌≡◌, refl, ap, sym, ◌∙◌}
use mathlib.Core.Bool.{Bool, true, false}
use mathlib.Core.List.{List, [], ◌∷◌, ◌++◌}
use Prim.Native.Nat.{ℕ, zero, suc, ◌+◌, ◌<◌, ◌≤◌}
use native.Mathlib.Numerals.{add-one}
use native.Mathlib.Omega.{arith}
use lib.ListN.{length, drop, get_or}
use lib.Seq.{drop-cons, drop-drop, get_or-drop, drop-nil}
use mathlib.Core.Logic.{◌≢◌}
use borrow.Author.Tests.{ne_eqb}
use Rattle.slots.specs.Words.{null, pick, place, state, parent, left, right, prev}
use Rattle.script_rules.specs.Text.{decimal}
use Rattle.script_rules.specs.Letters.{letters}
use Rattle.script_rules.specs.Blanks.{link_text, field_text, piece, is_blank, left_after, blanks_filled}
use Rattle.script_rules.specs.Feeding.{Paper, typed_one, typed}
use Rattle.script_rules.specs.Claims.{Fills, Fields}
use Rattle.script_rules.proofs.Typing.{typed_append, typed_one_lem}

-- How many numbers are taken after a byte.
abbrev pub taken_after : ℕ → ℕ → ℕ
taken_after b k = pick (is_blank b) (k + 1) k

left-drop : (numbers : List ℕ) (b k : ℕ) → left_after b (drop k numbers) ≡ drop (taken_after b k) numbers
left-drop numbers b k = go (is_blank b)
  where
    go : (t : Bool) → pick t (drop 1 (drop k numbers)) (drop k numbers) ≡ drop (pick t (k + 1) k) numbers
    go true = drop-drop 1 k numbers
    go false = refl

-- The byte at a place of the sentence, and then the rest of it.
pub filled-drop : (sentence numbers : List ℕ) (i k : ℕ) → i < length sentence
    → blanks_filled (drop i sentence) (drop k numbers)
    ≡ piece (get_or sentence i 0) (get_or numbers k 0)
    ++ blanks_filled (drop (i + 1) sentence) (drop (taken_after (get_or sentence i 0) k) numbers)
unfolding blanks_filled
filled-drop sentence numbers i k h =
    let first : get_or (drop k numbers) 0 0 ≡ get_or numbers k 0 = get_or-drop k numbers 0 0 ∙ ap (λ n. get_or numbers n 0) (omega arith) in
    rw (add-one i, drop-cons sentence i 0 h, first, left-drop numbers (get_or sentence i 0) k)

-- What is written of the rest of a sentence, one byte on.
pub filled_on : (p q : Paper) (sentence numbers : List ℕ) (i k : ℕ) {j : ℕ} → i < length sentence
    → q ≡ typed p (piece (get_or sentence i 0) (get_or numbers k 0)) → j ≡ taken_after (get_or sentence i 0) k
    → typed q (blanks_filled (drop (i + 1) sentence) (drop j numbers)) ≡ typed p (blanks_filled (drop i sentence) (drop k numbers))
filled_on p q sentence numbers i k h e f =
    rw (e, f) (sym (typed_append p _ _) ∙ ap (typed p) (sym (filled-drop sentence numbers i k h)))

pub filled-over : (p : Paper) (sentence numbers : List ℕ) (i : ℕ) → length sentence ≤ i
    → typed p (blanks_filled (drop i sentence) numbers) ≡ p
unfolding blanks_filled typed
filled-over p [] numbers zero h = refl
filled-over p [] numbers (suc i) h = refl
filled-over p (b ∷ l) numbers zero h = absurd (omega arith)
filled-over p (b ∷ l) numbers (suc i) h = filled-over p l numbers i (omega arith)

-- A field, a link and a byte for which no test is true.
pub other-field : (f : ℕ) → f ≢ place → f ≢ state → f ≢ parent → f ≢ left → f ≢ right → f ≢ prev → letters "next" ≡ field_text f
unfolding field_text
other-field f a b c d e g = simp (ne_eqb f _ a, ne_eqb f _ b, ne_eqb f _ c, ne_eqb f _ d, ne_eqb f _ e, ne_eqb f _ g)

pub some_link : (i : ℕ) → i ≢ null → decimal i ≡ link_text i
unfolding link_text
some_link i h = simp (ne_eqb i _ h)

pub other_byte : (b v : ℕ) → b ≢ 35 → b ≢ 64 → b ≢ 37 → b ∷ [] ≡ piece b v
unfolding piece
other_byte b v x y z = simp (ne_eqb b _ x, ne_eqb b _ y, ne_eqb b _ z)

pub one_byte : (p : Paper) (b v : ℕ) {q : Paper} → b ≢ 35 → b ≢ 64 → b ≢ 37 → q ≡ typed_one p b → q ≡ typed p (piece b v)
one_byte p b v x y z e = e ∙ sym (typed_one_lem p b) ∙ ap (typed p) (other_byte b v x y z)

-- How many numbers are taken after a byte that is a blank, and after another.
pub taken_blank : (b k : ℕ) {j : ℕ} {t : Bool} → t ≡ is_blank b → t ≡ true → j ≡ k + 1 → j ≡ taken_after b k
taken_blank b k e f g = g ∙ ap (λ t. pick t (k + 1) k) (sym f ∙ e)

pub taken-other : (b k : ℕ) {j : ℕ} {t : Bool} → t ≡ is_blank b → t ≡ false → j ≡ k → j ≡ taken_after b k
taken-other b k e f g = g ∙ ap (λ t. pick t (k + 1) k) (sym f ∙ e)

pub no_blank : (b : ℕ) → b ≢ 35 → b ≢ 64 → b ≢ 37 → false ≡ is_blank b
unfolding is_blank
no_blank b x y z = simp (ne_eqb b _ x, ne_eqb b _ y, ne_eqb b _ z)

pub fills : (sentence numbers : List ℕ) (v : ℕ) → Fills sentence numbers v
unfolding blanks_filled piece is_blank link_text
fills sentence numbers v =
    record {
      number = refl;
      link = λ d. rw (ne_eqb v null d);
      no_link = refl;
      field = refl;
      other = λ b x y z. simp (ne_eqb b _ x, ne_eqb b _ y, ne_eqb b _ z);
      end = refl;
    }

pub fields : Fields
unfolding field_text
fields = record { places = refl; states = refl; parents = refl; lefts = refl; rights = refl; prevs = refl; nexts = refl }
