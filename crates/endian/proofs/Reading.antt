-- Words one after another, and the numbers of their bytes as the standard library reads them.
use mathlib.Core.Path.{◌≡◌, refl, ap, sym, ◌∙◌}
use mathlib.Core.Bool.{Bool, true, false}
use mathlib.Core.List.{List, [], ◌∷◌, ◌++◌, map}
use Prim.Native.Nat.{ℕ, zero, suc, ◌+◌, ◌-◌, ◌*◌, ◌/◌, ◌<◌, ◌≤◌}
use native.Mathlib.Numerals.{add-one}
use native.Mathlib.Omega.{arith}
use native.Mathlib.Nat.{le-div_iff_mul-le, mul_comm, mul-suc}
use lib.Dec.{eqb}
use lib.ListN.{length, take, drop, get_or, set, length-drop, drop_of_length-le}
use lib.Seq.{take-suc-set}
use borrow.Author.Tests.{lt-ltb, le-ltb}
use Rattle.std.proofs.lemmas.Bool.{eq-eqb}
use Rattle.std.proofs.lemmas.List.{map-append, length-take-le}
use Rattle.std.specs.Int.{w32, w64, from_le_bytes}
use Rattle.slots.specs.Words.{pick}
use Rattle.endian.specs.Bytes.{number_of, word_in, words_in}

-- The number of the bytes from place j on, by the byte at that place.
number_on : (l : List ℕ) (j : ℕ) → number_of (drop j l) ≡ get_or l j 0 + 256 * number_of (drop (suc j) l)
unfolding number_of
number_on [] zero = refl
number_on [] (suc j) = refl
number_on (b ∷ l) zero = refl
number_on (b ∷ l) (suc j) = number_on l j

no_number : (l : List ℕ) (j : ℕ) → length l ≤ j → number_of (drop j l) ≡ 0
unfolding number_of
no_number l j h = rw (drop_of_length-le l {i = j} h)

-- Four bytes, and eight.
pub number_four : (l : List ℕ) → length l ≡ 4 → from_le_bytes w32 l ≡ number_of l
number_four l h = omega (arith, number_on l 0, number_on l 1, number_on l 2, number_on l 3, no_number l 4 (omega arith))

pub number_eight : (l : List ℕ) → length l ≡ 8 → from_le_bytes w64 l ≡ number_of l
number_eight l h =
    omega (
      arith,
      number_on l 0,
      number_on l 1,
      number_on l 2,
      number_on l 3,
      number_on l 4,
      number_on l 5,
      number_on l 6,
      number_on l 7,
      no_number l 8 (omega arith),
    )

-- One word more, at the end of those that were read.
words_more : (k : ℕ) (l : List ℕ) (i m : ℕ) → words_in k l i (suc m) ≡ words_in k l i m ++ (word_in k l (i + m) ∷ [])
unfolding words_in
words_more k l i zero = let z : i + 0 ≡ i = omega arith in rw z
words_more k l i (suc m) =
    let z : suc i + m ≡ i + suc m = omega arith in
    ap (λ (x : List ℕ). word_in k l i ∷ x) (words_more k l (suc i) m ∙ ap (λ n. words_in k l (suc i) m ++ (word_in k l n ∷ [])) z)

pub words_length : (k : ℕ) (l : List ℕ) (i m : ℕ) → length (words_in k l i m) ≡ m
unfolding words_in
words_length k l i zero = refl
words_length k l i (suc m) = ap suc (words_length k l (suc i) m)

-- A slice of which the first i words are written, one word on.
module _ {A : Type 0} (of : ℕ → A) (k : ℕ) (l : List ℕ) (words : List A) (i : ℕ) where
  pub written_on : {v : A} → take i words ≡ map of (words_in k l 0 i) → i < length words → v ≡ of (word_in k l i)
      → take (i + 1) (set words i v) ≡ map of (words_in k l 0 (i + 1))
  written_on {v} e h f =
      let start : 0 + i ≡ i = omega arith in
      rw (add-one i)
      (take-suc-set words i v h
      ∙ rw (e, f) (sym (ap (map of) (words_more k l 0 i ∙ rw start) ∙ map-append of (words_in k l 0 i) (word_in k l i ∷ []))))

-- A number that is read of so many bytes.
pub read_whole : {k v : ℕ} (l all : List ℕ) → length l ≡ k → all ≡ l → v ≡ number_of all → v ≡ pick (eqb (length l) k) (number_of l) 0
read_whole {k} l all e f g = rw (eq-eqb (length l) k e) (g ∙ ap number_of f)

no_bytes : (b : Bool) → pick b (number_of []) 0 ≡ 0
unfolding number_of
no_bytes true = refl
no_bytes false = refl

-- A word that is whole, and one that is not.
module _ (k : ℕ) (l : List ℕ) (i : ℕ) where
  pub word_whole : {v : ℕ} → i < length l / k → v ≡ number_of (take k (drop (k * i) l)) → v ≡ word_in k l i
  unfolding word_in
  word_whole h e = rw (lt-ltb i (length l / k) h) e

  pub word_short : length l / k ≤ i → pick (eqb 0 k) (number_of []) 0 ≡ word_in k l i
  unfolding word_in
  word_short h = no_bytes (eqb 0 k) ∙ rw (le-ltb i (length l / k) h)

  pub word_cut : {p q : ℕ} → p ≡ k → q ≡ k → 0 < k → i < length l / k
      → pick (eqb (length (take (p * i + q - p * i) (drop (p * i) l))) k) (number_of (take (p * i + q - p * i) (drop (p * i) l))) 0
      ≡ word_in k l i
  word_cut {p} {q} e f s h =
      let n : p * i + q - p * i ≡ k = omega (arith, f) in
      let most : suc i * k ≤ length l = (le-div_iff_mul-le s).0 h in
      let long : length (take k (drop (k * i) l)) ≡ k =
      length-take-le k (drop (k * i) l) (omega (arith, length-drop (k * i) l, most, mul_comm (suc i) k, mul-suc k i)) in
      rw (n, e, eq-eqb (length (take k (drop (k * i) l))) k long) (word_whole h refl)
