-- One byte at a time: a word's bytes are gathered, and the last of them puts it where it belongs.
use mathlib.Core.Path.{◌≡◌, refl, ap, sym, ◌∙◌}
use mathlib.Core.Bool.{Bool, true, false}
use mathlib.Core.Logic.{◌≢◌}
use mathlib.Core.List.{List, []}
use Prim.Native.Nat.{ℕ, zero, suc, ◌+◌, ◌-◌, ◌*◌, ◌/◌, ◌%◌, ◌^◌, ◌<◌, ◌≤◌}
use native.Mathlib.Omega.{arith}
use lib.ListN.{set}
use borrow.Author.Tests.{eq-eqb, ne_eqb, lt-ltb, le-ltb}
use Rattle.slots.specs.Answers.{refused}
use Rattle.set_rules.specs.Words.{Set, lent_set}
use Rattle.file_rules.specs.Layout.{Field, slot_width, slot_field, field_of, put_field}
use Rattle.file_rules.specs.Loader.{Loader, count_taken, next_width, FitLoader}
use Rattle.file_rules.specs.Loading.{Loading, loading, load_refused, loader_at, after_words, with_count, may_count, word_came, with_byte}
use Rattle.file_rules.specs.Loading.{byte_stored}
use Rattle.file_rules.proofs.Ranges.{byte_small, count_own}
use Rattle.file_rules.proofs.Counting.{may_both}
use Rattle.file.proofs.Tables.{field_slot, slot_field-width, most_small}

-- Up to eight bytes are below 2 to the power 64.
power_most : (k : ℕ) → k ≤ 8 → 256 ^ k ≤ 18446744073709551616
power_most k l = let z : k + (8 - k) ≡ 8 = omega arith in rw z at (up k (8 - k))
  where
    up : (m d : ℕ) → 256 ^ m ≤ 256 ^ (m + d)
    up m zero = let z : m + 0 ≡ m = omega arith in rw z (omega arith)
    up m (suc d) = let z : m + suc d ≡ suc (m + d) = omega arith in rw z (omega (arith, up m d))

module _ (r : Loader) (h : FitLoader r) (b : ℕ) (small : b < 256) where
  pub byte_grows : with_byte r b < 256 ^ suc (r.at % 8)
  byte_grows = byte_small r b h.number small

  few_bytes : suc (r.at % 8) ≤ 8
  few_bytes = omega arith

  pub byte_fits : with_byte r b < 18446744073709551616
  byte_fits = let g = byte_grows in let m = power_most (suc (r.at % 8)) few_bytes in omega arith

  pub byte_is : {p : ℕ} → p ≡ 256 ^ (r.at % 8) → r.part + p * b ≡ with_byte r b
  unfolding with_byte
  byte_is e = rw e

  pub sum_fits : {p : ℕ} → p ≡ 256 ^ (r.at % 8) → r.part + p * b < 18446744073709551616
  sum_fits e = rw (byte_is e) byte_fits

  pub product_fits : {p : ℕ} → p ≡ 256 ^ (r.at % 8) → p * b < 18446744073709551616
  product_fits e = let s = sum_fits e in omega arith

  -- The number of a whole word.
  pub word_small : {width : ℕ} → width ≡ next_width r.section (r.at / 8) → width ≤ r.at % 8 + 1
      → with_byte r b < 256 ^ next_width r.section (r.at / 8)
  word_small e l =
      let w = h.bytes in
      let z : next_width r.section (r.at / 8) ≡ suc (r.at % 8) = omega arith in
      rw z byte_grows

-- A word of four bytes, by its section; a word of a slot.
module _ (t : Set) (j v : ℕ) where
  pub put-tables : (s : ℕ) {l : List ℕ} → s ≡ 0 → l ≡ set t.lengths j v
      → lent_set l t.bins t.heads t.names t.cells ≡ put_field t (field_of s j) v
  unfolding field_of
  put-tables s e f = rw (e, f)

  pub put_bins : (s : ℕ) {l : List ℕ} → s ≡ 1 → l ≡ set t.bins j v
      → lent_set t.lengths l t.heads t.names t.cells ≡ put_field t (field_of s j) v
  unfolding field_of
  put_bins s e f = rw (e, f)

  pub put_heads : (s : ℕ) {l : List ℕ} → s ≡ 2 → l ≡ set t.heads j v
      → lent_set t.lengths t.bins l t.names t.cells ≡ put_field t (field_of s j) v
  unfolding field_of
  put_heads s e f = rw (e, f)

-- The first two words of a slot are its names, the others its cells.
module _ (names cells : List ℕ) (i v : ℕ) where
  pub slot_name : (f : ℕ) {l : List ℕ} → f < 2 → l ≡ set names (2 * i + f) v
      → lent_set [] [] [] l cells ≡ put_field (lent_set [] [] [] names cells) (slot_field i f) v
  unfolding slot_field
  slot_name zero l e = rw e
  slot_name (suc zero) l e = rw e
  slot_name (suc (suc f)) l e = absurd (omega arith)

  pub slot_cell : (f : ℕ) {l : List ℕ} → 2 ≤ f → l ≡ set cells (7 * i + (f - 2)) v
      → lent_set [] [] [] names l ≡ put_field (lent_set [] [] [] names cells) (slot_field i f) v
  unfolding slot_field
  slot_cell zero l e = absurd (omega arith)
  slot_cell (suc zero) l e = absurd (omega arith)
  slot_cell (suc (suc f)) l e = let z : suc (suc f) - 2 ≡ f = omega arith in rw z at (ap (λ (x : List ℕ). lent_set [] [] [] names x) e)

cell-width : (f : ℕ) → 2 ≤ f → 256 ^ slot_width f ≤ 4294967296
unfolding slot_width
cell-width zero l = absurd (omega arith)
cell-width (suc zero) l = absurd (omega arith)
cell-width (suc (suc zero)) l = omega arith
cell-width (suc (suc (suc zero))) l = omega arith
cell-width (suc (suc (suc (suc f)))) l = omega arith

pub cell-small : (f v : ℕ) → 2 ≤ f → v < 256 ^ slot_width f → v < 4294967296
cell-small f v l h = let w = cell-width f l in omega arith

pub field-small : (s j v : ℕ) → v < 256 ^ (field_of s j).width → {w : ℕ} → (field_of s j).width ≡ w → v < 256 ^ w
field-small s j v h e = rw e at h

pub slot_small : (s j v : ℕ) → 3 ≤ s → v < 256 ^ (field_of s j).width → v < 256 ^ slot_width (j % 9)
slot_small s j v l h = field-small s j v h (ap (λ (x : Field). x.width) (field_slot s j l) ∙ slot_field-width (j / 9) (j % 9))

-- A word of a slot leaves the other slices.
slot_alone : (t : Set) (i f v : ℕ) {n c : List ℕ}
    → lent_set [] [] [] n c ≡ put_field (lent_set [] [] [] t.names t.cells) (slot_field i f) v
    → lent_set t.lengths t.bins t.heads n c ≡ put_field t (slot_field i f) v
unfolding slot_field
slot_alone t i zero v e = ap (λ (x : Set). lent_set t.lengths t.bins t.heads x.names x.cells) e
slot_alone t i (suc zero) v e = ap (λ (x : Set). lent_set t.lengths t.bins t.heads x.names x.cells) e
slot_alone t i (suc (suc f)) v e = ap (λ (x : Set). lent_set t.lengths t.bins t.heads x.names x.cells) e

pub put_slot : (t : Set) (s j v : ℕ) {n c : List ℕ} → 3 ≤ s
    → lent_set [] [] [] n c ≡ put_field (lent_set [] [] [] t.names t.cells) (slot_field (j / 9) (j % 9)) v
    → lent_set t.lengths t.bins t.heads n c ≡ put_field t (field_of s j) v
put_slot t s j v l e = slot_alone t (j / 9) (j % 9) v e ∙ ap (λ (x : Field). put_field t x v) (sym (field_slot s j l))

-- A count, and a word of the section.
module _ (r : Loader) (t : Set) (ahead : r.section < 4) (h : FitLoader r) where
  pub count-refused : (c : ℕ) {x : Bool} {d : Loading} → x ≡ may_count t r.section c → x ≡ false → d ≡ load_refused r t (refused 14)
      → d ≡ word_came r t 0 c
  unfolding word_came
  count-refused c e f g = g ∙ rw (← e, f)

  pub count-taken : (c : ℕ) {x : Bool} {q p : Loader} → x ≡ may_count t r.section c → x ≡ true → q ≡ with_count r c → p ≡ after_words q 1
      → loading p t ≡ word_came r t 0 c
  unfolding word_came
  count-taken c e f g k = rw (← e, f, k, g)

  pub word_count : (f v : ℕ) {d : Loading} → f ≡ 0 → d ≡ word_came r t 0 v → d ≡ word_came r t f v
  word_count f v e g = g ∙ rw e

  pub word-put : (f v : ℕ) {p : Loader} {u : Set} → f ≢ 0 → u ≡ put_field t (field_of r.section (f - 1)) v → p ≡ after_words r (f + 1)
      → loading p u ≡ word_came r t f v
  unfolding word_came
  word-put zero v n e g = absurd (n refl)
  word-put (suc j) v n e g =
      let z : suc j - 1 ≡ j = omega arith in
      let y : suc j + 1 ≡ suc (suc j) = omega arith in
      rw (e, g, z, y)

  pub word_width : (f v : ℕ) → f ≢ 0 → v < 256 ^ next_width r.section f → v < 256 ^ (field_of r.section (f - 1)).width
  unfolding next_width
  word_width zero v n l = absurd (n refl)
  word_width (suc j) v n l = let z : suc j - 1 ≡ j = omega arith in rw z l

-- A byte: past the last section, amid a word, or its last.
module _ (r : Loader) (t : Set) (b : ℕ) where
  pub byte_long : {d : Loading} → r.section ≡ 4 → d ≡ load_refused r t (refused 13) → d ≡ byte_stored r t b
  unfolding byte_stored
  byte_long e f = f ∙ rw (eq-eqb r.section 4 e)

  module _ {width part : ℕ} (n : r.section ≢ 4) (w : width ≡ next_width r.section (r.at / 8)) (p : part ≡ with_byte r b) where
    pub byte_waits : {q : Loader} → r.at % 8 + 1 < width → q ≡ loader_at r r.section (r.at + 1) part → loading q t ≡ byte_stored r t b
    unfolding byte_stored
    byte_waits l e = rw (e, p, ne_eqb r.section 4 n, ← w, lt-ltb (r.at % 8 + 1) width l)

    pub byte_comes : {d : Loading} → width ≤ r.at % 8 + 1 → d ≡ word_came r t (r.at / 8) part → d ≡ byte_stored r t b
    unfolding byte_stored
    byte_comes l e = e ∙ rw (p, ne_eqb r.section 4 n, ← w, le-ltb (r.at % 8 + 1) width l)

-- A count just taken is small, and the loader has it for its section.
module _ (r : Loader) (t : Set) (ahead : r.section < 4) (h : FitLoader r) where
  pub count_small : (c : ℕ) {x : Bool} {q : Loader} → x ≡ may_count t r.section c → x ≡ true → q ≡ with_count r c
      → (q.section < 4) × (1 ≤ 73441) × (count_taken q q.section ≤ 8160)
  count_small c e f g =
      let b = may_both t r.section c (sym e ∙ f) in
      rw g (ahead, omega arith, rw (count_own r c ahead h.four) (omega (arith, b.0, most_small r.section)))
