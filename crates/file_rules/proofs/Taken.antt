-- The number of bytes that the loader tells is that of the bytes that have come.
use mathlib.Core.Path.{◌≡◌, refl, ap, sym, ◌∙◌}
use mathlib.Core.List.{List, ◌++◌}
use Prim.Native.Nat.{ℕ, zero, suc, ◌+◌, ◌*◌, ◌/◌, ◌%◌, ◌<◌}
use native.Mathlib.Decide.{dec_lt}
use native.Mathlib.Omega.{arith}
use lib.ListN.{length, get_or, length-append}
use Rattle.endian.specs.Bytes.{little}
use Rattle.endian.proofs.Endian.{little-length}
use Rattle.set_rules.specs.Words.{Set}
use Rattle.file_rules.specs.Layout.{slot_width, slot_field, field_of, section_words, field_in}
use Rattle.file_rules.specs.Loader.{Loader, count_taken, slot_long, words_long, begun_long, wholes_long, taken_of}
use Rattle.file_rules.proofs.Written.{fields_bytes, begun_bytes, wholes_bytes, came_bytes_at, came_bytes}

-- "A slot is hash, key, place, state, parent, left, right, prev, next, 41 bytes."
forty_one : slot_long 9 ≡ 41
unfolding slot_long slot_width
forty_one = refl

width_is : (i f : ℕ) → (slot_field i f).width ≡ slot_width f
unfolding slot_field slot_width
width_is i zero = refl
width_is i (suc zero) = refl
width_is i (suc (suc f)) = refl

-- One word more of a slot: the next one, or the next slot.
slot_more : (i f : ℕ) → f < 9 → (j k : ℕ) → j ≡ 41 * i + slot_long f → 9 * i + f + 1 ≡ k
    → 41 * (k / 9) + slot_long (k % 9) ≡ j + (slot_field i f).width
unfolding slot_long
slot_more i f l j k e g = go (dec_lt f 8)
  where
    go : Dec (f < 8) → 41 * (k / 9) + slot_long (k % 9) ≡ j + (slot_field i f).width
    go (yes m) =
        let q : k / 9 ≡ i = omega arith in
        let z : k % 9 ≡ suc f = omega arith in
        rw (q, z) (omega (arith, width_is i f))
    go (no m) =
        let q : k / 9 ≡ i + 1 = omega arith in
        let z : k % 9 ≡ 0 = omega arith in
        let n : slot_long f + slot_width f ≡ 41 = ap slot_long (let h : suc f ≡ 9 = omega arith in h) ∙ forty_one in
        rw (q, z) (omega (arith, width_is i f))

pub words_more : (s j : ℕ) → words_long s (suc j) ≡ words_long s j + (field_of s j).width
unfolding words_long field_of
words_more zero j = omega arith
words_more (suc zero) j = omega arith
words_more (suc (suc zero)) j = omega arith
words_more (suc (suc (suc s))) j = slot_more (j / 9) (j % 9) (omega arith) (41 * (j / 9) + slot_long (j % 9)) (suc j) refl (omega arith)

pub none_long : (s : ℕ) → words_long s 0 ≡ 0
unfolding words_long slot_long
none_long zero = refl
none_long (suc zero) = refl
none_long (suc (suc zero)) = refl
none_long (suc (suc (suc s))) = refl

pub fields-length : (t : Set) (s j : ℕ) → length (fields_bytes t s j) ≡ words_long s j
unfolding fields_bytes
fields-length t s zero = sym (none_long s)
fields-length t s (suc j) =
    let a = fields-length t s j in
    let b = little-length (field_of s j).width (field_in t (field_of s j)) in
    let c = words_more s j in
    length-append (fields_bytes t s j) (little (field_of s j).width (field_in t (field_of s j))) ∙ omega arith

begun_length : (cs : List ℕ) (t : Set) (s f : ℕ) → length (begun_bytes cs t s f) ≡ begun_long s f
unfolding begun_bytes begun_long
begun_length cs t s zero = refl
begun_length cs t s (suc j) =
    let a = fields-length t s j in
    let b = little-length 4 (get_or cs s 0) in
    length-append (little 4 (get_or cs s 0)) (fields_bytes t s j) ∙ omega arith

wholes_length : (r : Loader) (t : Set) (s : ℕ) → length (wholes_bytes r.counts t s) ≡ wholes_long r s
unfolding wholes_bytes wholes_long
wholes_length r t zero = refl
wholes_length r t (suc s) =
    let a = wholes_length r t s in
    let f = suc (section_words s (count_taken r s)) in
    let b : length (begun_bytes r.counts t s f) ≡ 4 + words_long s (section_words s (count_taken r s)) =
    unfold begun_long in begun_length r.counts t s f in
    length-append (wholes_bytes r.counts t s) (begun_bytes r.counts t s f) ∙ omega arith

pub came_length : (r : Loader) (t : Set) → length (came_bytes r t) ≡ taken_of r
unfolding came_bytes_at taken_of
came_length r t =
    let s = r.section in
    let f = r.at / 8 in
    let h = r.at % 8 in
    let a = wholes_length r t s in
    let b = begun_length r.counts t s f in
    let c = little-length h r.part in
    let d = length-append (begun_bytes r.counts t s f) (little h r.part) in
    length-append (wholes_bytes r.counts t s) (begun_bytes r.counts t s f ++ little h r.part) ∙ omega arith
