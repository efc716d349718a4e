-- The words of a set, one after another, are its bytes.
use mathlib.Core.Path.{◌≡◌, refl, ap, sym, ◌∙◌}
use mathlib.Core.List.{List, [], ◌∷◌, ◌++◌, append-nil, append_assoc}
use Prim.Native.Nat.{ℕ, zero, suc, ◌+◌, ◌*◌, ◌/◌, ◌%◌, ◌<◌, ◌≤◌}
use native.Mathlib.Omega.{arith}
use lib.ListN.{length, get_or, take}
use lib.Seq.{take-suc, take_all}
use Rattle.slots.specs.Words.{cell, name_of}
use Rattle.endian.specs.Bytes.{little, words_bytes}
use Rattle.tree_rules.specs.Find.{slots_of}
use Rattle.set_rules.specs.Words.{Set, tables_of, headers_in}
use Rattle.file_rules.specs.File.{slot_bytes, slots_bytes, set_section, set_front, set_bytes, counts_in}
use Rattle.file_rules.specs.Layout.{Slice, ofLengths, ofBins, ofHeads, slice_in, missing, Field, field, slot_width, slot_field, field_of}
use Rattle.file_rules.specs.Layout.{section_words, field_in}
use Rattle.file_rules.proofs.Testing.{by_four}
use Rattle.file_rules.proofs.Written.{fields_bytes, begun_bytes, wholes_bytes}

words_append : (l m : List ℕ) → words_bytes 4 (l ++ m) ≡ words_bytes 4 l ++ words_bytes 4 m
unfolding words_bytes
words_append [] m = refl
words_append (x ∷ l) m =
    ap (λ (k : List ℕ). little 4 x ++ k) (words_append l m) ∙ sym (append_assoc (little 4 x) (words_bytes 4 l) (words_bytes 4 m))

-- A section of words.
row_bytes : (t : Set) (s : ℕ) (x : Slice) → ((j : ℕ) → field_of s j ≡ field x j 4) → (j : ℕ) → j ≤ length (slice_in t x)
    → fields_bytes t s j ≡ words_bytes 4 (take j (slice_in t x))
unfolding fields_bytes words_bytes
row_bytes t s x h zero l = refl
row_bytes t s x h (suc j) l =
    let a = row_bytes t s x h j (omega arith) in
    let w = get_or (slice_in t x) j (missing x) in
    (λ i. a i ++ little (h j i).width (field_in t (h j i)))
    ∙ ap (λ (k : List ℕ). words_bytes 4 (take j (slice_in t x)) ++ k) (sym (append-nil (little 4 w)))
    ∙ sym (words_append (take j (slice_in t x)) (w ∷ []))
    ∙ ap (words_bytes 4) (sym (take-suc (slice_in t x) j (missing x) l))

row_whole : (t : Set) (s : ℕ) (x : Slice) → ((j : ℕ) → field_of s j ≡ field x j 4)
    → fields_bytes t s (length (slice_in t x)) ≡ words_bytes 4 (slice_in t x)
row_whole t s x h =
    row_bytes t s x h (length (slice_in t x)) (omega arith)
    ∙ ap (words_bytes 4) (take_all (length (slice_in t x)) (slice_in t x) (omega arith))

-- A slot's nine words.
pub slot_word : (i f j : ℕ) → j ≡ 9 * i + f → f < 9 → field_of 3 j ≡ slot_field i f
unfolding field_of
slot_word i f j e l =
    let q : j / 9 ≡ i = omega arith in
    let z : j % 9 ≡ f = omega arith in
    λ k. slot_field (q k) (z k)

abbrev word_out : Set → Field → List ℕ
word_out t f = little f.width (field_in t f)

nine : (z a b c d e f g h k : List ℕ)
    → ((((((((z ++ a) ++ b) ++ c) ++ d) ++ e) ++ f) ++ g) ++ h) ++ k ≡ z ++ (a ++ (b ++ (c ++ (d ++ (e ++ (f ++ (g ++ (h ++ k))))))))
nine z a b c d e f g h k = simp append_assoc

slot_bytes_lem : (t : Set) (i m : ℕ) → m ≡ 9 * i
    → fields_bytes t 3 (suc (suc (suc (suc (suc (suc (suc (suc (suc m))))))))) ≡ fields_bytes t 3 m ++ slot_bytes t i
unfolding fields_bytes slot_bytes slot_field slot_width cell name_of
slot_bytes_lem t i m e =
    let w0 = slot_word i 0 m (omega arith) (omega arith) in
    let w1 = slot_word i 1 (suc m) (omega arith) (omega arith) in
    let w2 = slot_word i 2 (suc (suc m)) (omega arith) (omega arith) in
    let w3 = slot_word i 3 (suc (suc (suc m))) (omega arith) (omega arith) in
    let w4 = slot_word i 4 (suc (suc (suc (suc m)))) (omega arith) (omega arith) in
    let w5 = slot_word i 5 (suc (suc (suc (suc (suc m))))) (omega arith) (omega arith) in
    let w6 = slot_word i 6 (suc (suc (suc (suc (suc (suc m)))))) (omega arith) (omega arith) in
    let w7 = slot_word i 7 (suc (suc (suc (suc (suc (suc (suc m))))))) (omega arith) (omega arith) in
    let w8 = slot_word i 8 (suc (suc (suc (suc (suc (suc (suc (suc m)))))))) (omega arith) (omega arith) in
    (λ k. ((((((((fields_bytes t 3 m ++ word_out t (w0 k)) ++ word_out t (w1 k)) ++ word_out t (w2 k)) ++ word_out t (w3 k))
    ++ word_out t (w4 k)) ++ word_out t (w5 k)) ++ word_out t (w6 k)) ++ word_out t (w7 k)) ++ word_out t (w8 k))
    ∙ nine (fields_bytes t 3 m) _ _ _ _ _ _ _ _ _

slots_bytes_lem : (t : Set) (n : ℕ) → fields_bytes t 3 (9 * n) ≡ slots_bytes t n
unfolding slots_bytes fields_bytes
slots_bytes_lem t zero = refl
slots_bytes_lem t (suc n) =
    let e : 9 * suc n ≡ suc (suc (suc (suc (suc (suc (suc (suc (suc (9 * n))))))))) = omega arith in
    ap (fields_bytes t 3) e ∙ slot_bytes_lem t n (9 * n) refl ∙ ap (λ (l : List ℕ). l ++ slot_bytes t n) (slots_bytes_lem t n)

-- A section of a set, and the first n, word after word.
section_bytes_lem : (s : Set) → length s.heads ≡ 3 * headers_in s → (n : ℕ) → n < 4
    → little 4 (get_or (counts_in s) n 0) ++ fields_bytes s n (section_words n (get_or (counts_in s) n 0)) ≡ set_section s n
unfolding section_words set_section field_of
section_bytes_lem s e =
    by_four
    (λ (n : ℕ). little 4 (get_or (counts_in s) n 0) ++ fields_bytes s n (section_words n (get_or (counts_in s) n 0)) ≡ set_section s n)
    (ap (λ (x : List ℕ). little 4 (tables_of s) ++ x) (row_whole s 0 ofLengths (λ j. refl)))
    (ap (λ (x : List ℕ). little 4 (length s.bins) ++ x) (row_whole s 1 ofBins (λ j. refl)))
    (ap (λ (x : List ℕ). little 4 (headers_in s) ++ x) (ap (fields_bytes s 2) (sym e) ∙ row_whole s 2 ofHeads (λ j. refl)))
    (ap (λ (x : List ℕ). little 4 (slots_of s.names) ++ x) (slots_bytes_lem s (slots_of s.names)))

pub front_bytes : (s : Set) → length s.heads ≡ 3 * headers_in s → (n : ℕ) → n ≤ 4 → wholes_bytes (counts_in s) s n ≡ set_front s n
unfolding wholes_bytes begun_bytes set_front
front_bytes s e zero l = refl
front_bytes s e (suc n) l =
    let a = front_bytes s e n (omega arith) in
    let b = section_bytes_lem s e n (omega arith) in
    λ i. a i ++ b i

pub set_bytes_lem : (s : Set) → length s.heads ≡ 3 * headers_in s → wholes_bytes (counts_in s) s 4 ≡ set_bytes s
set_bytes_lem s e = front_bytes s e 4 (omega arith)
