-- Bytes that are stored one after another: what is still to be stored from here is what was to be stored from the start.
use mathlib.Core.Path.{◌≡◌, refl, ap, sym, ◌∙◌}
use mathlib.Core.List.{List, [], ◌∷◌, ◌++◌, append_assoc}
use Prim.Native.Nat.{ℕ, zero, suc, ◌+◌, ◌-◌, ◌*◌, ◌/◌, ◌%◌, ◌<◌, ◌≤◌}
use native.Mathlib.Omega.{arith}
use lib.ListN.{length, get_or, set, drop, length-append}
use lib.Seq.{sets, length-sets, drop-cons, drop-length}
use Rattle.slots.specs.Words.{place, state, hash_part, key_part, cell, name_of}
use Rattle.endian.specs.Bytes.{little, words_bytes}
use Rattle.endian.proofs.Endian.{little-length, words_bytes_length}
use Rattle.tree_rules.specs.Find.{slots_of}
use Rattle.set_rules.specs.Words.{Set, lent_set}
use Rattle.file_rules.specs.File.{slot_bytes, slots_bytes, set_section, set_front, set_bytes}
use Rattle.file_rules.proofs.Saving.{slots_length}
use Rattle.file.specs.Links.{links_bytes}

pub sets_append : (l : List ℕ) (i : ℕ) (a b : List ℕ) → sets l i (a ++ b) ≡ sets (sets l i a) (i + length a) b
sets_append l i [] b = let e : i + 0 ≡ i = omega arith in rw e
sets_append l i (x ∷ a) b =
    let e : suc i + length a ≡ i + suc (length a) = omega arith in
    sets_append (set l i x) (suc i) a b ∙ ap (λ (n : ℕ). sets (sets (set l i x) (suc i) a) n b) e

pub sets_long : (l : List ℕ) {m : List ℕ} (n : List ℕ) (i : ℕ) (a : List ℕ) → m ≡ sets n i a → length n ≡ length l → length m ≡ length l
sets_long l n i a e f = ap length e ∙ length-sets n i a ∙ f

-- One put after another, and a put of what a call gave.
pub next-put : (l : List ℕ) (i : ℕ) (a b : List ℕ) {m n : List ℕ} {j : ℕ} → m ≡ sets l i a → n ≡ sets m j b → j ≡ i + length a
    → n ≡ sets l i (a ++ b)
next-put l i a b e f g = f ∙ (λ z. sets (e z) (g z) b) ∙ sym (sets_append l i a b)

pub put_as : (l : List ℕ) (at k : ℕ) {m : List ℕ} {x y : ℕ} → m ≡ sets l at (little k x) → x ≡ y → m ≡ sets l at (little k y)
put_as l at k e f = e ∙ ap (λ (x : ℕ). sets l at (little k x)) f

-- Two numbers of eight bytes.
pub two_wides : (l : List ℕ) (at x y : ℕ) {m n : List ℕ} {v w : ℕ} → m ≡ sets l at (little 8 v) → v ≡ x → n ≡ sets m (at + 8) (little 8 w)
    → w ≡ y
    → n ≡ sets l at (little 8 x ++ little 8 y)
two_wides l at x y {m} e f g h =
    next-put l at (little 8 x) (little 8 y) (put_as l at 8 e f) (put_as m (at + 8) 8 g h) (omega (arith, little-length 8 x))

-- Five words.
pub five_words : (l : List ℕ) (at a b c d e : ℕ) {l1 l2 l3 l4 l5 : List ℕ} → l1 ≡ sets l at (little 4 a)
    → l2 ≡ sets l1 (at + 4) (little 4 b)
    → l3 ≡ sets l2 (at + 8) (little 4 c)
    → l4 ≡ sets l3 (at + 12) (little 4 d)
    → l5 ≡ sets l4 (at + 16) (little 4 e)
    → l5 ≡ sets l at (little 4 a ++ (little 4 b ++ (little 4 c ++ (little 4 d ++ little 4 e))))
five_words l at a b c d e {l1} {l2} {l3} e1 e2 e3 e4 e5 =
    next-put l at (little 4 a) (little 4 b ++ (little 4 c ++ (little 4 d ++ little 4 e))) e1
    (next-put l1 (at + 4) (little 4 b) (little 4 c ++ (little 4 d ++ little 4 e)) e2
    (next-put l2 (at + 8) (little 4 c) (little 4 d ++ little 4 e) e3
    (next-put l3 (at + 12) (little 4 d) (little 4 e) e4 e5 (omega (arith, little-length 4 d)))
    (omega (arith, little-length 4 c)))
    (omega (arith, little-length 4 b)))
    (omega (arith, little-length 4 a))

-- A slot's words: "A slot is hash, key, place, state, parent, left, right, prev, next, 41 bytes."
pub slot_put : (l : List ℕ) (at : ℕ) (names cells : List ℕ) (i : ℕ) {l1 l2 l3 l4 : List ℕ}
    → l1 ≡ sets l at (little 8 (name_of names i hash_part) ++ little 8 (name_of names i key_part))
    → l2 ≡ sets l1 (at + 16) (little 4 (cell cells i place))
    → l3 ≡ sets l2 (at + 20) (little 1 (cell cells i state))
    → l4 ≡ sets l3 (at + 21) (links_bytes cells i)
    → l4 ≡ sets l at (slot_bytes (lent_set [] [] [] names cells) i)
unfolding slot_bytes links_bytes
slot_put l at names cells i {l1} {l2} e1 e2 e3 e4 =
    let h = little 8 (name_of names i hash_part) in
    let k = little 8 (name_of names i key_part) in
    let p = little 4 (cell cells i place) in
    let s = little 1 (cell cells i state) in
    let links = links_bytes cells i in
    next-put l at (h ++ k) (p ++ (s ++ links)) e1
    (next-put l1 (at + 16) p (s ++ links) e2
    (next-put l2 (at + 20) s links e3 e4 (omega (arith, little-length 1 (cell cells i state))))
    (omega (arith, little-length 4 (cell cells i place))))
    (omega (arith, length-append h k, little-length 8 (name_of names i hash_part), little-length 8 (name_of names i key_part)))
    ∙ ap (sets l at) (append_assoc h k (p ++ (s ++ links)))

-- One slot after those before it.
pub slots_on : (l : List ℕ) (at : ℕ) (s : Set) (i : ℕ) {m n : List ℕ} → m ≡ sets l at (slots_bytes s i)
    → n ≡ sets m (at + 41 * i) (slot_bytes s i)
    → n ≡ sets l at (slots_bytes s (i + 1))
unfolding slots_bytes
slots_on l at s i e f =
    next-put l at (slots_bytes s i) (slot_bytes s i) e f (omega (arith, slots_length s i))
    ∙ (let g : i + 1 ≡ suc i = omega arith in rw g)

-- What a count counts, behind it.
pub counted-put : (l : List ℕ) (at count : ℕ) (bytes : List ℕ) {m n : List ℕ} → m ≡ sets l at (little 4 count) → n ≡ sets m (at + 4) bytes
    → n ≡ sets l at (little 4 count ++ bytes)
counted-put l at count bytes e f = next-put l at (little 4 count) bytes e f (omega (arith, little-length 4 count))

section_long : (c : ℕ) (words : List ℕ) → length (little 4 c ++ words_bytes 4 words) ≡ 4 + 4 * length words
section_long c words =
    length-append (little 4 c) (words_bytes 4 words) ∙ omega (arith, little-length 4 c, words_bytes_length 4 words)

-- A slot's bytes are a matter of names and cells alone.
slots-alone : (s : Set) (n : ℕ) → slots_bytes (lent_set [] [] [] s.names s.cells) n ≡ slots_bytes s n
unfolding slots_bytes slot_bytes
slots-alone s zero = refl
slots-alone s (suc n) = ap (λ (l : List ℕ). l ++ slot_bytes s n) (slots-alone s n)

-- "The sections come in fixed order, each after its count: table lengths, bin words, tree headers, slots."
pub set-put : (s : Set) (l : List ℕ) {l1 l2 l3 l4 : List ℕ}
    → l1 ≡ sets l 0 (little 4 (length s.lengths) ++ words_bytes 4 s.lengths)
    → l2 ≡ sets l1 (4 + 4 * length s.lengths) (little 4 (length s.bins) ++ words_bytes 4 s.bins)
    → l3
    ≡ sets l2 (4 + 4 * length s.lengths + (4 + 4 * length s.bins)) (little 4 (length s.heads / 3) ++ words_bytes 4 s.heads)
    → l4
    ≡ sets l3 (4 + 4 * length s.lengths + (4 + 4 * length s.bins) + (4 + 4 * length s.heads))
    (little 4 (length s.names / 2) ++ slots_bytes (lent_set [] [] [] s.names s.cells) (length s.names / 2))
    → l4 ≡ sets l 0 (set_bytes s)
unfolding set_front set_section
set-put s l {l3 = l3} e1 e2 e3 e4 =
    let a = little 4 (length s.lengths) ++ words_bytes 4 s.lengths in
    let b = little 4 (length s.bins) ++ words_bytes 4 s.bins in
    let c = little 4 (length s.heads / 3) ++ words_bytes 4 s.heads in
    let la = section_long (length s.lengths) s.lengths in
    let lb = section_long (length s.bins) s.bins in
    let lc = section_long (length s.heads / 3) s.heads in
    let ab = length-append a b in
    let abc = length-append (a ++ b) c in
    let at = 4 + 4 * length s.lengths + (4 + 4 * length s.bins) + (4 + 4 * length s.heads) in
    next-put l 0 ((a ++ b) ++ c) (little 4 (slots_of s.names) ++ slots_bytes s (slots_of s.names))
    (next-put l 0 (a ++ b) c (next-put l 0 a b e1 e2 (omega (arith, la))) e3 (omega (arith, la, lb, ab)))
    (e4 ∙ ap (λ (x : List ℕ). sets l3 at (little 4 (slots_of s.names) ++ x)) (slots-alone s (slots_of s.names)))
    (omega (arith, la, lb, lc, ab, abc))

-- A number's bytes.
pub bytes_start : (l : List ℕ) (at k x : ℕ) → sets l (at + 0) (little (k - 0) x) ≡ sets l at (little k x)
bytes_start l at k x = let e : at + 0 ≡ at = omega arith in let f : k - 0 ≡ k = omega arith in rw (e, f)

pub bytes_on : (l : List ℕ) (at i k x b : ℕ) → i < k → b ≡ x % 256
    → sets (set l (at + i) b) (at + (i + 1)) (little (k - (i + 1)) (x / 256)) ≡ sets l (at + i) (little (k - i) x)
unfolding little
bytes_on l at i k x b h e =
    let m : k - i ≡ suc (k - (i + 1)) = omega arith in
    let n : at + (i + 1) ≡ suc (at + i) = omega arith in
    rw (m, n, e)

pub bytes_end : (l : List ℕ) (at i k x : ℕ) → k ≤ i → sets l (at + i) (little (k - i) x) ≡ l
unfolding little
bytes_end l at i k x h = let e : k - i ≡ 0 = omega arith in rw e

-- Words, each of four bytes.
pub words_start : (l : List ℕ) (at : ℕ) (words : List ℕ)
    → sets l (at + 4 * 0) (words_bytes 4 (drop 0 words)) ≡ sets l at (words_bytes 4 words)
words_start l at words = let e : at + 4 * 0 ≡ at = omega arith in rw e

words_on : (l : List ℕ) (at i : ℕ) (words : List ℕ) → i < length words
    → sets (sets l (at + 4 * i) (little 4 (get_or words i 0))) (at + 4 * (i + 1)) (words_bytes 4 (drop (i + 1) words))
    ≡ sets l (at + 4 * i) (words_bytes 4 (drop i words))
unfolding words_bytes
words_on l at i words h =
    let n : at + 4 * (i + 1) ≡ at + 4 * i + length (little 4 (get_or words i 0)) = omega (arith, little-length 4 (get_or words i 0)) in
    let s : i + 1 ≡ suc i = omega arith in
    rw (n, s) (sym (sets_append l (at + 4 * i) (little 4 (get_or words i 0)) (words_bytes 4 (drop (suc i) words)))
    ∙ ap (λ (w : List ℕ). sets l (at + 4 * i) (words_bytes 4 w)) (sym (drop-cons words i 0 h)))

-- One word put, as the code leaves it.
pub word-put : (l : List ℕ) (at i : ℕ) (words : List ℕ) {w : ℕ} {m : List ℕ} → w ≡ get_or words i 0
    → m ≡ sets l (at + 4 * i) (little 4 w)
    → i < length words
    → (sets m (at + 4 * (i + 1)) (words_bytes 4 (drop (i + 1) words)) ≡ sets l (at + 4 * i) (words_bytes 4 (drop i words)))
    × (length m ≡ length l)
word-put l at i words {w} {m} e f h = (
  (λ z. sets (put z) (at + 4 * (i + 1)) (words_bytes 4 (drop (i + 1) words))) ∙ words_on l at i words h,
  ap length put ∙ length-sets l (at + 4 * i) (little 4 (get_or words i 0)),
)
  where
    put : m ≡ sets l (at + 4 * i) (little 4 (get_or words i 0))
    put = f ∙ ap (λ (x : ℕ). sets l (at + 4 * i) (little 4 x)) e

pub words_end : (l : List ℕ) (at i : ℕ) (words : List ℕ) → length words ≤ i → i ≤ length words
    → sets l (at + 4 * i) (words_bytes 4 (drop i words)) ≡ l
unfolding words_bytes
words_end l at i words h k = let e : i ≡ length words = omega arith in rw (e, drop-length words)
