-- Whole words and whole slots of a chunk come to what their bytes come to one after another.
-- Parts: words put into the slice of their section; a whole word, and a row of words, by their bytes; the 41 bytes of a slot, and a row of
-- slots; slots put into the tails of the two slices; the first bytes alone; the words of a slot one after another; a slice that is lent in
-- part, by its section and to its end.
use mathlib.Core.Path.{◌≡◌, refl, ap, sym, ◌∙◌}
use mathlib.Core.List.{List, [], ◌∷◌, ◌++◌, append_assoc, append-nil}
use Prim.Native.Nat.{ℕ, zero, suc, ◌+◌, ◌-◌, ◌*◌, ◌/◌, ◌%◌, ◌^◌, ◌<◌, ◌≤◌}
use native.Mathlib.Omega.{arith}
use native.Mathlib.Numerals.{add-one}
use lib.ListN.{length, get_or, set, take, drop, length-drop, drop_of_length-le, take-append-drop, get_or-append}
use lib.Seq.{sets, sets-eq, length-take-le, take_all, take-add, take-append-le, drop-append-le, drop_at, drop-drop, drop-cons}
use Rattle.endian.specs.Bytes.{Bytes, nothing, another, little, number_of, words_bytes, word_in, words_in}
use Rattle.endian.proofs.Endian.{bytes_split, little_number, number_small, front_own}
use Rattle.endian.proofs.Reading.{words_length, word_whole}
use Rattle.set_rules.specs.Words.{Set, lent_set}
use Rattle.file_rules.specs.Layout.{slice_in, field_of, section_words, put_field}
use Rattle.file_rules.specs.Loader.{Loader}
use Rattle.file_rules.specs.Loading.{Loading, loading, after_words, bytes_loaded}
use Rattle.file_rules.proofs.Bringing.{bytes_loaded_append, between_words, run_field, after_more}
use Rattle.file_rules.proofs.Slotwise.{slot_run}
use Rattle.file.specs.Runs.{words_put, slot_names, slot_links, slot_cells, slots_names, slots_cells}
use Rattle.file.proofs.Tables.{field-four}

-- Numbers that are all bytes.
pub all_bytes : (l : List ℕ) → ((i : ℕ) → get_or l i 0 < 256) → Bytes l
all_bytes [] h = nothing
all_bytes (x ∷ l) h = another (h 0) (all_bytes l (λ i. h (suc i)))

-- A part of a slice that is written whole comes back in the slice.
pub tail_put : (l ys : List ℕ) (from n : ℕ) → from + n ≤ length l → length ys ≡ n
    → take from l ++ (ys ++ drop n (drop from l)) ≡ sets l from ys
tail_put l ys from n h e =
    sym (sets-eq ys l from (omega arith)
    ∙ append_assoc (take from l) ys (drop (from + length ys) l)
    ∙ ap (λ (x : List ℕ). take from l ++ (ys ++ x)) (ap (λ (k : ℕ). drop (from + k) l) e ∙ sym (drop-drop n from l)))

-- Words put into the slice of their section.
module _ (lengths bins heads names cells : List ℕ) where
  lengths_put : (j : ℕ) (ws l : List ℕ) → lent_set (sets l j ws) bins heads names cells ≡
      words_put (lent_set l bins heads names cells) 0 j ws
  unfolding words_put field_of
  lengths_put j [] l = refl
  lengths_put j (w ∷ ws) l = lengths_put (suc j) ws (set l j w)

  bins_put : (j : ℕ) (ws l : List ℕ) → lent_set lengths (sets l j ws) heads names cells ≡
      words_put (lent_set lengths l heads names cells) 1 j ws
  unfolding words_put field_of
  bins_put j [] l = refl
  bins_put j (w ∷ ws) l = bins_put (suc j) ws (set l j w)

  heads_put : (j : ℕ) (ws l : List ℕ) → lent_set lengths bins (sets l j ws) names cells ≡
      words_put (lent_set lengths bins l names cells) 2 j ws
  unfolding words_put field_of
  heads_put j [] l = refl
  heads_put j (w ∷ ws) l = heads_put (suc j) ws (set l j w)

-- Each word is as small as its bytes.
pub data Fours : List ℕ → Type 0 where
  no_four : Fours []
  a_four : {w : ℕ} {ws : List ℕ} → w < 256 ^ 4 → Fours ws → Fours (w ∷ ws)

-- A whole word, and its bytes.
module _ (k : ℕ) (l : List ℕ) (i : ℕ) (b : Bytes l) (some : i < length l / k) (room : k * i + k ≤ length l) where
  abbrev own : List ℕ
  own = take k (drop (k * i) l)

  own_long : length own ≡ k
  own_long = length-take-le k (drop (k * i) l) (omega (arith, length-drop (k * i) l))

  own_bytes : Bytes own
  own_bytes = (bytes_split k (bytes_split (k * i) b).1).0

  is_own_lem : word_in k l i ≡ number_of own
  is_own_lem = sym (word_whole k l i some refl)

  pub word_small : word_in k l i < 256 ^ k
  word_small = rw is_own_lem (rw own_long at (number_small own_bytes))

  pub word_bytes : little k (word_in k l i) ≡ take k (drop (k * i) l)
  word_bytes = ap (little k) is_own_lem ∙ ap (λ (n : ℕ). little n (number_of own)) (sym own_long) ∙ little_number own_bytes

fours_in : (l : List ℕ) → Bytes l → (i m : ℕ) → 4 * (i + m) ≤ length l → Fours (words_in 4 l i m)
unfolding words_in
fours_in l b i zero h = no_four
fours_in l b i (suc m) h = a_four (word_small 4 l i b (omega arith) (omega arith)) (fours_in l b (suc i) m (omega arith))

-- A row of words, from between two words of their section.
run_words : (s : ℕ) (cs : List ℕ) → s < 3 → (ws : List ℕ) (j : ℕ) (t : Set) → Fours ws → j + length ws ≤ section_words s (get_or cs s 0)
    → bytes_loaded (loading (after_words (between_words s 0 cs) (suc j)) t) (words_bytes 4 ws)
    ≡ loading (after_words (between_words s 0 cs) (suc (j + length ws))) (words_put t s j ws)
unfolding words_bytes words_put bytes_loaded
run_words s cs l [] j t no_four k = let z : suc (j + 0) ≡ suc j = omega arith in rw z
run_words s cs l (w ∷ ws) j t (a_four small others) k =
    let four = field-four s j l in
    let d = loading (between_words s (suc j) cs) t in
    let z : suc (suc j + length ws) ≡ suc (j + suc (length ws)) = omega arith in
    ap (λ (r : Loader). bytes_loaded (loading r t) (little 4 w ++ words_bytes 4 ws)) (after_more s (suc j) cs (omega arith))
    ∙ bytes_loaded_append d (little 4 w) (words_bytes 4 ws)
    ∙ ap (λ (e : Loading). bytes_loaded e (words_bytes 4 ws)) (rw four at (run_field s j cs t w (omega arith) (rw four small)))
    ∙ run_words s cs l ws (suc j) (put_field t (field_of s j) w) others (omega arith)
    ∙ ap (λ (n : ℕ). loading (after_words (between_words s 0 cs) n) (words_put (put_field t (field_of s j) w) s (suc j) ws)) z

-- The first n words of the bytes.
pub words_run : (s : ℕ) (cs rest : List ℕ) (j n : ℕ) (t : Set) → s < 3 → Bytes rest → 4 * n ≤ length rest
    → j < section_words s (get_or cs s 0)
    → j + n ≤ section_words s (get_or cs s 0)
    → bytes_loaded (loading (between_words s (suc j) cs) t) (take (4 * n) rest)
    ≡ loading (after_words (between_words s 0 cs) (suc (j + n))) (words_put t s j (words_in 4 rest 0 n))
words_run s cs rest j n t l b h k m =
    let ws = words_in 4 rest 0 n in
    let long : length ws ≡ n = words_length 4 rest 0 n in
    ap (λ (r : Loader). bytes_loaded (loading r t) (take (4 * n) rest)) (sym (after_more s (suc j) cs k))
    ∙ ap (bytes_loaded (loading (after_words (between_words s 0 cs) (suc j)) t)) (sym (front_own 4 n (omega arith) rest b h))
    ∙ run_words s cs l ws j t (fours_in rest b 0 n (omega arith)) (omega arith)
    ∙ ap (λ (i : ℕ). loading (after_words (between_words s 0 cs) (suc (j + i))) (words_put t s j ws)) long

-- The 41 bytes of a slot are those of its nine words.
part : (l : List ℕ) (a n m : ℕ) → take (n + m) (drop a l) ≡ take n (drop a l) ++ take m (drop (a + n) l)
part l a n m = take-add n m (drop a l) ∙ ap (λ (x : List ℕ). take n (drop a l) ++ take m x) (drop-drop n a l)

byte_below : (l : List ℕ) → Bytes l → (i : ℕ) → get_or l i 0 < 256
byte_below [] nothing i = omega arith
byte_below (x ∷ l) (another h b) zero = h
byte_below (x ∷ l) (another h b) (suc i) = byte_below l b i

one_byte : (l : List ℕ) → Bytes l → 20 < length l → little 1 (get_or l 20 0) ≡ take 1 (drop 20 l)
unfolding little
one_byte l b h =
    let small = byte_below l b 20 in
    let z : get_or l 20 0 % 256 ≡ get_or l 20 0 = omega arith in
    rw (z, drop-cons l 20 0 h)

module _ (l : List ℕ) (b : Bytes l) (h : 41 ≤ length l) where
  abbrev links : List ℕ
  links = drop 21 l

  links_long : length links ≡ length l - 21
  links_long = length-drop 21 l

  links_bytes_lem : Bytes links
  links_bytes_lem = (bytes_split 21 b).1

  slot_front : take 41 l
      ≡ little 8 (word_in 8 l 0) ++ (little 8 (word_in 8 l 1)
      ++ (little 4 (word_in 4 l 4) ++ (little 1 (get_or l 20 0) ++ (little 4 (word_in 4 links 0)
      ++ (little 4 (word_in 4 links 1) ++
      (little 4 (word_in 4 links 2) ++ (little 4 (word_in 4 links 3) ++ little 4 (word_in 4 links 4))))))))
  unfolding words_bytes words_in
  slot_front =
      let w0 = word_bytes 8 l 0 b (omega arith) (omega arith) in
      let w1 = word_bytes 8 l 1 b (omega arith) (omega arith) in
      let p = word_bytes 4 l 4 b (omega arith) (omega arith) in
      let s = one_byte l b (omega arith) in
      let ls = front_own 4 5 (omega arith) links links_bytes_lem (omega (arith, links_long)) in
      part l 0 8 33 ∙ ap (λ (x : List ℕ). take 8 l ++ x) (part l 8 8 25
      ∙ ap (λ (x : List ℕ). take 8 (drop 8 l) ++ x) (part l 16 4 21
      ∙ ap (λ (x : List ℕ). take 4 (drop 16 l) ++ x) (part l 20 1 20)))
      ∙ rw (← w0, ← w1, ← p, ← s, ← ls, append-nil)

-- A slot, from between two slots.
module _ (i : ℕ) (cs : List ℕ) (owed : i < get_or cs 3 0) (lengths bins heads names cells l : List ℕ) (b : Bytes l)
    (h : 41 ≤ length l) where
  one_slot : bytes_loaded (loading (between_words 3 (suc (9 * i)) cs) (lent_set lengths bins heads names cells)) (take 41 l)
      ≡ loading (after_words (between_words 3 0 cs) (suc (9 * i + 9)))
      (lent_set lengths bins heads (slot_names names i l) (slot_cells cells i l))
  unfolding slot_names slot_cells slot_links
  one_slot =
      let tail = drop 21 l in
      let long = length-drop 21 l in
      let bytes = (bytes_split 21 b).1 in
      ap (bytes_loaded (loading (between_words 3 (suc (9 * i)) cs) (lent_set lengths bins heads names cells))) (slot_front l b h)
      ∙ slot_run i cs owed lengths bins heads names cells (word_in 8 l 0) (word_in 8 l 1) (word_in 4 l 4) (get_or l 20 0) (word_in 4 tail 0)
      (word_in 4 tail 1)
      (word_in 4 tail 2)
      (word_in 4 tail 3)
      (word_in 4 tail 4)
      (word_small 8 l 0 b (omega arith) (omega arith))
      (word_small 8 l 1 b (omega arith) (omega arith))
      (word_small 4 l 4 b (omega arith) (omega arith))
      (byte_below l b 20)
      (word_small 4 tail 0 bytes (omega arith) (omega arith))
      (word_small 4 tail 1 bytes (omega arith) (omega arith))
      (word_small 4 tail 2 bytes (omega arith) (omega arith))
      (word_small 4 tail 3 bytes (omega arith) (omega arith))
      (word_small 4 tail 4 bytes (omega arith) (omega arith))

-- A row of slots.
slots_on : (lengths bins heads names cells cs rest : List ℕ) (from n : ℕ) → Bytes rest → from + n ≤ get_or cs 3 0 → 41 * n ≤ length rest
    → bytes_loaded (loading (after_words (between_words 3 0 cs) (suc (9 * from))) (lent_set lengths bins heads names cells))
    (take (41 * n) rest)
    ≡ loading (after_words (between_words 3 0 cs) (suc (9 * (from + n))))
    (lent_set lengths bins heads (slots_names names from rest n) (slots_cells cells from rest n))
unfolding bytes_loaded slots_names slots_cells section_words
slots_on lengths bins heads names cells cs rest from zero b l h =
    let z : from + 0 ≡ from = omega arith in rw z
slots_on lengths bins heads names cells cs rest from (suc n) b l h =
    let e : 41 * suc n ≡ 41 * n + 41 = omega arith in
    let z : suc (9 * (from + n) + 9) ≡ suc (9 * (from + suc n)) = omega arith in
    let d = loading (after_words (between_words 3 0 cs) (suc (9 * from))) (lent_set lengths bins heads names cells) in
    let own = take 41 (drop (41 * n) rest) in
    let x = slots_names names from rest n in
    let y = slots_cells cells from rest n in
    let t = lent_set lengths bins heads x y in
    ap (bytes_loaded d) (ap (λ (k : ℕ). take k rest) e ∙ take-add (41 * n) 41 rest)
    ∙ bytes_loaded_append d (take (41 * n) rest) own
    ∙ ap (λ (u : Loading). bytes_loaded u own) (slots_on lengths bins heads names cells cs rest from n b (omega arith) (omega arith))
    ∙ ap (λ (r : Loader). bytes_loaded (loading r t) own) (after_more 3 (suc (9 * (from + n))) cs (omega arith))
    ∙ one_slot (from + n) cs (omega arith) lengths bins heads x y (drop (41 * n) rest) (bytes_split (41 * n) b).1
    (omega (arith, length-drop (41 * n) rest))
    ∙ ap (λ (k : ℕ). loading (after_words (between_words 3 0 cs) k)
    (lent_set lengths bins heads (slot_names x (from + n) (drop (41 * n) rest)) (slot_cells y (from + n) (drop (41 * n) rest)))) z

pub slots_run : (lengths bins heads names cells cs rest : List ℕ) (from n : ℕ) → Bytes rest → from < get_or cs 3 0
    → from + n ≤ get_or cs 3 0
    → 41 * n ≤ length rest
    → bytes_loaded (loading (between_words 3 (suc (9 * from)) cs) (lent_set lengths bins heads names cells)) (take (41 * n) rest)
    ≡ loading (after_words (between_words 3 0 cs) (suc (9 * (from + n))))
    (lent_set lengths bins heads (slots_names names from rest n) (slots_cells cells from rest n))
unfolding section_words
slots_run lengths bins heads names cells cs rest from n b some l h =
    ap (λ (r : Loader). bytes_loaded (loading r (lent_set lengths bins heads names cells)) (take (41 * n) rest))
    (sym (after_more 3 (suc (9 * from)) cs (omega arith)))
    ∙ slots_on lengths bins heads names cells cs rest from n b l h

-- Slots that are put into the tails of the two slices are put into the slices.
set-behind : (p q : List ℕ) (n v : ℕ) → set (p ++ q) (length p + n) v ≡ p ++ set q n v
set-behind [] q n v = let z : 0 + n ≡ n = omega arith in rw z
set-behind (x ∷ p) q n v =
    let z : suc (length p) + n ≡ suc (length p + n) = omega arith in
    rw z (ap (λ (l : List ℕ). x ∷ l) (set-behind p q n v))

set-behind-at : (p q : List ℕ) (k n v : ℕ) → k ≡ length p + n → set (p ++ q) k v ≡ p ++ set q n v
set-behind-at p q k n v e = ap (λ (i : ℕ). set (p ++ q) i v) e ∙ set-behind p q n v

module _ (p q l : List ℕ) (from i : ℕ) where
  names_behind : length p ≡ 2 * from → slot_names (p ++ q) (from + i) l ≡ p ++ slot_names q (0 + i) l
  unfolding slot_names
  names_behind e =
      rw (set-behind-at p q (2 * (from + i) + 0) (2 * (0 + i) + 0) (word_in 8 l 0) (omega arith))
      (set-behind-at p (set q (2 * (0 + i) + 0) (word_in 8 l 0)) (2 * (from + i) + 1) (2 * (0 + i) + 1) (word_in 8 l 1) (omega arith))

  cells_behind : length p ≡ 7 * from → slot_cells (p ++ q) (from + i) l ≡ p ++ slot_cells q (0 + i) l
  unfolding slot_cells slot_links
  cells_behind e =
      let tail = drop 21 l in
      let j = 7 * (0 + i) in
      let k = 7 * (from + i) in
      let at : (m : ℕ) → k + m ≡ length p + (j + m) = λ m. omega arith in
      let put : (x : List ℕ) (m v : ℕ) → set (p ++ x) (k + m) v ≡ p ++ set x (j + m) v = λ x m v. set-behind-at p x (k + m) (j + m) v
      (at m) in
      let x0 = set q (j + 0) (word_in 4 l 4) in
      let x1 = set x0 (j + 1) (get_or l 20 0) in
      let x2 = set x1 (j + 2) (word_in 4 tail 0) in
      let x3 = set x2 (j + 3) (word_in 4 tail 1) in
      let x4 = set x3 (j + 4) (word_in 4 tail 2) in
      let x5 = set x4 (j + 5) (word_in 4 tail 3) in
      rw (
        put q 0 (word_in 4 l 4),
        put x0 1 (get_or l 20 0),
        put x1 2 (word_in 4 tail 0),
        put x2 3 (word_in 4 tail 1),
        put x3 4
            (word_in 4 tail 2),
        put x4 5 (word_in 4 tail 3),
      )
      (put x5 6 (word_in 4 tail 4))

pub names_tail : (p q l : List ℕ) (from n : ℕ) → length p ≡ 2 * from → p ++ slots_names q 0 l n ≡ slots_names (p ++ q) from l n
unfolding slots_names
names_tail p q l from zero e = refl
names_tail p q l from (suc n) e =
    sym (names_behind p (slots_names q 0 l n) (drop (41 * n) l) from n e)
    ∙ ap (λ (x : List ℕ). slot_names x (from + n) (drop (41 * n) l)) (names_tail p q l from n e)

pub cells_tail : (p q l : List ℕ) (from n : ℕ) → length p ≡ 7 * from → p ++ slots_cells q 0 l n ≡ slots_cells (p ++ q) from l n
unfolding slots_cells
cells_tail p q l from zero e = refl
cells_tail p q l from (suc n) e =
    sym (cells_behind p (slots_cells q 0 l n) (drop (41 * n) l) from n e)
    ∙ ap (λ (x : List ℕ). slot_cells x (from + n) (drop (41 * n) l)) (cells_tail p q l from n e)

-- The first bytes have their own words.
module _ (m : ℕ) (l : List ℕ) (h : m ≤ length l) where
  front_long : length (take m l) ≡ m
  front_long = length-take-le m l h

  front_piece : (a k : ℕ) → a + k ≤ m → take k (drop a (take m l)) ≡ take k (drop a l)
  front_piece a k b =
      sym (take-append-le k (drop a (take m l)) (drop m l) (omega (arith, length-drop a (take m l), front_long)))
      ∙ ap (take k) (sym (drop-append-le a (take m l) (drop m l) (omega (arith, front_long))))
      ∙ ap (λ (x : List ℕ). take k (drop a x)) (take-append-drop m l)

  front_word : (k i : ℕ) → i < m / k → i < length l / k → k * i + k ≤ m → word_in k (take m l) i ≡ word_in k l i
  front_word k i a b c =
      sym (word_whole k (take m l) i (rw front_long a) refl) ∙ ap number_of (front_piece (k * i) k c) ∙ word_whole k l i b refl

-- The slot of the first 41 bytes.
module _ (l : List ℕ) (h : 41 ≤ length l) (x : List ℕ) (i : ℕ) where
  pub front_names : slot_names x i (take 41 l) ≡ slot_names x i l
  unfolding slot_names
  front_names =
      rw (front_word 41 l h 8 0 (omega arith) (omega arith) (omega arith), front_word 41 l h 8 1 (omega arith) (omega arith) (omega arith))

  front_byte : get_or (take 41 l) 20 0 ≡ get_or l 20 0
  front_byte =
      sym (get_or-append (take 41 l) (drop 41 l) 0 20 (omega (arith, front_long 41 l h)))
      ∙ ap (λ (y : List ℕ). get_or y 20 0) (take-append-drop 41 l)

  front_behind : drop 21 (take 41 l) ≡ take 20 (drop 21 l)
  front_behind =
      ap (drop 21) (take-add 21 20 l) ∙ drop_at (take 21 l) (take 20 (drop 21 l)) 21 (length-take-le 21 l (omega arith))

  front_links : (y : List ℕ) → slot_links y i (drop 21 (take 41 l)) ≡ slot_links y i (drop 21 l)
  unfolding slot_links
  front_links y =
      let long = length-drop 21 l in
      let b : 20 ≤ length (drop 21 l) = omega arith in
      let word : (j : ℕ) → j < 5 → word_in 4 (take 20 (drop 21 l)) j ≡ word_in 4 (drop 21 l) j =
      λ j k. front_word 20 (drop 21 l) b 4 j (omega arith) (omega arith) (omega arith) in
      rw (
        front_behind,
        word 0 (omega arith),
        word 1 (omega arith),
        word 2 (omega arith),
        word 3 (omega arith),
        word 4 (omega arith),
      )

  pub front_cells : slot_cells x i (take 41 l) ≡ slot_cells x i l
  unfolding slot_cells
  front_cells = rw (front_word 41 l h 4 4 (omega arith) (omega arith) (omega arith), front_byte) (front_links _)

-- The words of a slot, one after another.
module _ (l : List ℕ) (i : ℕ) (bytes : List ℕ) where
  pub pair_put : {a b : List ℕ} {h k : ℕ} → a ≡ set l (2 * i) h → h ≡ word_in 8 bytes 0 → b ≡ set a (2 * i + 1) k → k ≡ word_in 8 bytes 1
      → b ≡ slot_names l i bytes
  unfolding slot_names
  pair_put ea eh eb ek = let z : 2 * i + 0 ≡ 2 * i = omega arith in rw (eb, ea, eh, ek, z)

  pub links_put : {a b c d e : List ℕ} {x0 x1 x2 x3 x4 : ℕ} → a ≡ set l (7 * i + 2) x0 → x0 ≡ word_in 4 bytes 0
      → b ≡ set a (7 * i + 3) x1
      → x1 ≡ word_in 4 bytes 1
      → c ≡ set b (7 * i + 4) x2
      → x2 ≡ word_in 4 bytes 2
      → d ≡ set c (7 * i + 5) x3
      → x3 ≡ word_in 4 bytes 3
      → e ≡ set d (7 * i + 6) x4
      → x4 ≡ word_in 4 bytes 4
      → e ≡ slot_links l i bytes
  unfolding slot_links
  links_put ea e0 eb e1 ec e2 ed e3 ee e4 = rw (ee, ed, ec, eb, ea, e0, e1, e2, e3, e4)

  pub cells_put : {a b c tail : List ℕ} {p : ℕ} → a ≡ set l (7 * i) p → p ≡ word_in 4 bytes 4 → b ≡ set a (7 * i + 1) (get_or bytes 20 0)
      → c ≡ slot_links b i tail
      → tail ≡ drop 21 bytes
      → c ≡ slot_cells l i bytes
  unfolding slot_cells
  cells_put ea ep eb ec et = let z : 7 * i + 0 ≡ 7 * i = omega arith in rw (ec, eb, ea, ep, et, z)

  pub slots-more : (from n k : ℕ) {x y rest : List ℕ} → k ≡ from + n → x ≡ slots_names l from bytes n
      → 41 ≤ length (drop (41 * n) bytes)
      → rest ≡ take 41 (drop (41 * n) bytes)
      → y ≡ slot_names x k rest
      → y ≡ slots_names l from bytes (n + 1)
  unfolding slots_names
  slots-more from n k {x} ek ex h er ey =
      rw (add-one n, ← ex, ← ek) (ey ∙ ap (slot_names x k) er ∙ front_names (drop (41 * n) bytes) h x k)

  pub cells_more : (from n k : ℕ) {x y rest : List ℕ} → k ≡ from + n → x ≡ slots_cells l from bytes n
      → 41 ≤ length (drop (41 * n) bytes)
      → rest ≡ take 41 (drop (41 * n) bytes)
      → y ≡ slot_cells x k rest
      → y ≡ slots_cells l from bytes (n + 1)
  unfolding slots_cells
  cells_more from n k {x} ek ex h er ey = rw (add-one n, ← ex, ← ek) (ey ∙ ap (slot_cells x k) er ∙ front_cells (drop (41 * n) bytes) h x k)

  pub no_slots : (l ≡ slots_names l 0 bytes 0) × (l ≡ slots_cells l 0 bytes 0)
  unfolding slots_names slots_cells
  no_slots = (refl, refl)

-- The part that is lent is written whole, from its first word on.
pub tail_read : (l rest : List ℕ) (from n k : ℕ) {ys : List ℕ} → k ≡ n → from + n ≤ length l
    → ys ≡ words_in 4 rest 0 (length (take k (drop from l)))
    → take from l ++ (ys ++ drop k (drop from l)) ≡ sets l from (words_in 4 rest 0 n)
tail_read l rest from n k {ys} e h f =
    let long : length (take k (drop from l)) ≡ n = length-take-le k (drop from l) (omega (arith, length-drop from l)) ∙ e in
    let own : ys ≡ words_in 4 rest 0 n = f ∙ ap (words_in 4 rest 0) long in
    ap (λ (m : ℕ). take from l ++ (ys ++ drop m (drop from l))) e
    ∙ tail_put l ys from n h (ap length own ∙ words_length 4 rest 0 n)
    ∙ ap (sets l from) own

-- A section of words by its number.
module _ (lengths bins heads : List ℕ) (s : ℕ) where
  abbrev here : ℕ → Type 0
  here end = end ≤ length (slice_in (lent_set lengths bins heads [] []) (field_of s 0).slice)

  pub in_lengths : (end : ℕ) → s ≡ 0 → here end → end ≤ length lengths
  unfolding field_of
  in_lengths end e h = rw e at h

  pub in_bins : (end : ℕ) → s ≡ 1 → here end → end ≤ length bins
  unfolding field_of
  in_bins end e h = rw e at h

  pub in_heads : (end : ℕ) → s ≡ 2 → here end → end ≤ length heads
  unfolding field_of
  in_heads end e h = rw e at h

  pub section_lengths : (j : ℕ) (ws : List ℕ) {x : List ℕ} → s ≡ 0 → x ≡ sets lengths j ws
      → (names cells : List ℕ) → lent_set x bins heads names cells ≡ words_put (lent_set lengths bins heads names cells) s j ws
  section_lengths j ws e f names cells = rw (f, e) (lengths_put lengths bins heads names cells j ws lengths)

  pub section_bins : (j : ℕ) (ws : List ℕ) {x : List ℕ} → s ≡ 1 → x ≡ sets bins j ws
      → (names cells : List ℕ) → lent_set lengths x heads names cells ≡ words_put (lent_set lengths bins heads names cells) s j ws
  section_bins j ws e f names cells = rw (f, e) (bins_put lengths bins heads names cells j ws bins)

  pub section_heads : (j : ℕ) (ws : List ℕ) {x : List ℕ} → s ≡ 2 → x ≡ sets heads j ws
      → (names cells : List ℕ) → lent_set lengths bins x names cells ≡ words_put (lent_set lengths bins heads names cells) s j ws
  section_heads j ws e f names cells = rw (f, e) (heads_put lengths bins heads names cells j ws heads)

-- A slice from a word on, to its end.
pub from_place : (l : List ℕ) (a : ℕ) → take (length l - a) (drop a l) ≡ drop a l
from_place l a = take_all (length l - a) (drop a l) (omega (arith, length-drop a l))

pub tail_back : (l : List ℕ) (a : ℕ) (f : List ℕ → List ℕ) {ys : List ℕ} → ys ≡ f (take (length l - a) (drop a l))
    → take a l ++ (ys ++ drop (length l - a) (drop a l)) ≡ take a l ++ f (drop a l)
tail_back l a f {ys} e =
    let none : drop (length l - a) (drop a l) ≡ [] = drop_of_length-le (drop a l) {i = length l - a} (omega (arith, length-drop a l)) in
    rw (none, append-nil ys, e, from_place l a)
