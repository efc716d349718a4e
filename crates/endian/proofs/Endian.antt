-- A number is that of its bytes, the lowest first, and words come back from their bytes one after another.
use mathlib.Core.Path.{◌≡◌, refl, ap, sym, ◌∙◌}
use mathlib.Core.List.{List, [], ◌∷◌, ◌++◌, append_assoc}
use Prim.Native.Nat.{ℕ, zero, suc, ◌+◌, ◌*◌, ◌/◌, ◌%◌, ◌^◌, ◌<◌, ◌≤◌}
use native.Mathlib.Omega.{arith}
use native.Mathlib.Nat.{le-div_iff_mul-le, mul-suc, mul_comm, mul-zero}
use lib.ListN.{length, take, drop, length-append, length-drop, take-append-drop}
use lib.Seq.{take_at, drop_at, length-take-le}
use Rattle.endian.specs.Bytes.{Bytes, nothing, another, little, number_of, words_bytes, word_in, words_in}
use Rattle.endian.specs.Claims.{AllBelow, none, more}
use Rattle.endian.proofs.Reading.{word_whole}

pub little-length : (n x : ℕ) → length (little n x) ≡ n
unfolding little
little-length zero x = refl
little-length (suc n) x = ap suc (little-length n (x / 256))

pub little_bytes : (n x : ℕ) → Bytes (little n x)
unfolding little
little_bytes zero x = nothing
little_bytes (suc n) x = another {b = x % 256} (omega arith) (little_bytes n (x / 256))

pub number_little : (n x : ℕ) → x < 256 ^ n → number_of (little n x) ≡ x
unfolding little number_of
number_little zero x h = omega arith
number_little (suc n) x h = let a = number_little n (x / 256) (omega arith) in omega arith

pub little_number : {l : List ℕ} → Bytes l → little (length l) (number_of l) ≡ l
unfolding little number_of
little_number nothing = refl
little_number (another {b} {l} h k) =
    let m : (b + 256 * number_of l) % 256 ≡ b = omega arith in
    let d : (b + 256 * number_of l) / 256 ≡ number_of l = omega arith in
    rw (m, d) (ap (λ (x : List ℕ). b ∷ x) (little_number k))

pub number_small : {l : List ℕ} → Bytes l → number_of l < 256 ^ length l
unfolding number_of
number_small nothing = omega arith
number_small (another {b} {l} h k) = let a = number_small k in let g : b + 256 * number_of l < 256 ^ suc (length l) = omega arith in g

pub words_bytes_length : (k : ℕ) (words : List ℕ) → length (words_bytes k words) ≡ k * length words
unfolding words_bytes
words_bytes_length k [] = omega arith
words_bytes_length k (x ∷ l) =
    length-append (little k x) (words_bytes k l) ∙ omega (arith, little-length k x, words_bytes_length k l, mul-suc k (length l))

pub rest_behind : (k : ℕ) (words rest : List ℕ) → drop (k * length words) (words_bytes k words ++ rest) ≡ rest
rest_behind k words rest = drop_at (words_bytes k words) rest (k * length words) (words_bytes_length k words)

-- Word i of bytes before which i words stand, and which begin with its own.
word-at_front : (k : ℕ) → 0 < k → (before own rest : List ℕ) (i : ℕ) → length before ≡ k * i → length own ≡ k
    → word_in k (before ++ (own ++ rest)) i ≡ number_of own
word-at_front k h before own rest i e f =
    let long : length (before ++ (own ++ rest)) ≡ k * i + (k + length rest) =
    length-append before (own ++ rest) ∙ omega (arith, e, length-append own rest, f) in
    let whole : i < length (before ++ (own ++ rest)) / k =
    (le-div_iff_mul-le h).1 (rw long (omega (arith, mul-suc k i, mul_comm (suc i) k))) in
    sym (word_whole k _ i whole (ap number_of (sym (rw (drop_at before (own ++ rest) (k * i) e) (take_at own rest k f)))))

-- The words from place i on, of bytes before which i words stand.
back_from : (k : ℕ) → 0 < k → (before words rest : List ℕ) (i : ℕ) → length before ≡ k * i → AllBelow (256 ^ k) words
    → words_in k (before ++ (words_bytes k words ++ rest)) i (length words) ≡ words
unfolding words_in words_bytes
back_from k h before [] rest i e none = refl
back_from k h before (x ∷ l) rest i e (more s b) =
    let own = little k x in
    let bytes : before ++ ((own ++ words_bytes k l) ++ rest) ≡ before ++ (own ++ (words_bytes k l ++ rest)) = simp append_assoc in
    let moved : before ++ (own ++ (words_bytes k l ++ rest)) ≡ (before ++ own) ++ (words_bytes k l ++ rest) = simp append_assoc in
    let long : length (before ++ own) ≡ k * suc i = length-append before own ∙ omega (arith, e, little-length k x, mul-suc k i) in
    let one : word_in k (before ++ (own ++ (words_bytes k l ++ rest))) i ≡ x =
    word-at_front k h before own (words_bytes k l ++ rest) i e (little-length k x) ∙ number_little k x s in
    let others : words_in k (before ++ (own ++ (words_bytes k l ++ rest))) (suc i) (length l) ≡ l =
    rw moved (back_from k h (before ++ own) l rest (suc i) long b) in
    ap (λ (y : List ℕ). word_in k y i ∷ words_in k y (suc i) (length l)) bytes ∙ rw (one, others)

pub words_back : (k : ℕ) → 0 < k → (words rest : List ℕ) → AllBelow (256 ^ k) words
    → words_in k (words_bytes k words ++ rest) 0 (length words) ≡ words
words_back k h words rest b = back_from k h [] words rest 0 (omega (arith, mul-zero k)) b

pub bytes_split : (k : ℕ) {l : List ℕ} → Bytes l → Bytes (take k l) × Bytes (drop k l)
bytes_split zero b = (nothing, b)
bytes_split (suc k) nothing = (nothing, nothing)
bytes_split (suc k) (another h b) = let r = bytes_split k b in (another h r.0, r.1)

empty-is : (l : List ℕ) → length l ≡ 0 → [] ≡ l
empty-is [] e = refl
empty-is (x ∷ l) e = absurd (omega arith)

-- The bytes of the words from place i on are the bytes from there on, whatever follows.
own_from : (k : ℕ) → 0 < k → (before l after : List ℕ) (i m : ℕ) → length before ≡ k * i → Bytes l → length l ≡ k * m
    → words_bytes k (words_in k (before ++ (l ++ after)) i m) ≡ l
unfolding words_in words_bytes
own_from k h before l after i zero e b f = empty-is l (omega (arith, f, mul-zero k))
own_from k h before l after i (suc m) e b f =
    let most : k ≤ length l = omega (arith, f, mul-suc k m) in
    let own = take k l in
    let rest = drop k l in
    let wide : length own ≡ k = length-take-le k l most in
    let parts = bytes_split k b in
    let whole : own ++ rest ≡ l = take-append-drop k l in
    let split : before ++ (l ++ after) ≡ before ++ (own ++ (rest ++ after)) =
    ap (λ (x : List ℕ). before ++ (x ++ after)) (sym whole) ∙ simp append_assoc in
    let moved : before ++ (own ++ (rest ++ after)) ≡ (before ++ own) ++ (rest ++ after) = simp append_assoc in
    let long : length (before ++ own) ≡ k * suc i = length-append before own ∙ omega (arith, e, wide, mul-suc k i) in
    let left : length rest ≡ k * m = length-drop k l ∙ omega (arith, f, mul-suc k m) in
    let one : little k (word_in k (before ++ (own ++ (rest ++ after))) i) ≡ own =
    ap (little k) (word-at_front k h before own (rest ++ after) i e wide)
    ∙ ap (λ n. little n (number_of own)) (sym wide)
    ∙ little_number parts.0 in
    let others : words_bytes k (words_in k (before ++ (own ++ (rest ++ after))) (suc i) m) ≡ rest =
    rw moved (own_from k h (before ++ own) rest after (suc i) m long parts.1 left) in
    ap (λ (x : List ℕ). little k (word_in k x i) ++ words_bytes k (words_in k x (suc i) m)) split ∙ rw (one, others) whole

-- The first bytes are those of the words that are read from them.
pub front_own : (k m : ℕ) → 0 < k → (l : List ℕ) → Bytes l → k * m ≤ length l → words_bytes k (words_in k l 0 m) ≡ take (k * m) l
front_own k m h l b f =
    let front = take (k * m) l in
    let rest = drop (k * m) l in
    ap (λ (x : List ℕ). words_bytes k (words_in k x 0 m)) (sym (take-append-drop (k * m) l))
    ∙ own_from k h [] front rest 0 m (omega (arith, mul-zero k)) (bytes_split (k * m) b).0 (length-take-le (k * m) l f)
