-- A dump is taken and read back word by word, and bytes that are taken are the dump of what is read from them.
use mathlib.Core.Path.{◌≡◌, refl, ap, sym, ◌∙◌}
use mathlib.Core.List.{List, [], ◌∷◌, ◌++◌, append_assoc, append-nil}
use Prim.Native.Nat.{ℕ, ◌+◌, ◌*◌, ◌^◌, ◌<◌, ◌≤◌}
use native.Mathlib.Omega.{arith}
use lib.ListN.{length, take, drop, length-append, length-drop, take-append-drop}
use lib.Seq.{take_all}
use Rattle.endian.specs.Bytes.{Bytes, little, words_bytes, word_in, words_in}
use Rattle.endian.specs.Claims.{AllBelow, none, more}
use Rattle.endian.proofs.Endian.{words_back, rest_behind, words_bytes_length, front_own, bytes_split}
use Rattle.endian.proofs.Reading.{words_length}
use Rattle.index_rules.specs.Index.{Index, lent, line_words}
use Rattle.dump_rules.specs.Dump.{body_bytes, dump_bytes, DumpOf, dump_size, whole, measured, loaded_as, loaded}
use Rattle.dump_rules.proofs.Measuring.{WholeDump, is_whole, whole_is}

-- The two counts are words of four bytes before the others.
front : (n c : ℕ) (ix : Index) → dump_bytes n c ix ≡ words_bytes 4 (n ∷ (c ∷ [])) ++ body_bytes ix
unfolding dump_bytes words_bytes
front n c ix = simp (append_assoc, append-nil)

counts : (n c : ℕ) (l : List ℕ) → n < 256 ^ 4 → c < 256 ^ 4
    → words_in 4 (words_bytes 4 (n ∷ (c ∷ [])) ++ l) 0 2 ≡ n ∷ (c ∷ [])
counts n c l h g = words_back 4 (omega arith) (n ∷ (c ∷ [])) l (more h (more g none))

two_words : (l : List ℕ) {n c : ℕ} → words_in 4 l 0 2 ≡ n ∷ (c ∷ []) → (word_in 4 l 0 ≡ n) × (word_in 4 l 1 ≡ c)
unfolding words_in
two_words l e = (cc, cc)

-- The words of each slice come back, and the next slice's stand behind them.
body_back : (ix : Index) → AllBelow (256 ^ 8) ix.live.names → AllBelow (256 ^ 4) ix.live.cells → AllBelow (256 ^ 4) ix.live.head
    → AllBelow (256 ^ 4) ix.live.sizes → AllBelow (256 ^ 8) ix.lines
    → loaded_as (length ix.live.names) (length ix.live.cells) (length ix.live.head) (length ix.live.sizes)
    (length ix.lines)
    (body_bytes ix)
    ≡ ix
unfolding loaded_as body_bytes
body_back ix h1 h2 h3 h4 h5 =
    let last : words_in 8 (words_bytes 8 ix.lines) 0 (length ix.lines) ≡ ix.lines =
    ap (λ (x : List ℕ). words_in 8 x 0 (length ix.lines)) (sym (append-nil _)) ∙ words_back 8 (omega arith) ix.lines [] h5 in
    rw (
      rest_behind 8 ix.live.names _,
      rest_behind 4 ix.live.cells _,
      rest_behind 4 ix.live.head _,
      rest_behind 4 ix.live.sizes _,
      words_back 8 (omega arith) ix.live.names _ h1,
      words_back 4 (omega arith) ix.live.cells _ h2,
      words_back 4 (omega arith) ix.live.head _ h3,
      words_back 4 (omega arith) ix.live.sizes _ h4,
      last,
    )

two_of : (l : List ℕ) {n c : ℕ} → word_in 4 l 0 ≡ n → word_in 4 l 1 ≡ c → words_in 4 l 0 2 ≡ n ∷ (c ∷ [])
unfolding words_in
two_of l e f = rw (e, f)

module _ {n c : ℕ} {ix : Index} (d : DumpOf n c ix) where
  body_length : length (body_bytes ix) ≡ 20 + 48 * n + 48 * c
  unfolding body_bytes
  body_length =
      simp (length-append, words_bytes_length) (omega (arith, d.names, d.cells, d.head, d.sizes, d.lines))

  pub taken : measured (dump_bytes n c ix) ≡ whole n c
  taken =
      let words = two_words (words_bytes 4 (n ∷ (c ∷ [])) ++ body_bytes ix)
      (counts n c (body_bytes ix) (omega (arith, d.most)) (omega (arith, d.lined))) in
      rw (front n c ix)
      (is_whole (record {
        least = d.least;
        most = d.most;
        lined = d.lined;
        size = length-append (words_bytes 4 (n ∷ (c ∷ []))) (body_bytes ix)
            ∙ omega (arith, words_bytes_length 4 (n ∷ (c ∷ [])), body_length);
        first = words.0;
        second = words.1;
      }))

  pub back : loaded n c (dump_bytes n c ix) ≡ ix
  back =
      let behind : drop 8 (dump_bytes n c ix) ≡ body_bytes ix = rw (front n c ix) (rest_behind 4 (n ∷ (c ∷ [])) (body_bytes ix)) in
      let all = body_back ix d.wide_names d.wide_cells d.wide_head d.wide_sizes d.wide_lines in
      rw behind (rw (d.names, d.cells, d.head, d.sizes, d.lines) at all)

-- The bytes of so many words, and those behind them, are the bytes.
parted : (k m : ℕ) → 0 < k → (l : List ℕ) → Bytes l → k * m ≤ length l → words_bytes k (words_in k l 0 m) ++ drop (k * m) l ≡ l
parted k m h l b g = rw (front_own k m h l b g) (take-append-drop (k * m) l)

pub own : (n c : ℕ) (l : List ℕ) → Bytes l → measured l ≡ whole n c → l ≡ dump_bytes n c (loaded n c l)
unfolding body_bytes loaded_as
own n c l b e =
    let w = whole_is l e in
    let l0 = drop 8 l in
    let l1 = drop (8 * (2 * n)) l0 in
    let l2 = drop (4 * (7 * n)) l1 in
    let l3 = drop (4 * 3) l2 in
    let l4 = drop (4 * n) l3 in
    let b0 = (bytes_split 8 b).1 in
    let b1 = (bytes_split (8 * (2 * n)) b0).1 in
    let b2 = (bytes_split (4 * (7 * n)) b1).1 in
    let b3 = (bytes_split (4 * 3) b2).1 in
    let b4 = (bytes_split (4 * n) b3).1 in
    let s0 : length l0 ≡ 20 + 48 * n + 48 * c = length-drop 8 l ∙ omega (arith, w.size) in
    let s1 : length l1 ≡ 20 + 32 * n + 48 * c = length-drop (8 * (2 * n)) l0 ∙ omega arith in
    let s2 : length l2 ≡ 20 + 4 * n + 48 * c = length-drop (4 * (7 * n)) l1 ∙ omega arith in
    let s3 : length l3 ≡ 8 + 4 * n + 48 * c = length-drop (4 * 3) l2 ∙ omega arith in
    let s4 : length l4 ≡ 8 + 48 * c = length-drop (4 * n) l3 ∙ omega arith in
    let p0 = parted 8 (2 * n) (omega arith) l0 b0 (omega arith) in
    let p1 = parted 4 (7 * n) (omega arith) l1 b1 (omega arith) in
    let p2 = parted 4 3 (omega arith) l2 b2 (omega arith) in
    let p3 = parted 4 n (omega arith) l3 b3 (omega arith) in
    let p4 : words_bytes 8 (words_in 8 l4 0 (1 + line_words * c)) ≡ l4 =
    front_own 8 (1 + line_words * c) (omega arith) l4 b4 (omega arith) ∙ take_all (8 * (1 + line_words * c)) l4 (omega arith) in
    let heads : words_bytes 4 (n ∷ (c ∷ [])) ≡ take 8 l =
    ap (words_bytes 4) (sym (two_of l w.first w.second)) ∙ front_own 4 2 (omega arith) l b (omega (arith, w.size)) in
    sym (front n c (loaded n c l) ∙ rw (p4, p3, p2, p1, p0, heads) (take-append-drop 8 l))
