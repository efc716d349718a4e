-- How long an upload's bytes are, and what one pair or one section more at the end adds to them and to the entries.
use mathlib.Core.Path.{◌≡◌, refl, ap, sym, ◌∙◌}
use mathlib.Core.List.{List, [], ◌∷◌, ◌++◌, append-nil, append_assoc}
use Prim.Native.Nat.{ℕ, suc, ◌+◌, ◌*◌, ◌^◌, ◌<◌}
use native.Mathlib.Omega.{arith}
use lib.ListN.{length, length-append}
use Rattle.slots.specs.Pairs.{Pair}
use Rattle.index_rules.specs.Contents.{Entry, entry, put}
use Rattle.upload_rules.specs.Upload.{pair_bytes, pairs_bytes, header_bytes, section_bytes, sections_bytes, Pairs, Sections}
use Rattle.endian.specs.Bytes.{Bytes, little}
use Rattle.upload_rules.specs.Upload.{none, more, entries_at, entries_of}
use Rattle.upload_rules.specs.Parts.{put_all}
use Rattle.endian.proofs.Endian.{little-length, little_bytes}
use Rattle.upload_rules.proofs.Cutting.{bytes_append}

-- How many pairs sections have.
unfoldable pub pairs_in : List (List Pair) → ℕ
pairs_in [] = 0
pairs_in (s ∷ ss) = length s + pairs_in ss

pub pairs_in_one : (ss : List (List Pair)) (s : List Pair) → pairs_in (ss ++ (s ∷ [])) ≡ pairs_in ss + length s
unfolding pairs_in
pairs_in_one [] s = omega arith
pairs_in_one (t ∷ ss) s = let a = pairs_in_one ss s in omega arith

pub length_one : {A : Type 0} (l : List A) (a : A) → length (l ++ (a ∷ [])) ≡ length l + 1
length_one l a = length-append l (a ∷ [])

pub pair-length : (p : Pair) → length (pair_bytes p) ≡ 16
unfolding pair_bytes
pair-length p = length-append (little 8 p.hash) (little 8 p.key) ∙ omega (arith, little-length 8 p.hash, little-length 8 p.key)

pub pair_bytes_lem : (p : Pair) → Bytes (pair_bytes p)
unfolding pair_bytes
pair_bytes_lem p = bytes_append (little_bytes 8 p.hash) (little_bytes 8 p.key)

pub pairs_length : (l : List Pair) → length (pairs_bytes l) ≡ 16 * length l
unfolding pairs_bytes
pairs_length [] = omega arith
pairs_length (p ∷ l) = let a = pair-length p in let b = pairs_length l in length-append (pair_bytes p) (pairs_bytes l) ∙ omega arith

pub header_length : (k c : ℕ) → length (header_bytes k c) ≡ 3
unfolding header_bytes
header_length k c = ap suc (little-length 2 c)

pub section_length : (k : ℕ) (s : List Pair) → length (section_bytes k s) ≡ 3 + 16 * length s
unfolding section_bytes
section_length k s =
    let a = header_length k (length s) in let b = pairs_length s in length-append (header_bytes k (length s)) (pairs_bytes s) ∙ omega arith

pub sections_length : (k : ℕ) (ss : List (List Pair)) → length (sections_bytes k ss) ≡ 3 * length ss + 16 * pairs_in ss
unfolding sections_bytes pairs_in
sections_length k [] = omega arith
sections_length k (s ∷ ss) =
    let a = section_length k s in
    let b = sections_length (suc k) ss in length-append (section_bytes k s) (sections_bytes (suc k) ss) ∙ omega arith

pub pairs_one : (l : List Pair) (p : Pair) → pairs_bytes (l ++ (p ∷ [])) ≡ pairs_bytes l ++ pair_bytes p
unfolding pairs_bytes
pairs_one [] p = append-nil (pair_bytes p)
pairs_one (q ∷ l) p = ap (λ (x : List ℕ). pair_bytes q ++ x) (pairs_one l p)
    ∙ sym (append_assoc (pair_bytes q) (pairs_bytes l) (pair_bytes p))

pub sections_one : (k : ℕ) (ss : List (List Pair)) (s : List Pair)
    → sections_bytes k (ss ++ (s ∷ [])) ≡ sections_bytes k ss ++ section_bytes (k + length ss) s
unfolding sections_bytes
sections_one k [] s = let z : k + 0 ≡ k = omega arith in rw z (append-nil (section_bytes k s))
sections_one k (t ∷ ss) s =
    let z : suc k + length ss ≡ k + suc (length ss) = omega arith in
    ap (λ (x : List ℕ). section_bytes k t ++ x)
    (sections_one (suc k) ss s ∙ ap (λ (j : ℕ). sections_bytes (suc k) ss ++ section_bytes j s) z)
    ∙ sym (append_assoc (section_bytes k t) (sections_bytes (suc k) ss) _)

pub entries_at_one : (from : ℕ) (l : List Pair) (p : Pair)
    → entries_at from (l ++ (p ∷ [])) ≡ entries_at from l ++ (entry p.hash p.key (from + 16 * length l) ∷ [])
unfolding entries_at
entries_at_one from [] p = let z : from + 16 * 0 ≡ from = omega arith in rw z
entries_at_one from (q ∷ l) p =
    let n = pair-length q in
    let z : from + length (pair_bytes q) + 16 * length l ≡ from + 16 * suc (length l) = omega arith in
    ap (λ (x : List Entry). entry q.hash q.key from ∷ x)
    (entries_at_one (from + length (pair_bytes q)) l p
    ∙ ap (λ (j : ℕ). entries_at (from + length (pair_bytes q)) l ++ (entry p.hash p.key j ∷ [])) z)

pub entries_of_one : (k from : ℕ) (ss : List (List Pair)) (s : List Pair)
    → entries_of k from (ss ++ (s ∷ [])) ≡ entries_of k from ss ++ entries_at (from + length (sections_bytes k ss) + 3) s
unfolding entries_of sections_bytes
entries_of_one k from [] s =
    let n = header_length k (length s) in
    let z : from + length (header_bytes k (length s)) ≡ from + 0 + 3 = omega arith in
    append-nil _ ∙ ap (λ (j : ℕ). entries_at j s) z
entries_of_one k from (t ∷ ss) s =
    let n = length-append (section_bytes k t) (sections_bytes (suc k) ss) in
    let z : from + length (section_bytes k t) + length (sections_bytes (suc k) ss) + 3
    ≡ from + length (section_bytes k t ++ sections_bytes (suc k) ss) + 3 =
    omega arith in
    let first = entries_at (from + length (header_bytes k (length t))) t in
    ap (λ (x : List Entry). first ++ x)
    (entries_of_one (suc k) (from + length (section_bytes k t)) ss s
    ∙ ap (λ (j : ℕ). entries_of (suc k) (from + length (section_bytes k t)) ss ++ entries_at j s) z)
    ∙ sym (append_assoc first _ _)

pub entries_at-length : (from : ℕ) (l : List Pair) → length (entries_at from l) ≡ length l
unfolding entries_at
entries_at-length from [] = refl
entries_at-length from (p ∷ l) = ap suc (entries_at-length (from + length (pair_bytes p)) l)

pub entries_of_length : (k from : ℕ) (ss : List (List Pair)) → length (entries_of k from ss) ≡ pairs_in ss
unfolding entries_of pairs_in
entries_of_length k from [] = refl
entries_of_length k from (s ∷ ss) =
    let a = entries_at-length (from + length (header_bytes k (length s))) s in
    let b = entries_of_length (suc k) (from + length (section_bytes k s)) ss in
    length-append (entries_at (from + length (header_bytes k (length s))) s) _ ∙ omega arith

pub pairs_more : {l : List Pair} {p : Pair} → Pairs l → p.hash < 2 ^ 64 → p.key < 2 ^ 64 → Pairs (l ++ (p ∷ []))
pairs_more none h k = more h k none
pairs_more (more a b w) h k = more a b (pairs_more w h k)

pub sections_more : {ss : List (List Pair)} {s : List Pair} → Sections ss → Pairs s → length s < 2 ^ 16 → Sections (ss ++ (s ∷ []))
sections_more none h k = more h k none
sections_more (more a b w) h k = more a b (sections_more w h k)

pub put_all_one : (es : List Entry) (e : Entry) (l : List Entry) → put_all (es ++ (e ∷ [])) l ≡ put e (put_all es l)
unfolding put_all
put_all_one [] e l = refl
put_all_one (d ∷ es) e l = put_all_one es e (put d l)
