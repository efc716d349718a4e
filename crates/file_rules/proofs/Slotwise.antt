-- The 41 bytes of a slot, from between two slots, put its nine words in.
use mathlib.Core.Path.{◌≡◌, refl, ap, ◌∙◌, subst}
use mathlib.Core.List.{List, ◌++◌}
use Prim.Native.Nat.{ℕ, suc, ◌+◌, ◌*◌, ◌^◌, ◌<◌}
use native.Mathlib.Omega.{arith}
use lib.ListN.{get_or, set}
use Rattle.endian.specs.Bytes.{little}
use Rattle.set_rules.specs.Words.{Set, lent_set}
use Rattle.file_rules.specs.Layout.{Field, slot_width, slot_field, field_of, section_words, put_field}
use Rattle.file_rules.specs.Loader.{Loader}
use Rattle.file_rules.specs.Loading.{Loading, loading, after_words, bytes_loaded}
use Rattle.file_rules.proofs.Spelling.{slot_word}
use Rattle.file_rules.proofs.Bringing.{bytes_loaded_append, between_words, run_field, after_more}

-- One part of the bytes and then the next.
record RunsTo (d : Loading) (l : List ℕ) (e : Loading) : Type 0 where
  is : bytes_loaded d l ≡ e

set_runs : {d e : Loading} {l : List ℕ} → bytes_loaded d l ≡ e → RunsTo d l e
set_runs a = record { is = a }

behind : {d e f : Loading} {l m : List ℕ} → RunsTo d l e → RunsTo e m f → RunsTo d (l ++ m) f
behind {d} {l = l} {m} a b = record { is = bytes_loaded_append d l m ∙ ap (λ (x : Loading). bytes_loaded x m) a.is ∙ b.is }

module _ (i : ℕ) (cs : List ℕ) (owed : i < get_or cs 3 0) where
  last_word : (f : ℕ) (t : Set) (v : ℕ) {fld : Field} → field_of 3 (9 * i + f) ≡ fld → v < 256 ^ fld.width
      → bytes_loaded (loading (between_words 3 (suc (9 * i + f)) cs) t) (little fld.width v)
      ≡ loading (after_words (between_words 3 0 cs) (suc (suc (9 * i + f)))) (put_field t fld v)
  last_word f t v {fld} e l =
      subst
      (λ (x : Field). v < 256 ^ x.width
      → bytes_loaded (loading (between_words 3 (suc (9 * i + f)) cs) t) (little x.width v)
      ≡ loading (after_words (between_words 3 0 cs) (suc (suc (9 * i + f)))) (put_field t x v))
      e (λ m. run_field 3 (9 * i + f) cs t v (omega arith) m) l

  next_word : (f : ℕ) (t : Set) (v : ℕ) {fld : Field} → field_of 3 (9 * i + f) ≡ fld → v < 256 ^ fld.width → f < 8
      → bytes_loaded (loading (between_words 3 (suc (9 * i + f)) cs) t) (little fld.width v)
      ≡ loading (between_words 3 (suc (9 * i + suc f)) cs) (put_field t fld v)
  unfolding section_words
  next_word f t v {fld} e l m =
      let z : suc (suc (9 * i + f)) ≡ suc (9 * i + suc f) = omega arith in
      last_word f t v e l
      ∙ ap (λ (r : Loader). loading r (put_field t fld v)) (after_more 3 (suc (suc (9 * i + f))) cs (omega arith))
      ∙ ap (λ (k : ℕ). loading (between_words 3 k cs) (put_field t fld v)) z

  pub slot_run : (lengths bins heads names cells : List ℕ) (h k p s a b c d e : ℕ) → h < 256 ^ 8 → k < 256 ^ 8 → p < 256 ^ 4 → s < 256 ^ 1
      → a < 256 ^ 4 → b < 256 ^ 4 → c < 256 ^ 4 → d < 256 ^ 4 → e < 256 ^ 4
      → bytes_loaded (loading (between_words 3 (suc (9 * i)) cs) (lent_set lengths bins heads names cells))
      (little 8 h ++ (little 8 k
      ++ (little 4 p ++ (little 1 s ++ (little 4 a ++ (little 4 b ++ (little 4 c ++ (little 4 d ++ little 4 e))))))))
      ≡ loading (after_words (between_words 3 0 cs) (suc (9 * i + 9)))
      (lent_set lengths bins heads (set (set names (2 * i + 0) h) (2 * i + 1) k)
      (set (set (set (set (set (set (set cells (7 * i + 0) p) (7 * i + 1) s) (7 * i + 2) a) (7 * i + 3) b) (7 * i + 4) c) (7 * i + 5) d)
      (7 * i + 6) e))
  unfolding slot_field slot_width
  slot_run lengths bins heads names cells h k p s a b c d e lh lk lp ls la lb lc ld le =
      let w : (f : ℕ) → f < 9 → field_of 3 (9 * i + f) ≡ slot_field i f = λ f l. slot_word i f (9 * i + f) refl l in
      let t : List ℕ → List ℕ → Set = λ n m. lent_set lengths bins heads n m in
      let n1 = set names (2 * i + 0) h in
      let n2 = set n1 (2 * i + 1) k in
      let c0 = set cells (7 * i + 0) p in
      let c1 = set c0 (7 * i + 1) s in
      let c2 = set c1 (7 * i + 2) a in
      let c3 = set c2 (7 * i + 3) b in
      let c4 = set c3 (7 * i + 4) c in
      let c5 = set c4 (7 * i + 5) d in
      let bytes : List ℕ =
      little 8 h ++ (little 8 k
      ++ (little 4 p ++ (little 1 s ++ (little 4 a ++ (little 4 b ++ (little 4 c ++ (little 4 d ++ little 4 e))))))) in
      let z : suc (9 * i) ≡ suc (9 * i + 0) = omega arith in
      let y : suc (suc (9 * i + 8)) ≡ suc (9 * i + 9) = omega arith in
      ap (λ (f : ℕ). bytes_loaded (loading (between_words 3 f cs) (t names cells)) bytes) z
      ∙ (behind (set_runs (next_word 0 (t names cells) h (w 0 (omega arith)) lh (omega arith)))
      (behind (set_runs (next_word 1 (t n1 cells) k (w 1 (omega arith)) lk (omega arith)))
      (behind (set_runs (next_word 2 (t n2 cells) p (w 2 (omega arith)) lp (omega arith)))
      (behind (set_runs (next_word 3 (t n2 c0) s (w 3 (omega arith)) ls (omega arith)))
      (behind (set_runs (next_word 4 (t n2 c1) a (w 4 (omega arith)) la (omega arith)))
      (behind (set_runs (next_word 5 (t n2 c2) b (w 5 (omega arith)) lb (omega arith)))
      (behind (set_runs (next_word 6 (t n2 c3) c (w 6 (omega arith)) lc (omega arith)))
      (behind (set_runs (next_word 7 (t n2 c4) d (w 7 (omega arith)) ld (omega arith)))
      (set_runs (last_word 8 (t n2 c5) e (w 8 (omega arith)) le)))))))))).is
      ∙ ap (λ (f : ℕ). loading (after_words (between_words 3 0 cs) f) (t n2 (set c5 (7 * i + 6) e))) y
