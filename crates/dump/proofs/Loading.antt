-- One slice after another is filled, and the next begins where it ends.
use mathlib.Core.Path.{◌≡◌, ap, ◌∙◌}
use mathlib.Core.List.{List}
use Prim.Native.Nat.{ℕ, ◌*◌}
use lib.ListN.{length, drop}
use Rattle.endian.specs.Bytes.{words_in}
use Rattle.endian.proofs.Reading.{words_length}
use Rattle.index_rules.specs.Index.{lent}
use Rattle.dump_rules.specs.Dump.{loaded_as}

-- The bytes behind the words that were read: their number is that of the slice.
behind : (k m : ℕ) (l : List ℕ) {words rest : List ℕ} → words ≡ words_in k l 0 m → rest ≡ drop (k * length words) l → rest ≡ drop (k * m) l
behind k m l e f = f ∙ ap (λ n. drop (k * n) l) (ap length e ∙ words_length k l 0 m)

module _ (l : List ℕ) (names cells head sizes lines : ℕ) {body behindNames behindCells behindHead behindSizes : List ℕ}
    {n c h s j : List ℕ} where
  pub loads : body ≡ drop 8 l → n ≡ words_in 8 body 0 names → behindNames ≡ drop (8 * length n) body
      → c ≡ words_in 4 behindNames 0 cells → behindCells ≡ drop (4 * length c) behindNames
      → h ≡ words_in 4 behindCells 0 head → behindHead ≡ drop (4 * length h) behindCells
      → s ≡ words_in 4 behindHead 0 sizes → behindSizes ≡ drop (4 * length s) behindHead
      → j ≡ words_in 8 behindSizes 0 lines → lent n c h s j ≡ loaded_as names cells head sizes lines (drop 8 l)
  unfolding loaded_as
  loads e0 e1 e2 e3 e4 e5 e6 e7 e8 e9 =
      let f2 = behind 8 names body e1 e2 in
      let f4 = behind 4 cells behindNames e3 e4 in
      let f6 = behind 4 head behindCells e5 e6 in
      let f8 = behind 4 sizes behindHead e7 e8 in
      rw (e1, e3, e5, e7, e9, f8, f6, f4, f2, e0)
