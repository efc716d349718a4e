-- Words that are compared one by one are the same exactly if each is.
use mathlib.Core.Path.{◌≡◌, refl, ap, sym, ◌∙◌}
use mathlib.Core.Logic.{◌↔◌}
use mathlib.Core.Bool.{Bool, true, false, ◌&&◌, false≢true}
use mathlib.Core.List.{List, [], ◌∷◌}
use Prim.Native.Nat.{ℕ}
use lib.Dec.{eqb}
use Rattle.std.specs.Cmp.Lexicographic.{pointwise}
use Rattle.slots.specs.Words.{◌and◌}
use borrow.Author.Tests.{eqb-true, eq-eqb}
use Rattle.index_rules.specs.Index.{Index, lent}
use Rattle.index_rules.proofs.Fit.{both}
use Rattle.trials.specs.Comparing.{same_words, same_index}

yes_same : (a b : List ℕ) → same_words a b ≡ true → a ≡ b
unfolding same_words
yes_same [] [] e = refl
yes_same [] (y ∷ b) e = absurd (false≢true e)
yes_same (x ∷ a) [] e = absurd (false≢true e)
yes_same (x ∷ a) (y ∷ b) e =
    let t = both (eqb x y) (same_words a b) e in
    let here = eqb-true x y t.0 in
    let rest = yes_same a b t.1 in
    cc

same_self : (a : List ℕ) → same_words a a ≡ true
unfolding same_words
same_self [] = refl
same_self (x ∷ a) = rw (eq-eqb x x refl) (same_self a)

pub same_words_lem : (a b : List ℕ) → (same_words a b ≡ true) ↔ (a ≡ b)
same_words_lem a b = (yes_same a b, λ e. ap (same_words a) (sym e) ∙ same_self a)

-- The five slices one after another.
module _ (a b : Index) where
  yes_index : same_index a b ≡ true → a ≡ b
  unfolding same_index
  yes_index e =
      let t = both (same_words a.live.names b.live.names) _ e in
      let u = both (same_words a.live.cells b.live.cells) _ t.1 in
      let v = both (same_words a.live.head b.live.head) _ u.1 in
      let w = both (same_words a.live.sizes b.live.sizes) _ v.1 in
      let n = yes_same a.live.names b.live.names t.0 in
      let c = yes_same a.live.cells b.live.cells u.0 in
      let h = yes_same a.live.head b.live.head v.0 in
      let s = yes_same a.live.sizes b.live.sizes w.0 in
      let l = yes_same a.lines b.lines w.1 in
      let all : lent a.live.names a.live.cells a.live.head a.live.sizes a.lines
      ≡ lent b.live.names b.live.cells b.live.head b.live.sizes b.lines =
      rw (n, c, h, s, l) in
      all

index_self : (a : Index) → same_index a a ≡ true
unfolding same_index
index_self a =
    rw (same_self a.live.names, same_self a.live.cells, same_self a.live.head, same_self a.live.sizes)
    (same_self a.lines)

pub same_indexes : (a b : Index) → (same_index a b ≡ true) ↔ (a ≡ b)
same_indexes a b = (yes_index a b, λ e. ap (same_index a) (sym e) ∙ index_self a)

-- What `==` says of two slices.
pub same_pointwise : (a b : List ℕ) → pointwise eqb a b ≡ same_words a b
unfolding same_words
same_pointwise [] [] = refl
same_pointwise [] (y ∷ b) = refl
same_pointwise (x ∷ a) [] = refl
same_pointwise (x ∷ a) (y ∷ b) = rw (same_pointwise a b) (go (eqb x y))
  where
    go : (t : Bool) → (t && same_words a b) ≡ (t and same_words a b)
    go true = refl
    go false = refl
