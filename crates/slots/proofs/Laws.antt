-- The laws of a read after a write. Words of one slot, and of two slots, lie apart, so one law over the width serves cells and names.
use mathlib.Core.Path.{◌≡◌, refl, ap, sym, ◌∙◌}
use mathlib.Core.Logic.{◌≢◌, ◌⊎◌, inl, inr}
use mathlib.Core.List.{List, [], ◌∷◌}
use mathlib.Core.Bool.{Bool, true, false, not, false≢true}
use Prim.Native.Nat.{ℕ, suc, zero, ◌+◌, ◌*◌, ◌<◌, ◌≤◌}
use native.Mathlib.Nat.{not-suc-le-zero, le_of_suc-le-suc, mul-le-mul_left, mul-suc}
use native.Mathlib.Decide.{ℕ_discrete, dec_lt}
use native.Mathlib.Omega.{arith}
use lib.ListN.{length, get_or, length-set, get_or-eq_default}
use lib.Seq.{get_or-set_same, get_or-set_other}
use lib.Dec.{eqb, ltb}
use borrow.Author.Tests.{leb-true, ltb-true, eqb-false, eq-eqb, ne_eqb}
use Rattle.slots.specs.Answers.{Answer, none, some, given, nothing}
use Rattle.slots.specs.Words.{pick, null, fields, word, store, cell, write, roomy, Side, leftward, rightward, other, toward, ◌and◌}

-- Which way a test goes.
pub pick_eq : {A : Type 0} {m n : ℕ} (a b : A) → m ≡ n → pick (eqb m n) a b ≡ a
pick_eq {A} {m} {n} a b e = ap (λ (t : Bool). pick t a b) (eq-eqb m n e)

pub pick_ne : {A : Type 0} {m n : ℕ} (a b : A) → m ≢ n → pick (eqb m n) a b ≡ b
pick_ne {A} {m} {n} a b e = ap (λ (t : Bool). pick t a b) (ne_eqb m n e)

-- A negated test in the model's words.
pub not_is : (t : Bool) → not t ≡ pick t false true
not_is true = refl
not_is false = refl

pub pick-not : {A : Type 0} (t : Bool) (x y : A) → pick (not t) x y ≡ pick t y x
pick-not true x y = refl
pick-not false x y = refl

-- Two ways meet behind `a && b` and behind `a || b`, with t as what it comes to. So it is one test with what follows it.
module _ {Y N : Type 0} {a b t s : Bool} (x : Bool) where
  pub and-next : Y ⊎ N → (Y → (a ≡ true) × (t ≡ b)) → (N → (a ≡ false) × (t ≡ a)) → s ≡ t and x → s ≡ a and b and x
  and-next (inl w) f g e = e ∙ rw ((f w).1, (f w).0)
  and-next (inr w) f g e = e ∙ rw ((g w).1, (g w).0)

  pub or_next : Y ⊎ N → (Y → (a ≡ true) × (t ≡ a)) → (N → (a ≡ false) × (t ≡ b)) → s ≡ pick t true x → s ≡ pick a true (pick b true x)
  or_next (inl w) f g e = e ∙ rw ((f w).1, (f w).0)
  or_next (inr w) f g e = e ∙ rw ((g w).1, (g w).0)

-- What holds where `a && b` was true.
pub and_held : {Y N : Type 0} {t : Bool} → t ≡ true → Y ⊎ N → (N → t ≡ false) → Y
and_held e (inl w) g = w
and_held e (inr w) g = absurd (false≢true (sym (g w) ∙ e))

-- Within the list the default does not matter.
pub get_d_any : (l : List ℕ) (i d e : ℕ) → i < length l → get_or l i d ≡ get_or l i e
get_d_any [] i d e h = absurd (not-suc-le-zero h)
get_d_any (x ∷ xs) zero d e h = refl
get_d_any (x ∷ xs) (suc i) d e h = get_d_any xs i d e (le_of_suc-le-suc h)

below : (w i j f g : ℕ) → f < w → i < j → w * i + f ≢ w * j + g
below w i j f g h l = omega (arith, mul-le-mul_left w l, mul-suc w i)

-- Words of different slots, or of different fields, are different words.
apart_slots : (w i j f g : ℕ) → f < w → g < w → i ≢ j → w * i + f ≢ w * j + g
apart_slots w i j f g hf hg d = go (dec_lt i j)
  where
    go : Dec (i < j) → w * i + f ≢ w * j + g
    go (yes l) = below w i j f g hf l
    go (no n) = λ e. below w j i g f hg (omega arith) (sym e)

apart_fields : (w i j f g : ℕ) → f < w → g < w → f ≢ g → w * i + f ≢ w * j + g
apart_fields w i j f g hf hg d = go (ℕ_discrete i j)
  where
    go : Dec (i ≡ j) → w * i + f ≢ w * j + g
    go (yes e) = let z : w * i ≡ w * j = cc in omega arith
    go (no n) = apart_slots w i j f g hf hg n

module _ (w d : ℕ) (l : List ℕ) where
  pub word_same : (i f v : ℕ) → roomy w l i ≡ true → ltb f w ≡ true → word w d (store w l i f v) i f ≡ v
  unfolding roomy
  word_same i f v r h = get_or-set_same l (w * i + f) v d (omega (arith, leb-true (w * i + w) (length l) r, ltb-true f w h))

  pub word_across : (i f v j g : ℕ) → eqb f g ≡ false → ltb f w ≡ true → ltb g w ≡ true → word w d (store w l i f v) j g ≡ word w d l j g
  word_across i f v j g e hf hg =
      get_or-set_other l (w * i + f) (w * j + g) v d
      (apart_fields w j i g f (ltb-true _ _ hg) (ltb-true _ _ hf) (λ z. eqb-false _ _ e (sym z)))

  pub word_else : (i f v j g : ℕ) → j ≢ i → ltb f w ≡ true → ltb g w ≡ true → word w d (store w l i f v) j g ≡ word w d l j g
  word_else i f v j g n hf hg = get_or-set_other l (w * i + f) (w * j + g) v d (apart_slots w j i g f (ltb-true _ _ hg) (ltb-true _ _ hf) n)

  pub word_out_lem : (i f : ℕ) → length l ≤ w * i + f → word w d l i f ≡ d
  word_out_lem i f h = get_or-eq_default l d h

pub length-store : (w : ℕ) (l : List ℕ) (i f v : ℕ) → length (store w l i f v) ≡ length l
length-store w l i f v = length-set l (w * i + f) v

pub roomy-store : (w : ℕ) (l : List ℕ) (i f v j : ℕ) → roomy w (store w l i f v) j ≡ roomy w l j
unfolding roomy
roomy-store w l i f v j = simp length-set

-- The same of cells, in the form that `simp` takes.
pub cell_same : (l : List ℕ) (i f v : ℕ) → roomy fields l i ≡ true → ltb f fields ≡ true → cell (write l i f v) i f ≡ v
unfolding cell write
cell_same l i f v r h = word_same fields null l i f v r h

pub cell_across : (l : List ℕ) (i f v j g : ℕ) → eqb f g ≡ false → ltb f fields ≡ true → ltb g fields ≡ true
    → cell (write l i f v) j g ≡ cell l j g
unfolding cell write
cell_across l i f v j g e hf hg = word_across fields null l i f v j g e hf hg

pub cell_else : (l : List ℕ) (i f v j g : ℕ) → j ≢ i → ltb f fields ≡ true → ltb g fields ≡ true → cell (write l i f v) j g ≡ cell l j g
unfolding cell write
cell_else l i f v j g n hf hg = word_else fields null l i f v j g n hf hg

pub roomy-write : (l : List ℕ) (i f v j : ℕ) → roomy fields (write l i f v) j ≡ roomy fields l j
unfolding write
roomy-write l i f v j = roomy-store fields l i f v j

pub length-write : (l : List ℕ) (i f v : ℕ) → length (write l i f v) ≡ length l
unfolding write
length-write l i f v = length-store fields l i f v

-- Where the words end before slot null, it has no word.
pub cell-null : (l : List ℕ) (f : ℕ) → length l ≤ 7 * null → cell l null f ≡ null
unfolding cell
cell-null l f h = word_out_lem fields null l null f (omega arith)

-- What the tests of the fields come to where the field is a side's.
pub toward-small : (σ : Side) → ltb (toward σ) fields ≡ true
toward-small leftward = refl
toward-small rightward = refl

pub toward-other : (σ : Side) → eqb (toward σ) (toward (other σ)) ≡ false
toward-other leftward = refl
toward-other rightward = refl

pub other-toward : (σ : Side) → eqb (toward (other σ)) (toward σ) ≡ false
other-toward leftward = refl
other-toward rightward = refl

-- What equal answers and equal values have in common; and what is not equal.
pub number : {a b : Answer} → a ≡ b → a.number ≡ b.number
number e = ap (λ (a : Answer). a.number) e

pub value : {a b : Answer} → a ≡ b → a.value ≡ b.value
value e = ap (λ (a : Answer). a.value) e

pub some_is : {a b : ℕ} → some a ≡ some b → a ≡ b
some_is e = cc

pub given_is : {a b : ℕ} → given a ≡ given b → a ≡ b
given_is e = some_is (value e)

pub none_some : {v : ℕ} → none ≡ some v → ⊥
none_some e = let z : ◌≡◌ {A = ℕ} 0 1 = cc in omega arith

pub nothing-given : {v : ℕ} → nothing ≡ given v → ⊥
nothing-given e = none_some (value e)

-- What can be read back is told apart.
pub told_apart : {A B : Type 0} (f : A → B) (back : B → A) → ((a : A) → back (f a) ≡ a) → (a b : A) → f a ≡ f b → a ≡ b
told_apart f back h a b e = sym (h a) ∙ ap back e ∙ h b
