-- The slots of the whole depend on the part in view only through its own slots, so a rotation keeps their order.
use mathlib.Core.Path.{◌≡◌, refl, ap, sym}
use mathlib.Core.List.{List, [], ◌∷◌, append_assoc}
use Prim.Native.Nat.{ℕ, ◌+◌}
use native.Mathlib.Omega.{arith}
use Rattle.slots.specs.Words.{Colour, Side, other, leftward, rightward}
use Rattle.tree_rules.specs.Tree.{times}
use Rattle.tree_rules.proofs.Counting.{times_append}
use Rattle.redblack.specs.Sided.{Sided, Way, plug, around, slots, hit, count, bare, fork, frame}

pub slots-plug : (C : Way) (t u : Sided) → slots t ≡ slots u → slots (plug C t) ≡ slots (plug C u)
unfolding slots plug
slots-plug [] t u e = e
slots-plug (frame σ c i b ∷ C) t u e = slots-plug C (fork σ c t i b) (fork σ c u i b) (ap (λ (l : List ℕ). around σ l i (slots b)) e)

-- The two names of one tree, and a rotation, list the same slots.
pub around_turn : (σ : Side) (x : List ℕ) (i : ℕ) (y : List ℕ) → around (other σ) y i x ≡ around σ x i y
around_turn leftward x i y = refl
around_turn rightward x i y = refl

pub around_spin : (σ : Side) (x : List ℕ) (p : ℕ) (y : List ℕ) (r : ℕ) (z : List ℕ)
    → around σ (around σ x p y) r z ≡ around σ x p (around σ y r z)
around_spin leftward x p y r z = append_assoc x (p ∷ y) (r ∷ z)
around_spin rightward x p y r z = sym (append_assoc z (r ∷ y) (p ∷ x))

pub slots_turn : (σ : Side) (C : Way) (c : Colour) (a : Sided) (i : ℕ) (b : Sided)
    → slots (plug C (fork (other σ) c b i a)) ≡ slots (plug C (fork σ c a i b))
unfolding slots
slots_turn σ C c a i b = slots-plug C (fork (other σ) c b i a) (fork σ c a i b) (around_turn σ (slots a) i (slots b))

-- A slot stands in a tree as often as among its slots: the same slots, the same counts.
times-around : (k : ℕ) (σ : Side) (x : List ℕ) (i : ℕ) (y : List ℕ) → times k (around σ x i y) ≡ hit k i + times k x + times k y
unfolding times hit
times-around k leftward x i y = omega (arith, times_append k x (i ∷ y))
times-around k rightward x i y = omega (arith, times_append k y (i ∷ x))

pub count-slots : (k : ℕ) (t : Sided) → times k (slots t) ≡ count k t
unfolding times hit slots count
count-slots k bare = refl
count-slots k (fork σ c a i b) = omega (arith, times-around k σ (slots a) i (slots b), count-slots k a, count-slots k b)
