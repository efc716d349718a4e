-- Counting slots: a list of slots below n has as many members as its counts over the first n slots add up to.
use Rattle.std.proofs.Common.{◌≡◌, ℕ, zero, suc, ◌+◌, ◌<◌, ◌≤◌, eqb, ◌≢◌, List, [], ◌∷◌, ◌++◌, length, sym, refl, ◌∙◌, arith}
use native.Mathlib.Decide.{ℕ_discrete, dec_le}
use Rattle.slots.specs.Words.{pick}
use Rattle.slots.proofs.Laws.{pick_eq, pick_ne}
use Rattle.tree_rules.specs.Tree.{times}
use Rattle.tree_rules.specs.Chain.{tally}

-- Whether k is i, as a number.
abbrev pub hit : ℕ → ℕ → ℕ
hit k i = pick (eqb k i) 1 0

pub hit_same : {k i : ℕ} → k ≡ i → hit k i ≡ 1
hit_same e = pick_eq 1 0 e

pub hit_other : {k i : ℕ} → k ≢ i → hit k i ≡ 0
hit_other d = pick_ne 1 0 d

pub times_append : (k : ℕ) (a b : List ℕ) → times k (a ++ b) ≡ times k a + times k b
unfolding times
times_append k [] b = omega arith
times_append k (i ∷ a) b = omega (arith, times_append k a b)

pub times_head : (i : ℕ) (l : List ℕ) → times i (i ∷ l) ≡ 1 + times i l
unfolding times
times_head i l = omega (arith, hit_same {k = i} refl)

pub times_else : (k i : ℕ) (l : List ℕ) → k ≢ i → times k (i ∷ l) ≡ times k l
unfolding times
times_else k i l d = omega (arith, hit_other {k = k} d)

pub times_rest : (k i : ℕ) (l : List ℕ) → times k l ≤ times k (i ∷ l)
unfolding times
times_rest k i l = omega arith

-- A member is the first or one of the rest; of a list around i, it is before i, i, or after it.
pub times_cases : {A : Type 0} (k i : ℕ) (l : List ℕ) → 1 ≤ times k (i ∷ l) → (k ≡ i → A) → (1 ≤ times k l → A) → A
times_cases {A} k i l h first rest = go (ℕ_discrete k i)
  where
    go : Dec (k ≡ i) → A
    go (yes e) = first e
    go (no d) = rest (omega (arith, times_else k i l d))

pub times-around : {A : Type 0} (k : ℕ) (a : List ℕ) (i : ℕ) (b : List ℕ) → 1 ≤ times k (a ++ (i ∷ b)) → (1 ≤ times k a → A) → (k ≡ i → A)
    → (1 ≤ times k b → A) → A
times-around {A} k a i b h before at after = go (dec_le 1 (times k a))
  where
    go : Dec (1 ≤ times k a) → A
    go (yes y) = before y
    go (no d) = times_cases k i b (omega (arith, times_append k a (i ∷ b))) at after

-- What the first n slots add up to goes by each of them.
pub tally-zero : (n : ℕ) (f : ℕ → ℕ) → ((k : ℕ) → k < n → f k ≡ 0) → tally n f ≡ 0
unfolding tally
tally-zero zero f h = refl
tally-zero (suc n) f h = omega (arith, h n (omega arith), tally-zero n f (λ k l. h k (omega arith)))

pub tally-add : (n : ℕ) (f g : ℕ → ℕ) → tally n (λ k. f k + g k) ≡ tally n f + tally n g
unfolding tally
tally-add zero f g = omega arith
tally-add (suc n) f g = omega (arith, tally-add n f g)

tally-hit : (n i : ℕ) → i < n → tally n (λ k. hit k i) ≡ 1
unfolding tally
tally-hit zero i l = absurd (omega arith)
tally-hit (suc n) i l = go (ℕ_discrete n i) (λ d. tally-hit n i (omega arith))
  where
    go : Dec (n ≡ i) → (n ≢ i → tally n (λ k. hit k i) ≡ 1) → hit n i + tally n (λ k. hit k i) ≡ 1
    go (yes e) rest = omega (arith, hit_same {k = n} e, tally-zero n (λ k. hit k i) (λ k b. hit_other {k = k} {i = i} (omega arith)))
    go (no d) rest = omega (arith, hit_other {k = n} d, rest d)

pub tally_same : (n : ℕ) (f g : ℕ → ℕ) → ((k : ℕ) → k < n → f k ≡ g k) → tally n f ≡ tally n g
unfolding tally
tally_same zero f g h = refl
tally_same (suc n) f g h = omega (arith, h n (omega arith), tally_same n f g (λ k l. h k (omega arith)))

pub tally_most : (n : ℕ) (f g : ℕ → ℕ) → ((k : ℕ) → k < n → f k ≤ g k) → tally n f ≤ tally n g
unfolding tally
tally_most zero f g h = omega arith
tally_most (suc n) f g h = omega (arith, h n (omega arith), tally_most n f g (λ k l. h k (omega arith)))

tally_ones : (n : ℕ) (f : ℕ → ℕ) → ((k : ℕ) → f k ≤ 1) → tally n f ≤ n
unfolding tally
tally_ones zero f h = omega arith
tally_ones (suc n) f h = omega (arith, h n, tally_ones n f h)

-- Where one is nowhere more than the other and they add up to the same, they are the same.
tally_tight : (n : ℕ) (f g : ℕ → ℕ) → ((k : ℕ) → k < n → f k ≤ g k) → tally n f ≡ tally n g → (k : ℕ) → k < n → f k ≡ g k
unfolding tally
tally_tight zero f g h e k l = absurd (omega arith)
tally_tight (suc n) f g h e k l =
    go (ℕ_discrete k n) (λ d. tally_tight n f g (λ j b. h j (omega arith)) (omega (arith, below, h n (omega arith))) k (omega arith))
  where
    below : tally n f ≤ tally n g
    below = tally_most n f g (λ j b. h j (omega arith))

    go : Dec (k ≡ n) → (k ≢ n → f k ≡ g k) → f k ≡ g k
    go (yes z) rest = let a : f k ≡ f n = cc in let b : g k ≡ g n = cc in omega (arith, below, h n (omega arith))
    go (no d) rest = rest d

pub tally-times : (n : ℕ) (l : List ℕ) → ((k : ℕ) → 1 ≤ times k l → k < n) → tally n (λ k. times k l) ≡ length l
unfolding times
tally-times n [] h = tally-zero n (λ k. 0) (λ k b. refl)
tally-times n (i ∷ l) h =
    tally-add n (λ k. hit k i) (λ k. times k l)
    ∙ omega (arith, tally-hit n i (h i (omega (arith, hit_same {k = i} refl))), tally-times n l (λ k b. h k (omega arith)))

module _ (n : ℕ) (l : List ℕ) (inside : (k : ℕ) → 1 ≤ times k l → k < n) where
  -- No more slots than there are, each once.
  pub length_most : ((k : ℕ) → times k l ≤ 1) → length l ≤ n
  length_most once = omega (arith, tally-times n l inside, tally_ones n (λ k. times k l) once)

  -- Marked slots, each member one of them, and as many: the members are the marked slots.
  pub exactly : (u : ℕ → ℕ) → ((k : ℕ) → times k l ≤ 1) → ((k : ℕ) → 1 ≤ times k l → u k ≡ 1) → length l ≡ tally n u → (k : ℕ) → k < n
      → u k ≡ times k l
  exactly u once marked e k b = sym (tally_tight n (λ j. times j l) u least (tally-times n l inside ∙ e) k b)
    where
      least : (j : ℕ) → j < n → times j l ≤ u j
      least j b = go (ℕ_discrete (times j l) 0)
        where
          go : Dec (times j l ≡ 0) → times j l ≤ u j
          go (yes z) = omega arith
          go (no d) = omega (arith, once j, marked j (omega arith))

  pub exactly_length : (u : ℕ → ℕ) → ((k : ℕ) → k < n → u k ≡ times k l) → length l ≡ tally n u
  exactly_length u same = sym (tally-times n l inside) ∙ tally_same n (λ k. times k l) u (λ k b. sym (same k b))
