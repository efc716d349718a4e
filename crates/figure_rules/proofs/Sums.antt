-- Sums over the first n numbers: they may be exchanged and cut in two, and pick out one number.
use mathlib.Core.Path.{◌≡◌, refl, ap, sym, ◌∙◌}
use mathlib.Core.Logic.{◌≢◌}
use mathlib.Core.Bool.{Bool, true, false}
use mathlib.Core.List.{List, [], ◌∷◌}
use Prim.Native.Nat.{ℕ, zero, suc, ◌+◌, ◌*◌, ◌<◌, ◌≤◌}
use native.Mathlib.Decide.{ℕ_discrete}
use native.Mathlib.Omega.{arith}
use native.Mathlib.Nat.{mul-zero, mul-one, mul_comm, mul-add, mul-suc, add-mul}
use lib.Dec.{eqb}
use Rattle.slots.specs.Words.{pick}
use Rattle.tree_rules.specs.Tree.{times}
use Rattle.tree_rules.specs.Chain.{tally}
use Rattle.tree_rules.proofs.Counting.{hit, hit_same, hit_other, times_head, times_rest, tally-zero, tally-add, tally_same}
use Rattle.figure_rules.specs.Added.{sum_over}

-- A number where a is b, and else 0.
pub hit-times : (v : ℕ) {a b : ℕ} → a ≡ b → v * hit a b ≡ v
hit-times v {a} {b} e = rw (hit_same {k = a} {i = b} e) (mul-one v)

pub hit_none : (v : ℕ) {a b : ℕ} → a ≢ b → v * hit a b ≡ 0
hit_none v {a} {b} d = rw (hit_other {k = a} {i = b} d) (mul-zero v)

pub hit_most : (a b : ℕ) → hit a b ≤ 1
hit_most a b = go (eqb a b)
  where
    go : (t : Bool) → pick t 1 0 ≤ 1
    go true = omega arith
    go false = omega arith

-- Where no number is above m.
pub tally_bound : (n m : ℕ) (f : ℕ → ℕ) → ((k : ℕ) → k < n → f k ≤ m) → tally n f ≤ m * n
unfolding tally
tally_bound zero m f h = omega arith
tally_bound (suc n) m f h = omega (arith, mul-suc m n, h n (omega arith), tally_bound n m f (λ k l. h k (omega arith)))

pub tally-at : (n : ℕ) (f : ℕ → ℕ) (i : ℕ) → i < n → tally n (λ k. f k * hit k i) ≡ f i
unfolding tally
tally-at zero f i l = absurd (omega arith)
tally-at (suc n) f i l = go (ℕ_discrete n i) (λ d. tally-at n f i (omega arith))
  where
    go : Dec (n ≡ i) → (n ≢ i → tally n (λ k. f k * hit k i) ≡ f i) → f n * hit n i + tally n (λ k. f k * hit k i) ≡ f i
    go (yes e) rest =
        omega (arith, hit-times (f n) e, ap f e, tally-zero n (λ k. f k * hit k i) (λ k b. hit_none (f k) {a = k} {b = i} (omega arith)))
    go (no d) rest = omega (arith, hit_none (f n) d, rest d)

pub tally_swap : (a b : ℕ) (f : ℕ → ℕ → ℕ) → tally a (λ i. tally b (λ x. f i x)) ≡ tally b (λ x. tally a (λ i. f i x))
unfolding tally
tally_swap zero b f = sym (tally-zero b (λ x. 0) (λ k l. refl))
tally_swap (suc a) b f =
    ap (λ (m : ℕ). tally b (λ x. f a x) + m) (tally_swap a b f) ∙ sym (tally-add b (λ x. f a x) (λ x. tally a (λ i. f i x)))

pub tally_split : (a b : ℕ) (f : ℕ → ℕ) → tally (a + b) f ≡ tally a f + tally b (λ i. f (a + i))
unfolding tally
tally_split a zero f = let e : a + 0 ≡ a = omega arith in rw e (omega arith)
tally_split a (suc b) f = let e : a + suc b ≡ suc (a + b) = omega arith in rw e (omega (arith, tally_split a b f))

pub tally_scaled : (n m : ℕ) (f : ℕ → ℕ) → tally n (λ k. m * f k) ≡ m * tally n f
unfolding tally
tally_scaled zero m f = sym (mul-zero m)
tally_scaled (suc n) m f = ap (λ (x : ℕ). m * f n + x) (tally_scaled n m f) ∙ sym (mul-add m (f n) (tally n f))

-- A sum over a list of numbers below n, by how often each stands in it.
pub tally_list : (n : ℕ) (f : ℕ → ℕ) (l : List ℕ) → ((k : ℕ) → 1 ≤ times k l → k < n) → tally n (λ k. times k l * f k) ≡ sum_over l f
unfolding sum_over
tally_list n f [] h = tally-zero n (λ k. times k [] * f k) (λ k b. unfold times in omega arith)
tally_list n f (i ∷ l) h =
    let inside : i < n = h i (omega (arith, times_head i l)) in
    let first = tally_same n (λ k. times k (i ∷ l) * f k) (λ k. f k * hit k i + times k l * f k) (λ k b. one k) in
    let rest = tally_list n f l (λ k m. h k (omega (arith, times_rest k i l))) in
    first ∙ omega (arith, tally-add n (λ k. f k * hit k i) (λ k. times k l * f k), tally-at n f i inside, rest)
  where
    one : (k : ℕ) → times k (i ∷ l) * f k ≡ f k * hit k i + times k l * f k
    one k =
        unfold times in add-mul (hit k i) (times k l) (f k) ∙ ap (λ (m : ℕ). m + times k l * f k) (mul_comm (hit k i) (f k))
