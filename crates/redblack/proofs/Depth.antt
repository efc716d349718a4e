-- Each slot of a way is one of the n and stands once, so a way is shorter than n: the capacity is budget enough for every loop.
use mathlib.Core.Path.{◌≡◌}
use mathlib.Core.Logic.{◌≢◌}
use Prim.Native.Nat.{ℕ, suc, zero, ◌+◌, ◌<◌, ◌≤◌}
use native.Mathlib.Omega.{arith}
use native.Mathlib.Decide.{ℕ_discrete}
use lib.ListN.{length}
use Rattle.slots.specs.Words.{Colour, Side}
use Rattle.redblack.specs.Links.{Links}
use Rattle.redblack.specs.Sided.{Sided, Way, hit, count, count_way, Leads, Site, fork, home, via}
use Rattle.redblack.proofs.Frames.{hit_same, cell_of}

-- The sum of f below n.
total : ℕ → (ℕ → ℕ) → ℕ
total zero f = 0
total (suc n) f = f n + total n f

total_most : (n : ℕ) (f : ℕ → ℕ) → ((k : ℕ) → f k ≤ 1) → total n f ≤ n
unfolding total
total_most zero f h = omega arith
total_most (suc n) f h = omega (arith, h n, total_most n f h)

total_at_lem : (n i : ℕ) (f : ℕ → ℕ) → i < n → f i ≤ total n f
unfolding total
total_at_lem zero i f l = absurd (omega arith)
total_at_lem (suc n) i f l = go (ℕ_discrete i n) (λ d. total_at_lem n i f (omega arith))
  where
    go : Dec (i ≡ n) → (i ≢ n → f i ≤ total n f) → f i ≤ f n + total n f
    go (yes e) k = let z : f i ≡ f n = cc in omega arith
    go (no d) k = omega (arith, k d)

total_add : (n : ℕ) (f g h : ℕ → ℕ) → ((k : ℕ) → f k + g k ≤ h k) → total n f + total n g ≤ total n h
unfolding total
total_add zero f g h e = omega arith
total_add (suc n) f g h e = omega (arith, e n, total_add n f g h e)

-- Each slot of the way counts.
way_total : {n : ℕ} {s : Links} {x : ℕ} {C : Way} → Leads n s x C → length C ≤ total n (λ (k : ℕ). count_way k C)
unfolding count_way
way_total (home e) = omega arith
way_total {n} (via {i = i} {b = b} {C = C} k y w) =
    omega (
      arith,
      way_total w,
      total_at_lem n i (λ (j : ℕ). hit j i) k.inside,
      hit_same i,
      total_add n (λ (j : ℕ). hit j i) (λ (j : ℕ). count_way j C) (λ (j : ℕ). hit j i + count j b + count_way j C) (λ j. omega arith),
    )

-- The way to a slot is shorter than the number of slots.
pub depth : {n : ℕ} {s : Links} {C : Way} {σ : Side} {c : Colour} {a b : Sided} {x : ℕ} → Site n s C (fork σ c a x b) → length C < n
unfolding count
depth {n} {C = C} {a = a} {b} {x} h =
    omega (
      arith,
      way_total h.way,
      total_at_lem n x (λ (j : ℕ). hit j x) (cell_of h.tree).inside,
      hit_same x,
      total_add n (λ (j : ℕ). hit j x) (λ (j : ℕ). count_way j C) (λ (j : ℕ). count_way j C + (hit j x + count j a + count j b))
          (λ j. omega arith),
      total_most n (λ (j : ℕ). count_way j C + (hit j x + count j a + count j b)) h.once,
    )
