-- The bytes of a number: one byte more on top is one more at the end.
use mathlib.Core.Path.{◌≡◌, ap}
use mathlib.Core.List.{List, [], ◌∷◌, ◌++◌}
use Prim.Native.Nat.{ℕ, zero, suc, ◌+◌, ◌*◌, ◌/◌, ◌%◌, ◌^◌, ◌<◌}
use native.Mathlib.Nat.{pow-succ', mul_assoc}
use native.Mathlib.Omega.{arith}
use Rattle.endian.specs.Bytes.{little}

pub power_more : (k b : ℕ) → 256 ^ suc k * b ≡ 256 * (256 ^ k * b)
power_more k b = rw (pow-succ' 256 k, mul_assoc 256 (256 ^ k) b)

pub little_snoc : (k p b : ℕ) → p < 256 ^ k → b < 256 → little (suc k) (p + 256 ^ k * b) ≡ little k p ++ (b ∷ [])
unfolding little
little_snoc zero p b h l = let a : (p + 256 ^ zero * b) % 256 ≡ b = omega arith in rw a
little_snoc (suc k) p b h l =
    let e = power_more k b in
    let a : (p + 256 ^ suc k * b) % 256 ≡ p % 256 = omega arith in
    let d : (p + 256 ^ suc k * b) / 256 ≡ p / 256 + 256 ^ k * b = omega arith in
    rw (a, d) (ap (λ (x : List ℕ). (p % 256) ∷ x) (little_snoc k (p / 256) b (omega arith) l))

pub small-more : (k p b : ℕ) → p < 256 ^ k → b < 256 → p + 256 ^ k * b < 256 ^ suc k
small-more zero p b h l = omega arith
small-more (suc k) p b h l =
    let e = power_more k b in
    let a = small-more k (p / 256) b (omega arith) l in
    omega arith
