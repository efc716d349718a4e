-- Bytes shifted in one after another are the number whose bytes they are.
use mathlib.Core.Path.{◌≡◌, refl}
use mathlib.Core.List.{List, [], ◌∷◌, ◌++◌}
use Prim.Native.Nat.{ℕ, ◌+◌, ◌*◌, ◌^◌, ◌<◌}
use native.Mathlib.Omega.{arith}
use lib.ListN.{length}
use Rattle.endian.specs.Bytes.{number_of}
use Rattle.upload_rules.specs.Reading.{count_byte, name_byte}

-- The count's low byte comes first.
pub count_two : (lo hi : ℕ) → lo < 256 → hi < 256 → count_byte (count_byte 0 lo) hi ≡ lo + 256 * hi
unfolding count_byte
count_two lo hi l h = omega arith

-- Bytes of a hash or a key, one after another.
unfoldable pub gathered : ℕ → List ℕ → ℕ
gathered x [] = x
gathered x (b ∷ l) = gathered (name_byte x b) l

pub gathered_one : (x : ℕ) (l : List ℕ) (b : ℕ) → gathered x (l ++ (b ∷ [])) ≡ name_byte (gathered x l) b
unfolding gathered
gathered_one x [] b = refl
gathered_one x (c ∷ l) b = gathered_one (name_byte x c) l b

eight : (a b c d e f g h : ℕ)
    → gathered 0 (a ∷ (b ∷ (c ∷ (d ∷ (e ∷ (f ∷ (g ∷ (h ∷ [])))))))) ≡ number_of (a ∷ (b ∷ (c ∷ (d ∷ (e ∷ (f ∷ (g ∷ (h ∷ []))))))))
unfolding gathered name_byte number_of
eight a b c d e f g h =
    let x1 : name_byte 0 a ≡ 256 ^ 7 * a = omega arith in
    let x2 : name_byte (name_byte 0 a) b ≡ 256 ^ 6 * (a + 256 * b) = rw x1 (omega arith) in
    let x3 : name_byte (name_byte (name_byte 0 a) b) c ≡ 256 ^ 5 * (a + 256 * (b + 256 * c)) = rw x2 (omega arith) in
    let x4 : name_byte (name_byte (name_byte (name_byte 0 a) b) c) d ≡ 256 ^ 4 * (a + 256 * (b + 256 * (c + 256 * d))) =
    rw x3 (omega arith) in
    let x5 : name_byte (name_byte (name_byte (name_byte (name_byte 0 a) b) c) d) e
    ≡ 256 ^ 3 * (a + 256 * (b + 256 * (c + 256 * (d + 256 * e)))) =
    rw x4 (omega arith) in
    rw x5 (omega arith)

pub gathered_number : (l : List ℕ) → length l ≡ 8 → gathered 0 l ≡ number_of l
gathered_number [] z = absurd (omega arith)
gathered_number (a ∷ []) z = absurd (omega arith)
gathered_number (a ∷ (b ∷ [])) z = absurd (omega arith)
gathered_number (a ∷ (b ∷ (c ∷ []))) z = absurd (omega arith)
gathered_number (a ∷ (b ∷ (c ∷ (d ∷ [])))) z = absurd (omega arith)
gathered_number (a ∷ (b ∷ (c ∷ (d ∷ (e ∷ []))))) z = absurd (omega arith)
gathered_number (a ∷ (b ∷ (c ∷ (d ∷ (e ∷ (f ∷ [])))))) z = absurd (omega arith)
gathered_number (a ∷ (b ∷ (c ∷ (d ∷ (e ∷ (f ∷ (g ∷ []))))))) z = absurd (omega arith)
gathered_number (a ∷ (b ∷ (c ∷ (d ∷ (e ∷ (f ∷ (g ∷ (h ∷ [])))))))) z = eight a b c d e f g h
gathered_number (a ∷ (b ∷ (c ∷ (d ∷ (e ∷ (f ∷ (g ∷ (h ∷ (i ∷ l))))))))) z = absurd (omega arith)
