-- The bytes of a line from a place on, and which of them are digits.
use mathlib.Core.Path.{◌≡◌, refl}
use mathlib.Core.Bool.{true}
use mathlib.Core.List.{List, [], ◌∷◌}
use Prim.Native.Nat.{ℕ, zero, suc, ◌+◌, ◌<◌, ◌≤◌}
use native.Mathlib.Numerals.{add-one}
use native.Mathlib.Omega.{arith}
use lib.ListN.{length, drop, get_or}
use lib.Seq.{drop-cons}
use borrow.Author.Tests.{le-leb}
use Rattle.script_rules.specs.Text.{is_digit}

-- The bytes from a place on are the byte there and those after it; past the end there are none.
pub from : (l : List ℕ) (i : ℕ) → i < length l → drop i l ≡ get_or l i 0 ∷ drop (i + 1) l
from l i h = rw (add-one i) (drop-cons l i 0 h)

pub past : (l : List ℕ) (i : ℕ) → length l ≤ i → drop i l ≡ []
past [] zero h = refl
past [] (suc i) h = refl
past (b ∷ l) zero h = absurd (omega arith)
past (b ∷ l) (suc i) h = past l i (omega arith)

pub digit_in : (b : ℕ) → 48 ≤ b → b ≤ 57 → is_digit b ≡ true
digit_in b h g = simp (le-leb _ _ h, le-leb _ _ g)
