-- The chain of a tree: the slots from first by next, prev its reverse.
use Rattle.std.specs.Prelude.{◌≡◌, ℕ, zero, suc, ◌+◌, ◌<◌, List, [], ◌∷◌, ◌==◌, nat_lt}
use Rattle.slots.specs.Words.{null, pick, prev, next, cell}
use Rattle.slots.specs.Answers.{Value, none, some}

-- From the link i, after the slot q, next visits these slots, and prev leads back.
pub data Chain (n : ℕ) (cells : List ℕ) : ℕ → ℕ → List ℕ → Type 0 where
  ended : {q i : ℕ} → i ≡ null → Chain n cells q i []
  linked : {q i : ℕ} {l : List ℕ} → i < n → cell cells i prev ≡ q → Chain n cells i (cell cells i next) l → Chain n cells q i (i ∷ l)

-- The walk along it with v visits left: the visits left after it, or none where it goes wrong.
unfoldable pub chained : ℕ → ℕ → List ℕ → ℕ → ℕ → Value
chained zero n cells q i = pick (i == null) (some 0) none
chained (suc v) n cells q i =
    pick (i == null) (some (suc v))
    (pick (nat_lt i n) (pick (cell cells i prev == q) (chained v n cells i (cell cells i next)) none) none)

-- The sum of a number over the first n slots.
unfoldable pub tally : ℕ → (ℕ → ℕ) → ℕ
tally zero f = 0
tally (suc n) f = f n + tally n f
