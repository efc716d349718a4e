-- "A pair is (hash, key); pairs are ordered by hash, then key, both unsigned."
use Rattle.std.specs.Prelude.{◌≡◌, Bool, true, false, ◌⊎◌, List, ℕ, ◌<◌, ltb}
use Rattle.slots.specs.Words.{pick, hash_part, key_part, name_of}

pub record Pair : Type 0 where
  pub hash : ℕ
  pub key : ℕ

abbrev pub pair : ℕ → ℕ → Pair
pair h k = record { hash = h; key = k }

-- The pair of slot i.
abbrev pub pair_of : List ℕ → ℕ → Pair
pair_of names i = pair (name_of names i hash_part) (name_of names i key_part)

unfoldable pub Less : Pair → Pair → Type 0
Less p q = (p.hash < q.hash) ⊎ ((p.hash ≡ q.hash) × (p.key < q.key))

-- The test of it: whether the pair (hash, key) comes before (at, own).
abbrev pub before : ℕ → ℕ → ℕ → ℕ → Bool
before hash key at own = pick (ltb hash at) true (pick (ltb at hash) false (ltb key own))
