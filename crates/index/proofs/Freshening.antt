-- One slot cleared more is one turn of the model's clearing.
use mathlib.Core.Path.{◌≡◌, refl}
use mathlib.Core.List.{List}
use Prim.Native.Nat.{ℕ, zero, suc, ◌-◌, ◌<◌, ◌≤◌}
use native.Mathlib.Numerals.{sub-one}
use native.Mathlib.Omega.{arith}
use lib.ListN.{set}
use Rattle.slots.specs.Words.{rename, hash_part, key_part}
use Rattle.index_rules.specs.Live.{lent_tree}
use Rattle.index_rules.specs.Remove.{wiped}
use Rattle.index_rules.specs.Fresh.{bared}

module _ (names cells head sizes : List ℕ) (k : ℕ) where
  pub bare_on : {names' cells' sizes' : List ℕ} → 0 < k → names' ≡ rename (rename names (k - 1) hash_part 0) (k - 1) key_part 0
      → cells' ≡ wiped cells (k - 1)
      → sizes' ≡ set sizes (k - 1) 0 → bared (k - 1) (lent_tree names' cells' head sizes') ≡ bared k (lent_tree names cells head sizes)
  unfolding bared
  bare_on {names'} {cells'} {sizes'} h e f d = go k h e f d
    where
      go : (k : ℕ) → 0 < k → names' ≡ rename (rename names (k - 1) hash_part 0) (k - 1) key_part 0 → cells' ≡ wiped cells (k - 1)
          → sizes' ≡ set sizes (k - 1) 0 → bared (k - 1) (lent_tree names' cells' head sizes') ≡ bared k (lent_tree names cells head sizes)
      go zero h e f d = absurd (omega arith)
      go (suc k) h e f d = let g = rw sub-one at e in let i = rw sub-one at f in let j = rw sub-one at d in rw (sub-one, g, i, j)

  pub bare_end : k ≤ 0 → lent_tree names cells head sizes ≡ bared k (lent_tree names cells head sizes)
  unfolding bared
  bare_end h = go k h
    where
      go : (k : ℕ) → k ≤ 0 → lent_tree names cells head sizes ≡ bared k (lent_tree names cells head sizes)
      go zero h = refl
      go (suc k) h = absurd (omega arith)
