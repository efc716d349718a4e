-- What one turn of the loop over forwarded tables comes to, by the bin that it finds.
use mathlib.Core.Path.{◌≡◌}
use Prim.Native.Nat.{ℕ, suc, ◌-◌, ◌<◌, ◌≤◌}
use native.Mathlib.Omega.{arith}
use Rattle.slots.specs.Answers.{refused}
use Rattle.tree_rules.specs.Find.{ends}
use Rattle.set_rules.specs.Words.{Set, tables_of, Bin}
use Rattle.set_rules.specs.Lookup.{home_bin, asked, forwarded}

module _ (s : Set) (hash key : ℕ) where
  pub turn : (k : ℕ) → k < tables_of s → {b : Bin} → b ≡ home_bin s k hash
      → forwarded (tables_of s - k) s k hash key ≡ asked s b hash key (forwarded (tables_of s - suc k) s (suc k) hash key)
  unfolding forwarded
  turn k l e =
      let z : tables_of s - k ≡ suc (tables_of s - suc k) = omega arith in
      rw (z, e)

  -- Moved in the last table.
  pub past_last : (k : ℕ) → tables_of s ≤ k → forwarded (tables_of s - k) s k hash key ≡ ends (refused 9)
  unfolding forwarded
  past_last k l =
      let z : tables_of s - k ≡ 0 = omega arith in
      rw z
