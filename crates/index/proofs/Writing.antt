-- What the journal's steps come to, on plain values: each law takes the equations that the calls give, in the order of the code.
use mathlib.Core.Path.{◌≡◌, refl}
use mathlib.Core.List.{List}
use Prim.Native.Nat.{ℕ, zero, suc, ◌+◌, ◌-◌, ◌*◌, ◌<◌, ◌≤◌}
use native.Mathlib.Numerals.{sub-one}
use native.Mathlib.Omega.{arith}
use lib.ListN.{length}
use lib.Seq.{set_out}
use Rattle.index_rules.specs.Index.{line_made, plain_line, lined}
use Rattle.index_rules.specs.Rollback.{blanked}

module _ (lines : List ℕ) (k kind hash key place prehash prekey : ℕ) where
  pub no_line_lem : length lines ≤ k → lines ≡ lined lines k (line_made kind hash key place prehash prekey)
  unfolding lined
  no_line_lem h =
      rw (
        set_out lines (1 + 6 * k + 0) kind (omega arith),
        set_out lines (1 + 6 * k + 1) hash (omega arith),
        set_out lines (1 + 6 * k + 2) key (omega arith),
        set_out lines (1 + 6 * k + 3) place (omega arith),
        set_out lines (1 + 6 * k + 4) prehash (omega arith),
        set_out lines (1 + 6 * k + 5) prekey (omega arith),
      )

-- A turn of the clearing: one line more, none left.
module _ (lines : List ℕ) (m c : ℕ) where
  pub blank_on : {l : List ℕ} → 0 < c → l ≡ lined lines (m + (c - 1)) (plain_line 0 0 0 0) → blanked (c - 1) l m ≡ blanked c lines m
  unfolding blanked
  blank_on {l} h e = go c h e
    where
      go : (c : ℕ) → 0 < c → l ≡ lined lines (m + (c - 1)) (plain_line 0 0 0 0) → blanked (c - 1) l m ≡ blanked c lines m
      go zero h e = absurd (omega arith)
      go (suc c) h e = let g = rw sub-one at e in rw (sub-one, ← g)

  pub blank_end : c ≤ 0 → lines ≡ blanked c lines m
  unfolding blanked
  blank_end h = go c h
    where
      go : (c : ℕ) → c ≤ 0 → lines ≡ blanked c lines m
      go zero h = refl
      go (suc c) h = absurd (omega arith)
