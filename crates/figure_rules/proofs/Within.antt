-- What code needs on its way: no word wraps between the first slot and the last bin word.
use mathlib.Core.Bool.{Bool, true, false}
use mathlib.Core.Path.{◌≡◌}
use mathlib.Core.List.{List}
use Prim.Native.Nat.{ℕ, ◌+◌, ◌*◌, ◌≤◌}
use native.Mathlib.Omega.{arith}
use native.Mathlib.Nat.{mul-le-mul_left, mul-one}
use lib.ListN.{length}
use lib.Dec.{eqb}
use Rattle.slots.specs.Words.{pick, state, free, cell}
use Rattle.tree_rules.specs.Find.{slots_of}
use Rattle.set_rules.specs.Words.{Set, Fit, Bin, empty, moved, bad, list, tree, word_bin}
use Rattle.figure_rules.specs.Totals.{total_at}
use Rattle.figure_rules.specs.Tally.{row_word, slot_looks, slots_tallied, bins_tallied}
use Rattle.figure_rules.proofs.Sums.{hit_most, tally_bound}
use Rattle.figure_rules.proofs.Adding.{entry_share, slot_share, bin_share, slots-word, bins_word}
use Rattle.figure_rules.proofs.Finding.{looks_are, looks_most, slots_most}

pub slot_looks_most : (s : Set) → Fit s → (x : ℕ) → slot_looks s x ≤ 4096
slot_looks_most s fit x = omega (arith, looks_are s fit x, looks_most s fit x, slots_most s fit)

-- After any number of its slots, a fit set has added at most 4,098 for each.
module _ (s : Set) (fit : Fit s) (t : List ℕ) (long : length t ≡ 39) (j : ℕ) where
  slot_most : (x : ℕ) → slot_share s j x ≤ 4098
  slot_most x = go (eqb (cell s.cells x state) free)
    where
      entry : entry_share (slot_looks s x) j ≤ 4098
      entry =
          let a = hit_most j 2 in
          let b = hit_most j (row_word (slot_looks s x)) in
          let c = mul-le-mul_left (slot_looks s x) (hit_most j 5) in
          let d = mul-one (slot_looks s x) in
          omega (arith, slot_looks_most s fit x)

      go : (b : Bool) → pick b 0 1 * entry_share (slot_looks s x) j ≤ 4098
      go true = omega arith
      go false = omega (arith, entry)

  pub slots_within : (n : ℕ) → n ≤ slots_of s.names → total_at (slots_tallied s n t) j ≤ total_at t j + 16785408
  slots_within n l =
      let b = tally_bound n 4098 (slot_share s j) (λ x c. slot_most x) in omega (arith, slots-word s n t j long, slots_most s fit)

bin_most : (b : Bin) (j : ℕ) → bin_share b j ≤ 1
bin_most empty j = omega arith
bin_most moved j = omega arith
bin_most bad j = omega arith
bin_most (list a) j = omega (arith, hit_most j 3)
bin_most (tree h) j = omega (arith, hit_most j 4)

pub bins_within : (s : Set) (t : List ℕ) → length t ≡ 39 → (j n : ℕ) → total_at (bins_tallied s n t) j ≤ total_at t j + n
bins_within s t long j n =
    let b = tally_bound n 1 (λ p. bin_share (word_bin s p) j) (λ p c. bin_most (word_bin s p) j) in omega (arith, bins_word s n t j long)
