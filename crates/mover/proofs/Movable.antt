-- Whether a bin may be moved, as the tests come one after another.
use mathlib.Core.Path.{◌≡◌, refl, ap, sym, ◌∙◌}
use mathlib.Core.Logic.{◌≢◌}
use mathlib.Core.Bool.{Bool, true, false}
use Prim.Native.Nat.{ℕ, zero, suc, ◌+◌, ◌-◌, ◌%◌, ◌<◌, ◌≤◌}
use native.Mathlib.Decide.{ℕ_discrete}
use native.Mathlib.Omega.{arith}
use lib.Dec.{eqb}
use borrow.Author.Tests.{eq-eqb, ne_eqb, lt-ltb, le-ltb}
use Rattle.set_rules.specs.Words.{Set, tables_of, length_at, fits, Bin, empty, moved, bad, list, tree, bin_of, bin_word, bin_at}
use Rattle.set_rules.specs.Accepting.{is_moved}
use Rattle.set_rules.proofs.Fit.{fits_fit, length_least}
use Rattle.set_rules.proofs.Naming.{ranges}
use Rattle.move_rules.specs.Moving.{parent_moved, movable}

-- A bin is Moved where its word is 1.
moved_yes : (b : Bin) → b ≡ moved → is_moved b ≡ true
moved_yes b e = ap is_moved e

moved_no : (b : Bin) → b ≢ moved → is_moved b ≡ false
moved_no empty d = refl
moved_no moved d = absurd (d refl)
moved_no bad d = refl
moved_no (list a) d = refl
moved_no (tree h) d = refl

word_moved : (n h w : ℕ) → eqb w 1 ≡ is_moved (bin_of n h w)
word_moved n h w = go (ℕ_discrete w 1)
  where
    go : Dec (w ≡ 1) → eqb w 1 ≡ is_moved (bin_of n h w)
    go (yes e) = eq-eqb w 1 e ∙ sym (moved_yes _ ((ranges n h w).moves.1 e))
    go (no d) = ne_eqb w 1 d ∙ sym (moved_no _ (λ z. d ((ranges n h w).moves.0 z)))

module _ (s : Set) (k i : ℕ) where
  pub says : {b : Bool} → b ≡ eqb (bin_word s k i) 1 → b ≡ is_moved (bin_at s k i)
  says e = e ∙ word_moved _ _ _

module _ (s : Set) (i : ℕ) where
  pub parent_none : (k : ℕ) → k ≡ 0 → true ≡ parent_moved s k i
  unfolding parent_moved
  parent_none zero e = refl
  parent_none (suc k) e = absurd (omega arith)

  pub parent_up : (k : ℕ) {len : ℕ} {b : Bool} → k ≢ 0 → len ≡ length_at s (k - 1) → b ≡ eqb (bin_word s (k - 1) (i % len)) 1
      → b ≡ parent_moved s k i
  unfolding parent_moved
  parent_up zero d e f = absurd (d refl)
  parent_up (suc k) {len} {b} d e f =
      let z : suc k - 1 ≡ k = omega arith in
      let y : b ≡ eqb (bin_word s k (i % length_at s k)) 1 = f ∙ rw (e, z) in
      says s k (i % length_at s k) y

  -- A fit set has no table without bins.
  pub some_bins : (k : ℕ) {len : ℕ} → fits s ≡ true → k < tables_of s → len ≡ length_at s (k - 1) → 1 ≤ len
  some_bins k f b e = omega (arith, length_least (fits_fit s f) (k - 1) (omega arith))

module _ (s : Set) (k i : ℕ) where
  pub last_table : tables_of s ≤ k + 1 → false ≡ movable s k i
  unfolding movable
  last_table b = rw (le-ltb (suc k) (tables_of s) (omega arith))

  module _ (lower : k + 1 < tables_of s) where
    below : suc k < tables_of s
    below = omega arith

    pub no_bin : {len : ℕ} → len ≡ length_at s k → len ≤ i → false ≡ movable s k i
    unfolding movable
    no_bin e b = rw (lt-ltb (suc k) (tables_of s) below, le-ltb i (length_at s k) (omega arith))

    module _ {len : ℕ} (e : len ≡ length_at s k) (index : i < len) where
      there : i < length_at s k
      there = omega arith

      pub gone : {b : Bool} → b ≡ eqb (bin_word s k i) 1 → b ≡ true → false ≡ movable s k i
      unfolding movable
      gone f g = rw (lt-ltb (suc k) (tables_of s) below, lt-ltb i (length_at s k) there, sym (says s k i f) ∙ g)

      pub may : {b c : Bool} → b ≡ eqb (bin_word s k i) 1 → b ≡ false → c ≡ parent_moved s k i → c ≡ movable s k i
      unfolding movable
      may f g h = h ∙ rw (lt-ltb (suc k) (tables_of s) below, lt-ltb i (length_at s k) there, sym (says s k i f) ∙ g)
