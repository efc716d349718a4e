-- The slots and the bin words one after the other: each step is the model's, and the words have room on the way.
use mathlib.Core.Path.{◌≡◌, refl, ap, ◌∙◌}
use mathlib.Core.Logic.{◌≢◌}
use mathlib.Core.Bool.{Bool, false}
use mathlib.Core.List.{List, []}
use Prim.Native.Nat.{ℕ, zero, suc, ◌+◌, ◌-◌, ◌/◌, ◌<◌, ◌≤◌}
use native.Mathlib.Omega.{arith}
use lib.ListN.{length, get_or}
use borrow.Author.Tests.{eq-eqb, ne_eqb, le-leb, lt-leb}
use Rattle.set_rules.specs.Words.{Set, lent_set, Fit, Bin, bin_of, word_bin}
use Rattle.figure_rules.specs.Totals.{sets_in, refused_in, counted_in, most_sets, words_fit, fits_totals}
use Rattle.figure_rules.specs.Tally.{slot_looks, slot_tallied, slots_tallied, bin_tallied, bins_tallied}
use Rattle.figure_rules.proofs.Adding.{slots_long, bins_long}
use Rattle.figure_rules.proofs.Within.{slot_looks_most, slots_within, bins_within}
use Rattle.tally.specs.Room.{RoomIn}

-- The test of the totals.
module _ (t : List ℕ) where
  pub not_39 : length t ≢ 39 → false ≡ fits_totals t
  unfolding fits_totals
  not_39 d = simp (ne_eqb (length t) 39 d)

  module _ (l : length t ≡ 39) {sets : ℕ} (e : sets ≡ sets_in t) where
    too_high : most_sets < counted_in t → false ≡ fits_totals t
    unfolding fits_totals
    too_high h = simp (eq-eqb (length t) 39 l, lt-leb (counted_in t) most_sets h)

    pub sets_high : most_sets < sets → false ≡ fits_totals t
    sets_high h = too_high (omega arith)

    pub refused_high : sets ≤ most_sets → {refused : ℕ} → refused ≡ refused_in t → most_sets - sets < refused → false ≡ fits_totals t
    refused_high k f h = too_high (omega arith)

    pub words_asked : sets ≤ most_sets → {refused : ℕ} → refused ≡ refused_in t → refused ≤ most_sets - sets → {b : Bool}
        → b ≡ words_fit 37 t
        → b ≡ fits_totals t
    unfolding fits_totals
    words_asked k f h i =
        let c : counted_in t ≤ most_sets = omega arith in
        simp (eq-eqb (length t) 39 l, le-leb (counted_in t) most_sets c) i

-- The slots.
module _ (s : Set) (t : List ℕ) (x : ℕ) {u : List ℕ} (e : u ≡ slots_tallied s x t) where
  pub slots_on : {v : List ℕ} → v ≡ slot_tallied s x u → v ≡ slots_tallied s (x + 1) t
  unfolding slots_tallied
  slots_on f = let z : x + 1 ≡ suc x = omega arith in rw z (f ∙ ap (slot_tallied s x) e)

  pub slots_kept : length u ≡ length t
  slots_kept = ap length e ∙ slots_long s x t

  pub slot_room : (fit : Fit s) → length t ≡ 39 → RoomIn t 16793600 → x ≤ length s.names / 2 → RoomIn u 8192 × (slot_looks s x ≤ 4096)
  slot_room fit l r b = (λ j. rw e (omega (arith, r j, slots_within s fit t l j x b)), slot_looks_most s fit x)

pub slots_start : (s : Set) (t : List ℕ) → t ≡ slots_tallied s 0 t
unfolding slots_tallied
slots_start s t = refl

-- A slot's number is a word of 32 bits.
pub slot_word_most : (s : Set) → Fit s → {x n : ℕ} → n ≡ length s.names / 2 → x < n → x < 4294967296
slot_word_most s fit e l = let two = fit.two in let most = fit.slots_most in omega arith

-- The bin words, of a set of these bins, headers and names.
module _ (s : Set) (t : List ℕ) (p : ℕ) {u : List ℕ} (e : u ≡ bins_tallied s p t) where
  pub bins_on : {n h w : ℕ} {b : Bin} {v : List ℕ} → n ≡ length s.names / 2 → h ≡ length s.heads / 3 → w ≡ get_or s.bins p 0
      → b ≡ bin_of n h w
      → v ≡ bin_tallied b u
      → v ≡ bins_tallied s (p + 1) t
  unfolding bins_tallied
  bins_on {b = b} f g i k m =
      let z : p + 1 ≡ suc p = omega arith in
      let own : b ≡ word_bin s p = k ∙ (λ y. bin_of (f y) (g y) (i y)) in
      rw z (m ∙ (λ y. bin_tallied (own y) (e y)))

  pub bins_kept : length u ≡ length t
  bins_kept = ap length e ∙ bins_long s p t

  pub bin_room : length t ≡ 39 → RoomIn t 8192 → p ≤ 8160 → RoomIn u 1
  bin_room l r b j = rw e (omega (arith, r j, bins_within s t l j p))

pub bins_start : (s : Set) (t : List ℕ) → t ≡ bins_tallied s 0 t
unfolding bins_tallied
bins_start s t = refl

-- The bins go by bins, headers and names alone.
pub bins_alone : (s : Set) (t : List ℕ) (n : ℕ) → bins_tallied (lent_set [] s.bins s.heads s.names []) n t ≡ bins_tallied s n t
unfolding bins_tallied
bins_alone s t zero = refl
bins_alone s t (suc n) = ap (bin_tallied (word_bin s n)) (bins_alone s t n)
