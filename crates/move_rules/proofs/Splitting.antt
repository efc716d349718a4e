-- A bin of an accepted set has one listing, and that has one low half and one high half: those of the model.
use mathlib.Core.Path.{◌≡◌, refl, ap, ◌∙◌}
use mathlib.Core.Logic.{◌≢◌}
use mathlib.Core.Bool.{Bool, true, false}
use mathlib.Core.List.{List, [], ◌∷◌}
use Prim.Native.Nat.{ℕ, suc, ◌+◌}
use native.Mathlib.Omega.{arith}
use lib.Dec.{eqb}
use borrow.Author.Tests.{eqb-true, eqb-false, eq-eqb, ne_eqb}
use Rattle.slots.specs.Words.{pick, name_of, hash_part}
use Rattle.tree_rules.specs.Find.{slots_of}
use Rattle.set_rules.specs.Words.{Set, Fit, length_at, Bin, empty, moved, bad, list, tree, bin_at, bini}
use Rattle.set_rules.specs.Accepted.{BinThere, Listed, Accepted}
use Rattle.set_rules.specs.Accepting.{is_home}
use Rattle.set_rules.specs.Whole.{Gives}
use Rattle.set_rules.proofs.Fit.{small}
use Rattle.set_rules.proofs.Lists.{listed_unique}
use Rattle.move_rules.specs.Moving.{first_in}
use Rattle.move_rules.specs.Moved.{Chosen, SplitBin}
use Rattle.move_rules.proofs.Rows.{homed}
use Rattle.move_rules.proofs.Framing.{BinLists, of_none, of_list, of_tree, lists_gives, gives_lists}
use Rattle.move_rules.proofs.Halves.{entries_in, low_half, high_half, entries_strung}

module _ (names : List ℕ) (len j : ℕ) where
  pub chosen_is : {l m : List ℕ} → Chosen names len j l m → m ≡ homed names len j l
  unfolding homed is_home
  chosen_is Chosen.none = refl
  chosen_is (Chosen.taken {x} {l} {m} e c) = rw (eq-eqb _ _ e) (ap (λ (v : List ℕ). x ∷ v) (chosen_is c))
  chosen_is (Chosen.passed {x} {l} {m} d c) = rw (ne_eqb _ _ d) (chosen_is c)

  pub homed_chosen : (l : List ℕ) → Chosen names len j l (homed names len j l)
  unfolding homed is_home
  homed_chosen [] = Chosen.none
  homed_chosen (x ∷ l) = go (eqb (bini len (name_of names x hash_part)) j) refl (homed_chosen l)
    where
      go : (b : Bool) → eqb (bini len (name_of names x hash_part)) j ≡ b → Chosen names len j l (homed names len j l)
          → Chosen names len j (x ∷ l) (pick b (x ∷ homed names len j l) (homed names len j l))
      go true e c = Chosen.taken (eqb-true _ _ e) c
      go false e c = Chosen.passed (eqb-false _ _ e) c

module _ {s : Set} (fit : Fit s) (acc : Accepted s) {k i : ℕ} (p : BinThere s k i) (unmoved : bin_at s k i ≢ moved) where
  -- A bin lists what next visits from its first slot.
  lists_strung : {b : Bin} {l : List ℕ} → BinLists s b l → Listed (slots_of s.names) s.cells (first_in s.heads b) l
  lists_strung of_none = Listed.ended refl
  lists_strung (of_list d) = d
  lists_strung (of_tree d) = d

  strung_lists : (b : Bin) → b ≢ moved → b ≢ bad → {l : List ℕ} → Listed (slots_of s.names) s.cells (first_in s.heads b) l
      → BinLists s b l
  strung_lists empty n o (Listed.ended e) = of_none
  strung_lists empty n o (Listed.onward w d) = absurd (omega (arith, small fit))
  strung_lists moved n o d = absurd (n refl)
  strung_lists bad n o d = absurd (o refl)
  strung_lists (list a) n o d = of_list d
  strung_lists (tree h) n o d = of_tree d

  pub gives_entries : Gives s k i (entries_in s (bin_at s k i))
  gives_entries = lists_gives refl (strung_lists (bin_at s k i) unmoved (acc.none_bad k i p) (entries_strung fit acc p))

  pub splits : SplitBin s k i (entries_in s (bin_at s k i)) (low_half s k i) (high_half s k i)
  unfolding low_half high_half
  splits =
      record {
        gives = gives_entries;
        lows = homed_chosen s.names (length_at s (suc k)) i (entries_in s (bin_at s k i));
        highs = homed_chosen s.names (length_at s (suc k)) (i + length_at s k) (entries_in s (bin_at s k i));
      }

  module _ {all low high : List ℕ} (h : SplitBin s k i all low high) where
    pub all_is : all ≡ entries_in s (bin_at s k i)
    all_is = listed_unique s (small fit) (lists_strung (gives_lists h.gives unmoved)) (entries_strung fit acc p)

    pub low_is : low ≡ low_half s k i
    unfolding low_half
    low_is = chosen_is s.names (length_at s (suc k)) i h.lows ∙ ap (λ (v : List ℕ). homed s.names (length_at s (suc k)) i v) all_is

    pub high_is : high ≡ high_half s k i
    unfolding high_half
    high_is =
        chosen_is s.names (length_at s (suc k)) (i + length_at s k) h.highs
        ∙ ap (λ (v : List ℕ). homed s.names (length_at s (suc k)) (i + length_at s k) v) all_is
