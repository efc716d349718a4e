-- The tally of a set into the totals, slot by slot and bin word by bin word.
use Rattle.std.specs.Prelude.{Bool, List, [], ◌∷◌, ℕ, zero, suc, ◌+◌, length, set, eqb, ltb, leb}
use Rattle.slots.specs.Words.{pick, state, free, cell, name_of, hash_part, key_part, ◌and◌}
use Rattle.slots.specs.Answers.{Answer, given, refused}
use Rattle.tree_rules.specs.Find.{slots_of}
use Rattle.set_rules.specs.Words.{Set, fits, Bin, empty, moved, bad, list, tree, word_bin}
use Rattle.set_rules.specs.Accepting.{accepted}
use Rattle.set_rules.specs.Lookup.{lookups_fit}
use Rattle.figure_rules.specs.Totals.{total_at, counted_in, most_sets, fits_totals}

-- Word j of the totals with v more.
unfoldable pub with_more : List ℕ → ℕ → ℕ → List ℕ
with_more t j v = set t j (total_at t j + v)

-- The word of the row of k looks.
unfoldable pub row_word : ℕ → ℕ
row_word k = pick (leb k 32) (5 + k) 38

-- An entry that is found at k looks.
unfoldable pub entry_tallied : List ℕ → ℕ → List ℕ
entry_tallied t k = with_more (with_more (with_more t 2 1) 5 k) (row_word k) 1

-- The looks at which slot x of a fit set is found: those of the loop from table 0.
unfoldable pub slot_looks : Set → ℕ → ℕ
slot_looks s x = length (lookups_fit s 0 (name_of s.names x hash_part) (name_of s.names x key_part)).looks

-- Slot x: a free one adds nothing.
unfoldable pub slot_tallied : Set → ℕ → List ℕ → List ℕ
slot_tallied s x t = pick (eqb (cell s.cells x state) free) t (entry_tallied t (slot_looks s x))

-- The first n slots.
unfoldable pub slots_tallied : Set → ℕ → List ℕ → List ℕ
slots_tallied s zero t = t
slots_tallied s (suc n) t = slot_tallied s n (slots_tallied s n t)

-- A bin.
unfoldable pub bin_tallied : Bin → List ℕ → List ℕ
bin_tallied empty t = t
bin_tallied moved t = t
bin_tallied bad t = t
bin_tallied (list a) t = with_more t 3 1
bin_tallied (tree h) t = with_more t 4 1

-- The first n words of the row of all bins.
unfoldable pub bins_tallied : Set → ℕ → List ℕ → List ℕ
bins_tallied s zero t = t
bins_tallied s (suc n) t = bin_tallied (word_bin s n) (bins_tallied s n t)

-- An accepted set.
unfoldable pub set_tallied : Set → List ℕ → List ℕ
set_tallied s t = bins_tallied s (length s.bins) (slots_tallied s (slots_of s.names) (with_more t 0 1))

-- A call comes to its answer, and to what it leaves in the totals.
pub record TallyOutcome : Type 0 where
  pub answer : Answer
  pub totals : List ℕ

abbrev pub tally_outcome : Answer → List ℕ → TallyOutcome
tally_outcome a t = record { answer = a; totals = t }

-- The set is fit and accepted.
abbrev pub is_taken : Set → Bool
is_taken s = fits s and accepted s

-- "1 where the set is counted as accepted, 0 where as refused"; "17 Too many where a million sets are counted".
unfoldable pub tallies : Set → List ℕ → TallyOutcome
tallies s t =
    pick (fits_totals t)
    (pick (ltb (counted_in t) most_sets)
    (pick (is_taken s) (tally_outcome (given 1) (set_tallied s t)) (tally_outcome (given 0) (with_more t 1 1)))
    (tally_outcome (refused 17) t))
    (tally_outcome (refused 1) t)

-- The totals after one set after the other.
unfoldable pub all_tallied : List ℕ → List Set → List ℕ
all_tallied t [] = t
all_tallied t (s ∷ l) = all_tallied (tallies s t).totals l
