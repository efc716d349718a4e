-- The totals: 39 words, and their ranges.
use Rattle.std.specs.Prelude.{◌≡◌, Bool, true, List, ℕ, zero, suc, ◌+◌, ◌*◌, ◌≤◌, length, get_or, replicate, eqb, leb}
use Rattle.slots.specs.Words.{pick, ◌and◌}
use Rattle.tree_rules.specs.Chain.{tally}

-- Word j of the totals.
abbrev pub total_at : List ℕ → ℕ → ℕ
total_at t j = get_or t j 0

-- "sets, refused, entries, lists, trees, looks, then the rows 1 to 32 and the last row"
abbrev pub sets_in : List ℕ → ℕ
sets_in t = total_at t 0

abbrev pub refused_in : List ℕ → ℕ
refused_in t = total_at t 1

abbrev pub entries_in : List ℕ → ℕ
entries_in t = total_at t 2

abbrev pub lists_in : List ℕ → ℕ
lists_in t = total_at t 3

abbrev pub trees_in : List ℕ → ℕ
trees_in t = total_at t 4

abbrev pub looks_in : List ℕ → ℕ
looks_in t = total_at t 5

-- Row i of 1 to 32: the entries found at i looks; row 33 is the last.
abbrev pub row_in : List ℕ → ℕ → ℕ
row_in t i = total_at t (5 + i)

-- "Up to a million sets"
abbrev pub most_sets : ℕ
most_sets = 1000000

-- The sets that are counted, accepted or not.
abbrev pub counted_in : List ℕ → ℕ
counted_in t = sets_in t + refused_in t

-- The ranges: "sets + refused at most 1,000,000; entries, lists, trees and each row at most 4,096 * sets; looks at most 4,096 * 4,096 *
-- sets".
pub record FitTotals (t : List ℕ) : Type 0 where
  pub long : length t ≡ 39
  pub counted : sets_in t + refused_in t ≤ 1000000
  pub entries : entries_in t ≤ 4096 * sets_in t
  pub lists : lists_in t ≤ 4096 * sets_in t
  pub trees : trees_in t ≤ 4096 * sets_in t
  pub looks : looks_in t ≤ 4096 * 4096 * sets_in t
  pub rows : (i : ℕ) → 1 ≤ i → i ≤ 33 → row_in t i ≤ 4096 * sets_in t

-- The test of the ranges: what one set may add to word j, from the entries on; that the words 2 to j + 1 are in their ranges; and all.
abbrev pub most_added : ℕ → ℕ
most_added j = pick (eqb j 5) 16777216 4096

unfoldable pub words_fit : ℕ → List ℕ → Bool
words_fit zero t = true
words_fit (suc j) t = leb (total_at t (2 + j)) (most_added (2 + j) * sets_in t) and words_fit j t

unfoldable pub fits_totals : List ℕ → Bool
fits_totals t = eqb (length t) 39 and leb (counted_in t) most_sets and words_fit 37 t

-- Totals before any set.
abbrev pub no_totals : List ℕ
no_totals = replicate 39 0

-- "the rows add up to the entries, and weighted, the last row as 33 looks, they come to at most the looks"
pub record RowsAgree (t : List ℕ) : Type 0 where
  pub rows : tally 33 (λ i. row_in t (suc i)) ≡ entries_in t
  pub weighted : tally 33 (λ i. suc i * row_in t (suc i)) ≤ looks_in t
