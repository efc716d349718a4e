-- What keeps the numbers of the recursion over tables within their words.
use Rattle.std.specs.Prelude.{◌≡◌, List, ℕ, suc, ◌+◌, ◌*◌, ◌≤◌, get_or}
use Rattle.slots.specs.Words.{most_slots}
use Rattle.set_rules.specs.Words.{bins_before}

-- There are at most eight tables, none longer than 4,096, the bins of this one begin where those before it end, and an index is at most
-- what their lengths add up to.
pub record Room (lengths : List ℕ) (left k from i : ℕ) : Type 0 where
  pub tables : k + left ≤ 7
  pub begins : from ≡ bins_before lengths k
  pub index : i ≤ most_slots * suc k
  pub lengths_most : (j : ℕ) → get_or lengths j 0 ≤ most_slots
