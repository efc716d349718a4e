-- What is proved of a frozen set's words and of acceptance.
use Rattle.std.specs.Prelude.{◌≡◌, ◌↔◌, ◌⊎◌, true, ℕ, ◌-◌, ◌%◌, ◌<◌, ◌≤◌}
use Rattle.slots.specs.Answers.{given, refused}
use Rattle.set_rules.specs.Words.{Set, tables_of, length_at, Fit, fits, empty, moved, bad, list, tree, bin_of, bini}
use Rattle.set_rules.specs.Accepted.{Accepted}
use Rattle.set_rules.specs.Accepting.{accepts}

-- "A bin is one word": each reading of the word w in a set of n slots and h headers, exactly when.
pub record Ranges (n h w : ℕ) : Type 0 where
  -- "0 empty, 1 Moved"
  pub empties : (bin_of n h w ≡ empty) ↔ (w ≡ 0)
  pub moves : (bin_of n h w ≡ moved) ↔ (w ≡ 1)
  -- "2 to 4,097 a list from slot word-2"
  pub lists : (i : ℕ) → (bin_of n h w ≡ list i) ↔ ((2 ≤ w) × (w ≤ 4097) × (i ≡ w - 2) × (i < n))
  -- "4,098 to 8,193 tree header word-4,098"
  pub trees : (i : ℕ) → (bin_of n h w ≡ tree i) ↔ ((4098 ≤ w) × (w ≤ 8193) × (i ≡ w - 4098) × (i < h))
  -- "any other, or one naming no slot or header of the set, is bad"
  pub bads : (bin_of n h w ≡ bad) ↔ ((8194 ≤ w) ⊎ (((2 ≤ w) × (w ≤ 4097) × (n ≤ w - 2)) ⊎ ((4098 ≤ w) × (w ≤ 8193) × (h ≤ w - 4098))))

-- Acceptance: "1, or else yes or no, acceptance yes exactly if the set is accepted as defined above".
pub record Accepting (s : Set) : Type 0 where
  pub one : (accepts s ≡ refused 1) ↔ (Fit s → ⊥)
  pub yes : (accepts s ≡ given 1) ↔ (Fit s × Accepted s)
  pub no : (accepts s ≡ given 0) ↔ (Fit s × (Accepted s → ⊥))

pub record Judged : Type 0 where
  -- the test of fitness holds exactly of fit words
  pub fitness : (s : Set) → (fits s ≡ true) ↔ Fit s
  -- "The bin for a hash is hash AND (length-1)": of a fit set's table, the hash modulo the length
  pub names_bin : (s : Set) → Fit s → (k : ℕ) → k < tables_of s → (hash : ℕ) → bini (length_at s k) hash ≡ hash % length_at s k
  pub ranges : (n h w : ℕ) → Ranges n h w
  pub accepting : (s : Set) → Accepting s
