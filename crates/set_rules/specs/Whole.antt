-- A whole walk: the slots that its steps give until Done, and those that the rules have it give, bin by bin.
use Rattle.std.specs.Prelude.{◌≡◌, List, [], ◌∷◌, ◌++◌, ℕ, suc, ◌+◌, ◌<◌}
use Rattle.slots.specs.Answers.{given, nothing}
use Rattle.set_rules.specs.Words.{Set, tables_of, length_at, first_at, empty, moved, list, tree, bin_at}
use Rattle.set_rules.specs.Accepted.{Listed}
use Rattle.set_rules.specs.Cursor.{Cursor}
use Rattle.set_rules.specs.Walk.{nexts}
use Rattle.tree_rules.specs.Find.{slots_of}

-- What bin i of table k gives: a list its slots by next; "a tree is walked from first by next"; "a Moved bin descends to the same index
-- below; after it comes that index plus the upper length".
pub data Gives (s : Set) : ℕ → ℕ → List ℕ → Type 0 where
  of_none : {k i : ℕ} → bin_at s k i ≡ empty → Gives s k i []
  of_list : {k i a : ℕ} {l : List ℕ} → bin_at s k i ≡ list a → Listed (slots_of s.names) s.cells a l → Gives s k i l
  of_tree : {k i h : ℕ} {l : List ℕ} → bin_at s k i ≡ tree h → Listed (slots_of s.names) s.cells (first_at s h) l → Gives s k i l
  of_moved : {k i : ℕ} {l m : List ℕ} → bin_at s k i ≡ moved → suc k < tables_of s → Gives s (suc k) i l
      → Gives s (suc k) (i + length_at s k) m
      → Gives s k i (l ++ m)

-- What the bins of table t give, from bin i on to the end.
pub data Onward (s : Set) (t : ℕ) : ℕ → List ℕ → Type 0 where
  end : {i : ℕ} → i ≡ length_at s t → Onward s t i []
  bin : {i : ℕ} {l m : List ℕ} → i < length_at s t → Gives s t i l → Onward s t (suc i) m → Onward s t i (l ++ m)

-- The slots that the steps from a cursor give, until Done.
pub data Listing (s : Set) : Cursor → List ℕ → Type 0 where
  done : {c : Cursor} → (nexts s c).answer ≡ nothing → Listing s c []
  step : {c : Cursor} {x : ℕ} {l : List ℕ} → (nexts s c).answer ≡ given x → Listing s (nexts s c).cursor l → Listing s c (x ∷ l)
