-- What a search of a pair looks at, in the links that it follows.
use Rattle.std.specs.Prelude.{◌≡◌, ℕ, suc, ◌<◌, ◌≤◌, ◌≢◌, ◌⊎◌, List, length, slice_index_or}
use Rattle.slots.specs.Words.{null}
use Rattle.slots.specs.Pairs.{pair, pair_of}
use Rattle.slots.specs.Answers.{given, nothing, refused}
use Rattle.tree_rules.specs.Find.{Search, slots_of}
use Rattle.tree_rules.specs.Tree.{times}

-- The looks of the search s are exactly the slots that it follows, in order, and its answer says how many they are.
-- `follows k p`: the search follows the link p once it has visited k slots.
pub record LooksAt (names : List ℕ) (hash key : ℕ) (follows : ℕ → ℕ → Type 0) (s : Search) : Type 0 where
  -- the k-th look is the link followed after k visits
  pub followed : (k : ℕ) → k < length s.looks → follows k (slice_index_or s.looks k null)
  -- it is a slot
  pub inside : (k : ℕ) → k < length s.looks → (slice_index_or s.looks k null ≢ null) × (slice_index_or s.looks k null < slots_of names)
  -- every slot followed while visits are left is looked at
  pub every : {k p : ℕ} → follows k p → p ≢ null → p < slots_of names → k < slots_of names
      → (k < length s.looks) × (slice_index_or s.looks k null ≡ p)
  -- no look but the last is at the pair
  pub before_last : (k : ℕ) → suc k < length s.looks → pair_of names (slice_index_or s.looks k null) ≢ pair hash key
  -- on a hit the last look is at the slot answered, which has the pair
  pub hit : (slot : ℕ) → s.answer ≡ given slot
      → (k : ℕ) × (length s.looks ≡ suc k) × (slice_index_or s.looks k null ≡ slot) × (pair_of names slot ≡ pair hash key)
  -- with any other answer no look is at the pair
  pub no_hit : ((slot : ℕ) → s.answer ≢ given slot) → (k : ℕ) → k < length s.looks
      → pair_of names (slice_index_or s.looks k null) ≢ pair hash key
  -- on Nothing as many looks as were visited before the null link
  pub miss : s.answer ≡ nothing → follows (length s.looks) null
  -- on 9 as many as were visited before the search was lost
  pub lost : s.answer ≡ refused 9
      → (link : ℕ) × follows (length s.looks) link × (link ≢ null) × ((slots_of names ≤ link) ⊎ (slots_of names ≤ length s.looks))
  -- never more than there are slots, and a search that is not lost looks at no slot twice
  pub most : length s.looks ≤ slots_of names
  pub once : s.answer ≢ refused 9 → (x : ℕ) → times x s.looks ≤ 1
