-- T8 of one tree: "the stored size is that number, 0 in a free slot".
use Rattle.std.specs.Prelude.{◌≡◌, ℕ, ◌+◌, ◌≤◌, Bool, true, List, length, ◌==◌, nat_le, slice_index}
use Rattle.slots.specs.Words.{pick}
use Rattle.tree_rules.specs.Tree.{Tree, leaf, node, slots, times}

-- The stored size of a slot, 0 where there is none, as at null.
abbrev pub size_word : List ℕ → ℕ → ℕ
size_word sizes i = slice_index sizes i

-- v in the slot i, and 0 in any other.
unfoldable pub only : ℕ → ℕ → ℕ → ℕ
only k i v = pick (k == i) v 0

-- "the number of pairs in its subtree" for a slot k of the tree, and 0 for a slot elsewhere.
unfoldable pub size_in : ℕ → Tree → ℕ
size_in k leaf = 0
size_in k (node c l i r) = only k i (length (slots (node c l i r))) + size_in k l + size_in k r

-- Every slot has the size that the tree says.
abbrev pub SizedBy : List ℕ → Tree → Type 0
SizedBy sizes t = (k : ℕ) → size_word sizes k ≡ size_in k t

-- Every slot of the tree has the number of slots of its own subtree: T8 but for the slots that are none of it.
abbrev pub SizedSlots : List ℕ → Tree → Type 0
SizedSlots sizes t = (k : ℕ) → 1 ≤ times k (slots t) → size_word sizes k ≡ size_in k t

-- The size stored for slot i is m, where one is stored for it: frozen sets have none.
unfoldable pub has_size : List ℕ → ℕ → ℕ → Bool
has_size sizes i m = pick (nat_le (length sizes) i) true (size_word sizes i == m)
