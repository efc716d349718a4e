-- What the stored sizes are to be: in a slot of the tree the number of slots of its subtree, and 0 in every other slot.
use Rattle.std.specs.Prelude.{◌≡◌, [], ◌∷◌, ℕ, ◌+◌, length}
use Rattle.redblack.specs.Links.{Links, size_at}
use Rattle.tree_rules.specs.Tree.{Tree}
use Rattle.tree_rules.specs.Sizes.{only, SizedBy}
use Rattle.redblack.specs.Sided.{Sided, bare, fork, Way, frame}

-- How many slots a tree has, and a way with the trees beside it.
unfoldable pub weight : Sided → ℕ
weight bare = 0
weight (fork σ c a i b) = 1 + weight a + weight b

unfoldable pub weight_way : Way → ℕ
weight_way [] = 0
weight_way (frame σ c i b ∷ C) = 1 + weight b + weight_way C

-- What the slot k is to have: the weight of its subtree in t, 0 where k is no slot of t.
unfoldable pub size_by : ℕ → Sided → ℕ
size_by k bare = 0
size_by k (fork σ c a i b) = only k i (1 + weight a + weight b) + size_by k a + size_by k b

-- The same along a way at whose end stands a tree of weight w.
unfoldable pub size_along : ℕ → ℕ → Way → ℕ
size_along k w [] = 0
size_along k w (frame σ c i b ∷ C) = only k i (1 + w + weight b) + size_by k b + size_along k (1 + w + weight b) C

-- The sizes are those of n slots, and each is what the tree t says.
pub record Sized (n : ℕ) (s : Links) (t : Sided) : Type 0 where
  pub long : length s.sizes ≡ n
  pub same : (k : ℕ) → size_at s k ≡ size_by k t

-- The same at a place: the part t stands at the end of the way C, and on the way it counts as w.
pub record SizedAlong (n : ℕ) (s : Links) (C : Way) (w : ℕ) (t : Sided) : Type 0 where
  pub long : length s.sizes ≡ n
  pub same : (k : ℕ) → size_at s k ≡ size_along k w C + size_by k t

-- The same over the plain tree, as T8 has it.
pub record SizedTree (n : ℕ) (s : Links) (t : Tree) : Type 0 where
  pub long : length s.sizes ≡ n
  pub same : SizedBy s.sizes t
