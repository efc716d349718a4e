-- What the claims speak of, over the plain tree: that the links hold a tree, that a tree is red-black, that a slot stands or hangs in it.
use Rattle.std.specs.Prelude.{◌≡◌, List, ℕ, suc, ◌*◌, ◌≤◌, max, length, eqb}
use Rattle.slots.specs.Words.{null, pick, Colour, red, leftward, rightward}
use Rattle.slots.specs.Pairs.{pair, pair_of}
use Rattle.redblack.specs.Links.{Links}
use Rattle.tree_rules.specs.Tree.{Tree, leaf, node, slots, times, Rooted, Coloured, Level}
use Rattle.redblack.specs.Sided.{Sided, bare, fork}

-- The cells are those of n slots, null is none of them, and the words reached from the root are those of t.
pub record Holds (n : ℕ) (s : Links) (t : Tree) : Type 0 where
  pub long : length s.cells ≡ 7 * n
  pub small : n ≤ null
  pub rooted : Rooted n s.cells s.root t

-- T5 and T6.
pub record RedBlackTree (t : Tree) : Type 0 where
  pub coloured : Coloured t
  pub level : Level t

-- The slot p is one of the tree, and the slot x is none.
abbrev pub Stands : ℕ → Tree → Type 0
Stands p t = 1 ≤ times p (slots t)

abbrev pub Fresh : ℕ → Tree → Type 0
Fresh x t = times x (slots t) ≡ 0

-- Some slot of the tree has the pair (hash, key).
pub record Has (names : List ℕ) (t : Tree) (hash key : ℕ) : Type 0 where
  pub slot : ℕ
  pub stands : Stands slot t
  pub named : pair_of names slot ≡ pair hash key

-- The second tree is the first with the slot x, red and childless, in the place of one of its null links.
pub data Hung (x : ℕ) : Tree → Tree → Type 0 where
  on_null : Hung x leaf (node red leaf x leaf)
  on_left : {c : Colour} {l m : Tree} {i : ℕ} {r : Tree} → Hung x l m → Hung x (node c l i r) (node c m i r)
  on_right : {c : Colour} {l : Tree} {i : ℕ} {r m : Tree} → Hung x r m → Hung x (node c l i r) (node c l i m)

-- The tree with the slots p and q in each other's place. A place keeps its colour, so they change their colours too.
abbrev pub instead : ℕ → ℕ → ℕ → ℕ
instead p q i = pick (eqb i p) q (pick (eqb i q) p i)

unfoldable pub switched : ℕ → ℕ → Tree → Tree
switched p q leaf = leaf
switched p q (node c l i r) = node c (switched p q l) (instead p q i) (switched p q r)

-- The most slots on a way down.
unfoldable pub depth : Tree → ℕ
depth leaf = 0
depth (node c l i r) = suc (max (depth l) (depth r))

-- The plain tree that a sided one names.
unfoldable pub plain : Sided → Tree
plain bare = leaf
plain (fork leftward c a i b) = node c (plain a) i (plain b)
plain (fork rightward c a i b) = node c (plain b) i (plain a)
