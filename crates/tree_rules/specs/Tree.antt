-- A tree of slots in its plain form, what it means that words hold it, and T3 to T6 of one tree.
use Rattle.std.specs.Prelude.{◌≡◌, ℕ, suc, ◌+◌, ◌<◌, ◌≤◌, List, [], ◌∷◌, ◌++◌, length, ◌==◌, nat_lt}
use Rattle.slots.specs.Words.{null, pick, state, parent, left, right, cell, Colour, black, red, code}
use Rattle.slots.specs.Pairs.{Pair, pair_of, Less}
use Rattle.tree_rules.specs.Find.{slots_of}

-- Nothing, or a slot with its colour and the trees on its left and on its right.
pub data Tree : Type 0 where
  leaf : Tree
  node : Colour → Tree → ℕ → Tree → Tree

-- The link that leads to a tree.
abbrev pub top : Tree → ℕ
top leaf = null
top (node c l i r) = i

abbrev pub colour : Tree → Colour
colour leaf = black
colour (node c l i r) = c

-- "read left, self, right"
unfoldable pub slots : Tree → List ℕ
slots leaf = []
slots (node c l i r) = slots l ++ (i ∷ slots r)

-- How often a slot stands in a list.
unfoldable pub times : ℕ → List ℕ → ℕ
times k [] = 0
times k (i ∷ l) = pick (k == i) 1 0 + times k l

-- The slot q is the next after p in a list of slots: p's successor, where they are a tree's in order.
pub record NextInOrder (p q : ℕ) (l : List ℕ) : Type 0 where
  pub before : List ℕ
  pub after : List ℕ
  pub whole : l ≡ before ++ (p ∷ (q ∷ after))

-- The words of slot i are those of a node: one of n slots, its parent q, its two children and its colour.
pub record Cell (n : ℕ) (cells : List ℕ) (q : ℕ) (c : Colour) (l i r : ℕ) : Type 0 where
  pub inside : i < n
  pub above : cell cells i parent ≡ q
  pub lefts : cell cells i left ≡ l
  pub rights : cell cells i right ≡ r
  pub hued : cell cells i state ≡ code c

-- The words hold the tree under the parent q: "each child points back".
pub data Hangs (n : ℕ) (cells : List ℕ) : ℕ → Tree → Type 0 where
  none : {q : ℕ} → Hangs n cells q leaf
  some : {q : ℕ} {c : Colour} {l : Tree} {i : ℕ} {r : Tree} → Cell n cells q c (top l) i (top r) → Hangs n cells i l → Hangs n cells i r
      → Hangs n cells q (node c l i r)

-- T3 of one tree: "the root's parent is null, each child points back, and the slots reached from the root are .., each once."
pub record Rooted (n : ℕ) (cells : List ℕ) (root : ℕ) (t : Tree) : Type 0 where
  pub from : root ≡ top t
  pub hangs : Hangs n cells null t
  pub once : (k : ℕ) → times k (slots t) ≤ 1

-- T4: "read left, self, right, the pairs strictly rise": each slot's pair is below that of every slot after it.
pub data Below (names : List ℕ) (p : Pair) : List ℕ → Type 0 where
  last : Below names p []
  before : {i : ℕ} {l : List ℕ} → Less p (pair_of names i) → Below names p l → Below names p (i ∷ l)

pub data Rising (names : List ℕ) : List ℕ → Type 0 where
  empty : Rising names []
  rise : {i : ℕ} {l : List ℕ} → Below names (pair_of names i) l → Rising names l → Rising names (i ∷ l)

-- T5: "the root is black; no red slot has a red child."
pub data Calm : Tree → Type 0 where
  nothing : Calm leaf
  darkly : {l : Tree} {i : ℕ} {r : Tree} → Calm l → Calm r → Calm (node black l i r)
  redly : {l : Tree} {i : ℕ} {r : Tree} → colour l ≡ black → colour r ≡ black → Calm l → Calm r → Calm (node red l i r)

pub record Coloured (t : Tree) : Type 0 where
  pub root : colour t ≡ black
  pub calm : Calm t

-- A way from the top of the tree to a null link that meets so many black slots.
abbrev pub blacks : Colour → ℕ
blacks black = 1
blacks red = 0

pub data Meets : Tree → ℕ → Type 0 where
  end : Meets leaf 0
  leftward : {c : Colour} {l : Tree} {i : ℕ} {r : Tree} {k : ℕ} → Meets l k → Meets (node c l i r) (blacks c + k)
  rightward : {c : Colour} {l : Tree} {i : ℕ} {r : Tree} {k : ℕ} → Meets r k → Meets (node c l i r) (blacks c + k)

-- T6: "every way from the root to a null link meets equally many black slots."
abbrev pub Level : Tree → Type 0
Level t = (j k : ℕ) → Meets t j → Meets t k → j ≡ k

-- How many slots the longest way from the top down meets.
abbrev pub higher : ℕ → ℕ → ℕ
higher a b = pick (nat_lt a b) b a

unfoldable pub height : Tree → ℕ
height leaf = 0
height (node c l i r) = suc (higher (height l) (height r))

-- The tree of m slots that the words hold from a root, with T3 to T6.
pub record Shaped (names cells : List ℕ) (root m : ℕ) : Type 0 where
  pub tree : Tree
  pub rooted : Rooted (slots_of names) cells root tree
  pub rising : Rising names (slots tree)
  pub coloured : Coloured tree
  pub level : Level tree
  pub size : length (slots tree) ≡ m
