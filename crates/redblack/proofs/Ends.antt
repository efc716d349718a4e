-- Words that only proofs use: a part of a red-black whole, what an insertion and a removal come to, and which fields are links.
use mathlib.Core.Path.{◌≡◌}
use mathlib.Core.List.{List, [], ◌∷◌, ◌++◌}
use Prim.Native.Nat.{ℕ}
use Rattle.slots.specs.Words.{parent, Side, toward, Colour, black, red}
use Rattle.redblack.specs.Links.{Links}
use Rattle.redblack.specs.Sided.{Sided, Way, around, slots, Site}
use Rattle.redblack.specs.Balance.{RedBlack, Wants, OneFewer}

-- What a red-black whole says of the part t at the end of the way C: it is black, or it is red and the slot above it black.
pub data Part (C : Way) (t : Sided) : Type 0 where
  black_part : {h : ℕ} {c : Colour} → Wants h c C → RedBlack black h t → Part C t
  red_part : {h : ℕ} → Wants h black C → RedBlack red h t → Part C t

-- The links s hold a whole tree that is red-black with a black root, and its slots from left to right are l.
pub record Outcome (n : ℕ) (s : Links) (l : List ℕ) : Type 0 where
  pub tree : Sided
  pub height : ℕ
  pub site : Site n s [] tree
  pub sound : RedBlack black height tree
  pub same : slots tree ≡ l

-- The list k is l with x put in next to q, on its side σ.
pub record Beside (σ : Side) (q x : ℕ) (l k : List ℕ) : Type 0 where
  pub before : List ℕ
  pub after : List ℕ
  pub was : l ≡ before ++ (q ∷ after)
  pub now : k ≡ before ++ (around σ (x ∷ []) q [] ++ after)

-- The links s hold a whole red-black tree whose slots are l with x next to q, on its side σ.
pub record With (n : ℕ) (s : Links) (σ : Side) (q x : ℕ) (l : List ℕ) : Type 0 where
  pub all : List ℕ
  pub outcome : Outcome n s all
  pub beside : Beside σ q x l all

-- The links s hold a whole red-black tree whose slots are l without p.
pub record Without (n : ℕ) (s : Links) (p : ℕ) (l : List ℕ) : Type 0 where
  pub others : List ℕ
  pub outcome : Outcome n s others
  pub less : OneFewer p l others

-- The field g is a link of the tree: up, or toward a side.
pub data Link : ℕ → Type 0 where
  up : Link parent
  on : (σ : Side) → Link (toward σ)
