-- A tree of slots as the theory takes it: a slot is named together with one of its sides, so that left and right are said once.
-- Then what it means that the links hold such a tree, seen at some place in it.
use Rattle.std.specs.Prelude.{◌≡◌, List, [], ◌∷◌, ◌++◌, ℕ, ◌+◌, ◌*◌, ◌<◌, ◌≤◌, length, eqb}
use Rattle.slots.specs.Words.{null, pick, state, parent, Colour, code, Side, leftward, rightward, other, toward}
use Rattle.redblack.specs.Links.{Links, read}

-- `fork σ c a i b` is the slot i, of colour c, with a on its side σ and b on the other:
-- `fork leftward c a i b` and `fork rightward c b i a` are two names of one tree.
pub data Sided : Type 0 where
  bare : Sided
  fork : Side → Colour → Sided → ℕ → Sided → Sided

-- One step of a way up: the slot i of colour c, which we reach from its side σ, and the subtree on its other side.
pub data Frame : Type 0 where
  frame : Side → Colour → ℕ → Sided → Frame

-- A way from a place in a tree up to the root.
abbrev pub Way : Type 0
Way = List Frame

-- The slot at the top of a tree, and the slot that a way begins with: null where there is none.
abbrev pub top : Sided → ℕ
top bare = null
top (fork σ c a i b) = i

abbrev pub upper : Way → ℕ
upper [] = null
upper (frame σ c i b ∷ C) = i

-- The whole tree, with t at the end of the way.
unfoldable pub plug : Way → Sided → Sided
plug [] t = t
plug (frame σ c i b ∷ C) t = plug C (fork σ c t i b)

-- The slots from left to right.
abbrev pub around : Side → List ℕ → ℕ → List ℕ → List ℕ
around leftward x i y = x ++ (i ∷ y)
around rightward x i y = y ++ (i ∷ x)

unfoldable pub slots : Sided → List ℕ
slots bare = []
slots (fork σ c a i b) = around σ (slots a) i (slots b)

-- How often the slot k stands in a tree and in a way.
unfoldable pub hit : ℕ → ℕ → ℕ
hit i j = pick (eqb i j) 1 0

unfoldable pub count : ℕ → Sided → ℕ
count k bare = 0
count k (fork σ c a i b) = hit k i + count k a + count k b

unfoldable pub count_way : ℕ → Way → ℕ
count_way k [] = 0
count_way k (frame σ c i b ∷ C) = hit k i + count k b + count_way k C

-- The cells are those of n slots, and null is none of them.
pub record Cap (n : ℕ) (s : Links) : Type 0 where
  pub long : length s.cells ≡ 7 * n
  pub small : n ≤ null

-- Slot i holds a fork: its parent is q, its child on the side σ is a and the other b, and its colour is c.
pub record Cell (n : ℕ) (s : Links) (q : ℕ) (σ : Side) (c : Colour) (a i b : ℕ) : Type 0 where
  pub inside : i < n
  pub above : read s i parent ≡ q
  pub this : read s i (toward σ) ≡ a
  pub that : read s i (toward (other σ)) ≡ b
  pub hued : read s i state ≡ code c

-- The tree hangs in the links under the parent q.
pub data Hangs (n : ℕ) (s : Links) : ℕ → Sided → Type 0 where
  none : {q : ℕ} → Hangs n s q bare
  some : {q : ℕ} {σ : Side} {c : Colour} {a b : Sided} {i : ℕ} → Cell n s q σ c (top a) i (top b) → Hangs n s i a → Hangs n s i b
      → Hangs n s q (fork σ c a i b)

-- The way leads in the links from the slot x up to the root.
pub data Leads (n : ℕ) (s : Links) : ℕ → Way → Type 0 where
  home : {x : ℕ} → s.root ≡ x → Leads n s x []
  via : {x : ℕ} {σ : Side} {c : Colour} {i : ℕ} {b : Sided} {C : Way} → Cell n s (upper C) σ c x i (top b) → Hangs n s i b → Leads n s i C
      → Leads n s x (frame σ c i b ∷ C)

-- The links s hold the tree plug C t; t is the part in view, C the way up from it. No slot stands twice.
pub record Site (n : ℕ) (s : Links) (C : Way) (t : Sided) : Type 0 where
  pub cap : Cap n s
  pub way : Leads n s (top t) C
  pub tree : Hangs n s (upper C) t
  pub once : (k : ℕ) → count_way k C + count k t ≤ 1
