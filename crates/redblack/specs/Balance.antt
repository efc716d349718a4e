-- What makes a tree red-black, what a way asks of the tree at its end, and what a balancing comes to.
use Rattle.std.specs.Prelude.{◌≡◌, List, [], ◌∷◌, ◌++◌, ℕ, suc}
use Rattle.slots.specs.Words.{Side, Colour, black, red}
use Rattle.redblack.specs.Links.{Links}
use Rattle.redblack.specs.Sided.{Sided, bare, fork, frame, Way, plug, slots, Site}

-- `RedBlack c h t`: the tree t has the colour c at its top (black where it is bare), every way down it meets h black slots,
-- and no red slot is a child of a red one.
pub data RedBlack : Colour → ℕ → Sided → Type 0 where
  void : RedBlack black 0 bare
  dark : {σ : Side} {c d : Colour} {h : ℕ} {a b : Sided} {i : ℕ} → RedBlack c h a → RedBlack d h b
      → RedBlack black (suc h) (fork σ black a i b)
  rosy : {σ : Side} {h : ℕ} {a b : Sided} {i : ℕ} → RedBlack black h a → RedBlack black h b → RedBlack red h (fork σ red a i b)

-- `Wants h c C`: with a tree of black height h at its end, the way C makes a red-black whole.
-- c is the colour that the way begins with, and red where it is the root's place: under red only a black top may come.
pub data Wants : ℕ → Colour → Way → Type 0 where
  atop : {h : ℕ} → Wants h red []
  below : {h : ℕ} {c d : Colour} {σ : Side} {i : ℕ} {b : Sided} {C : Way} → Wants (suc h) c C → RedBlack d h b
      → Wants h black (frame σ black i b ∷ C)
  under : {h : ℕ} {σ : Side} {i : ℕ} {b : Sided} {C : Way} → Wants h black C → RedBlack black h b → Wants h red (frame σ red i b ∷ C)

-- The colour of a slot that comes up to the end of the way: at the root's place it is black.
abbrev pub crown : Way → Colour → Colour
crown [] c = black
crown (f ∷ C) c = c

-- The part t in view is one black short at the end of C. g is what it counts as: t itself, or nothing where t is the slot about to go.
-- The links s hold t at the end of a new way, which makes a red-black whole with g, and any tree v in that place has the same neighbours.
pub record Mended (n : ℕ) (s : Links) (C : Way) (t g : Sided) : Type 0 where
  pub path : Way
  pub height : ℕ
  pub site : Site n s path t
  pub sound : RedBlack black height (plug path g)
  pub same : (v : Sided) → slots (plug path v) ≡ slots (plug C v)

-- The list k is l with one p taken out, and the order of the others kept.
pub record OneFewer (p : ℕ) (l k : List ℕ) : Type 0 where
  pub before : List ℕ
  pub after : List ℕ
  pub whole : l ≡ before ++ (p ∷ after)
  pub rest : k ≡ before ++ after
