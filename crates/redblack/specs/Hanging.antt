-- Where the order says that a pair hangs, and how a slot is hung there.
use Rattle.std.specs.Prelude.{List, ℕ, zero, suc, eqb}
use Rattle.slots.specs.Words.{null, pick, parent, left, right, cell, name_of, hash_part, key_part}
use Rattle.slots.specs.Pairs.{before}
use Rattle.redblack.specs.Links.{Links, stored}
use Rattle.redblack.specs.Climbing.{weighed_in}
use Rattle.redblack.specs.Insertion.{balanced_insertion}

-- The slot above, null where the tree is empty, and the field of the side to hang on.
pub record Spot : Type 0 where
  pub above : ℕ
  pub side : ℕ

abbrev pub spot : ℕ → ℕ → Spot
spot p f = record { above = p; side = f }

abbrev pub side_for : List ℕ → ℕ → ℕ → ℕ → ℕ
side_for names p hash key = pick (before hash key (name_of names p hash_part) (name_of names p key_part)) left right

-- Down from the slot p by the order of pairs until a null link, at most so many steps.
unfoldable pub descended : List ℕ → List ℕ → ℕ → ℕ → ℕ → ℕ → Spot
descended names cells zero p hash key = spot p (side_for names p hash key)
descended names cells (suc steps) p hash key =
    let f = side_for names p hash key in
    let q = cell cells p f in
    pick (eqb q null) (spot p f) (descended names cells steps q hash key)

-- The slot x hangs at the spot, with no child.
unfoldable pub hooked : Links → ℕ → Spot → Links
hooked s x at =
    let s1 = stored (stored (stored s x parent at.above) x left null) x right null in
    stored s1 at.above at.side x

-- Hung, counted, and balanced: in an empty tree x becomes the root and is black.
unfoldable pub inserted : ℕ → Links → ℕ → Spot → Links
inserted budget s x at = balanced_insertion budget (weighed_in budget (hooked s x at) x) x

-- The spot where the order says that the pair hangs: under no slot where the tree is empty.
unfoldable pub spotted : ℕ → List ℕ → Links → ℕ → ℕ → Spot
spotted steps names s hash key = pick (eqb s.root null) (spot null left) (descended names s.cells steps s.root hash key)
