-- The source's balance_insertion: its loop, a turn at a time, with a budget of turns.
-- The source's tests for null around a read or a write fall away: at null there is nothing to read, and a write is none.
use Rattle.std.specs.Prelude.{ℕ, zero, suc, eqb}
use Rattle.slots.specs.Words.{null, pick, parent, left, right, black, red}
use Rattle.redblack.specs.Links.{Links, read, rooted, painted, is_red, Turn, done, more}
use Rattle.redblack.specs.Rotate.{rotated}

-- The parent is painted black, the grandparent red, and the grandparent goes down on the far side.
unfoldable pub raised : ℕ → ℕ → Links → ℕ → ℕ → Links
raised near far s xp xpp = rotated far near (painted (painted s xp black) xpp red) xpp

-- The uncle is not red. Where x stands on the inner side its parent goes down first, and takes x's part.
unfoldable pub straightened : ℕ → ℕ → Links → ℕ → ℕ → ℕ → Turn
straightened near far s x xp xpp =
    let t = rotated near far s xp in
    let q = read t xp parent in
    pick (eqb x (read s xp far)) (more (raised near far t q (read t q parent)) xp)
    (more (raised near far s xp xpp) x)

-- The parent stands on the near side of the grandparent. A red uncle: both are painted black, and the loop goes on from the grandparent.
unfoldable pub lifted : ℕ → ℕ → Links → ℕ → ℕ → ℕ → Turn
lifted near far s x xp xpp =
    let uncle = read s xpp far in
    pick (is_red s uncle) (more (painted (painted (painted s uncle black) xp black) xpp red) xpp)
    (straightened near far s x xp xpp)

-- One turn: x with no parent is the root and is painted black; a parent that is black, or the root, ends the loop.
unfoldable pub insertion_turn : Links → ℕ → Turn
insertion_turn s x =
    let xp = read s x parent in
    let xpp = read s xp parent in
    pick (eqb xp null) (done (rooted (painted s x black) x))
    (pick (is_red s xp)
    (pick (eqb xpp null) (done s)
    (pick (eqb (read s xpp left) xp) (lifted left right s x xp xpp) (lifted right left s x xp xpp)))
    (done s))

unfoldable pub insertion_turns : ℕ → Links → ℕ → Links
insertion_turns zero s x = s
insertion_turns (suc budget) s x = elim (insertion_turn s x) [ done t ↦ t | more t y ↦ insertion_turns budget t y ]

-- The new slot is painted red, then the loop runs.
unfoldable pub balanced_insertion : ℕ → Links → ℕ → Links
balanced_insertion budget s x = insertion_turns budget (painted s x red) x
