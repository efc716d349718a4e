-- The source's balance_deletion: its loop, a turn at a time, with a budget of turns. x stands on the near side of xp, y is its sibling.
-- A null sibling needs no test of its own: it is not red, nor are its children, and painting it paints nothing.
use Rattle.std.specs.Prelude.{ℕ, zero, suc, eqb}
use Rattle.slots.specs.Words.{null, pick, parent, left, right, black, red}
use Rattle.redblack.specs.Links.{Links, read, rooted, painted, is_red, colour_of, Turn, done, more}
use Rattle.redblack.specs.Rotate.{rotated}

-- The outer nephew is red: the sibling takes the parent's colour, its outer child and the parent turn black, and the parent goes down.
-- The source then goes on from the root, where the loop ends.
unfoldable pub capped : ℕ → ℕ → Links → ℕ → ℕ → Links
capped near far s xp y =
    let s1 = painted s y (colour_of s xp) in
    painted (painted s1 (read s1 y far) black) xp black

unfoldable pub outer_red : ℕ → ℕ → Links → ℕ → ℕ → Turn
outer_red near far s xp y =
    let t = rotated near far (capped near far s xp y) xp in
    more t t.root

-- The inner nephew is red and the outer is not: the inner one turns black, the sibling red, and the sibling goes down on the far side.
unfoldable pub inner_red : ℕ → ℕ → Links → ℕ → Links
inner_red near far s y = rotated far near (painted (painted s (read s y near) black) y red) y

-- The sibling is not red.
unfoldable pub dark_sib : ℕ → ℕ → Links → ℕ → ℕ → ℕ → Turn
dark_sib near far s x xp y =
    let t = inner_red near far s y in
    let q = read t x parent in
    pick (is_red s (read s y far)) (outer_red near far s xp y)
    (pick (is_red s (read s y near)) (outer_red near far t q (read t q far))
    (more (painted s y red) xp))

-- A red sibling turns black, the parent red, and the parent goes down first.
unfoldable pub by_sib : ℕ → ℕ → Links → ℕ → ℕ → Turn
by_sib near far s x xp =
    let y = read s xp far in
    let t = rotated near far (painted (painted s y black) xp red) xp in
    let q = read t x parent in
    pick (is_red s y) (dark_sib near far t x q (read t q far)) (dark_sib near far s x xp y)

-- One turn. At x equal to the root it ends before it looks at the colour.
unfoldable pub deletion_turn : Links → ℕ → Turn
deletion_turn s x =
    let xp = read s x parent in
    pick (eqb x null) (done s)
    (pick (eqb x s.root) (done s)
    (pick (eqb xp null) (done (rooted (painted s x black) x))
    (pick (is_red s x) (done (painted s x black))
    (pick (eqb (read s xp left) x) (by_sib left right s x xp) (by_sib right left s x xp)))))

unfoldable pub balanced_deletion : ℕ → Links → ℕ → Links
balanced_deletion zero s x = s
balanced_deletion (suc budget) s x = elim (deletion_turn s x) [ done t ↦ t | more t y ↦ balanced_deletion budget t y ]
