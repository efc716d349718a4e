-- A slot leaves the tree, by the JDK's drivers as the rules condense them. The chain and the slot's own words are the live tree's.
use Rattle.std.specs.Prelude.{ℕ, zero, suc, eqb}
use Rattle.slots.specs.Words.{null, pick, parent, left, right, black}
use Rattle.redblack.specs.Links.{Links, read, stored, rooted, painted, is_red, colour_of}
use Rattle.redblack.specs.Climbing.{weighed_out, exchanged}
use Rattle.redblack.specs.Deletion.{balanced_deletion}

-- q's child p is replaced by x; with no q, x is the root.
unfoldable pub replaced : Links → ℕ → ℕ → ℕ → Links
replaced s q p x =
    pick (eqb q null) (rooted s x)
    (pick (eqb (read s q left) p) (stored s q left x) (stored s q right x))

-- "With two children, successor and slot trade positions and colours." They trade their sizes too. t is the successor;
-- what is read is read before a link changes.
unfoldable pub lowered : Links → ℕ → ℕ → ℕ → ℕ → Links
lowered s p t pr tp =
    let a = stored s p parent tp in
    pick (eqb t pr) (stored (stored s p parent t) t right p)
    (stored (stored (pick (eqb (read a tp left) t) (stored a tp left p) (stored a tp right p)) t right pr) pr parent t)

unfoldable pub traded : Links → ℕ → ℕ → Links
traded s p t =
    let s1 = painted (painted s t (colour_of s p)) p (colour_of s t) in
    let pl = read s p left in
    let tr = read s t right in
    let pp = read s p parent in
    let s2 = lowered s1 p t (read s p right) (read s t parent) in
    let s3 = stored (stored (stored s2 p left null) p right tr) tr parent p in
    exchanged (replaced (stored (stored (stored s3 t left pl) pl parent t) t parent pp) pp p t) p t

-- "The one child takes the slot's position, or the slot stands as its own replacement."
unfoldable pub replacement : Links → ℕ → ℕ
replacement s p =
    pick (eqb (read s p left) null) (pick (eqb (read s p right) null) p (read s p right)) (read s p left)

unfoldable pub spliced : Links → ℕ → ℕ → Links
spliced s p x =
    let pp = read s p parent in
    let t = replaced (stored s x parent pp) pp p x in
    stored (stored (stored t p left null) p right null) p parent null

-- The slot that stood as its own replacement leaves its parent; with none, the tree is empty.
unfoldable pub detached : Links → ℕ → Links
detached s p =
    let pp = read s p parent in
    stored (replaced s pp p null) p parent null

-- p, with at most one child, goes. "If the removed slot is now black, balance_deletion starts at the replacement.
-- The slot is detached .. A replacement that became the root is painted black." Where it leaves the links it leaves the sizes above it.
unfoldable pub dropped : ℕ → Links → ℕ → Links
dropped budget s p =
    let x = replacement s p in
    let s1 = pick (eqb x p) s (spliced (weighed_out budget s p) p x) in
    let s2 = pick (is_red s p) s1 (balanced_deletion budget s1 x) in
    let s3 = pick (eqb x p) (detached (weighed_out budget s2 p) p) s2 in
    pick (eqb s3.root x) (painted s3 x black) s3

-- The leftmost slot from q down, at most so many steps.
unfoldable pub leftmost : ℕ → Links → ℕ → ℕ
leftmost zero s q = q
leftmost (suc budget) s q = pick (eqb (read s q left) null) q (leftmost budget s (read s q left))

unfoldable pub removed : ℕ → Links → ℕ → Links
removed budget s p =
    pick (eqb (read s p left) null) (dropped budget s p)
    (pick (eqb (read s p right) null) (dropped budget s p)
    (dropped budget (traded s p (leftmost budget s (read s p right))) p))
