-- The source's rotations, once over the side: `rotated left right` is rotate_left, `rotated right left` rotate_right.
use Rattle.std.specs.Prelude.{List, ℕ, get_or, set, eqb}
use Rattle.slots.specs.Words.{null, pick, parent, black}
use Rattle.redblack.specs.Links.{Links, read, stored, rooted, painted, resized}
use Rattle.slots.specs.Words.{sum}

-- r takes p's place under pp, or becomes the root and is painted black. The source looks at the near side first.
unfoldable pub hung : ℕ → ℕ → Links → ℕ → ℕ → ℕ → Links
hung near far s pp p r =
    pick (eqb pp null) (painted (rooted s r) r black)
    (pick (eqb (read s pp near) p) (stored s pp near r) (stored s pp far r))

-- The sizes once the links have moved: r has the size that p had, and p, whose children are a and b now, is counted anew from theirs.
unfoldable pub recounted : List ℕ → ℕ → ℕ → ℕ → ℕ → List ℕ
recounted l p r a b =
    let k = set l r (get_or l p 0) in
    set k p (sum 1 (sum (get_or k a 0) (get_or k b 0)))

-- p's child r on the far side goes up, its inner subtree goes over to p, and p goes down on the near side.
unfoldable pub turned : ℕ → ℕ → Links → ℕ → ℕ → Links
turned near far s p r =
    let inner = read s r near in
    let s1 = stored (stored s p far inner) inner parent p in
    let pp = read s1 p parent in
    let s2 = hung near far (stored s1 r parent pp) pp p r in
    let s3 = stored (stored s2 r near p) p parent r in
    resized s3 (recounted s3.sizes p r (read s3 p near) (read s3 p far))

-- "p null or the needed child null returns root".
unfoldable pub rotated : ℕ → ℕ → Links → ℕ → Links
rotated near far s p =
    let r = read s p far in
    pick (eqb p null) s (pick (eqb r null) s (turned near far s p r))
