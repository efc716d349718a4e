-- The stored sizes where a slot joins a tree, leaves it, or trades its place. No link is written.
use Rattle.std.specs.Prelude.{List, ℕ, zero, suc, get_or, set, eqb}
use Rattle.slots.specs.Words.{null, pick, parent, cell}
use Rattle.redblack.specs.Links.{Links, read, resized}
use Rattle.slots.specs.Words.{sum}

-- What is added on the way up: one, or 2^32 - 1, which takes one off.
abbrev pub one_more : ℕ
one_more = 1

abbrev pub one_less : ℕ
one_less = 4294967295

-- The way up by the parent links of the cells: d is added to the size of p and of every slot above it, at most so many.
unfoldable pub climbed : ℕ → List ℕ → List ℕ → ℕ → ℕ → List ℕ
climbed zero cells l p d = l
climbed (suc budget) cells l p d = pick (eqb p null) l (climbed budget cells (set l p (sum (get_or l p 0) d)) (cell cells p parent) d)

-- The slot x has the size v, and every slot above it d more.
abbrev pub weighed : ℕ → Links → ℕ → ℕ → ℕ → Links
weighed budget s x v d = resized s (climbed budget s.cells (set s.sizes x v) (read s x parent) d)

-- The slot x joins, or leaves.
abbrev pub weighed_in : ℕ → Links → ℕ → Links
weighed_in budget s x = weighed budget s x 1 one_more

abbrev pub weighed_out : ℕ → Links → ℕ → Links
weighed_out budget s x = weighed budget s x 0 one_less

-- The two slots have each other's size.
unfoldable pub swapped : List ℕ → ℕ → ℕ → List ℕ
swapped l p t = set (set l p (get_or l t 0)) t (get_or l p 0)

abbrev pub exchanged : Links → ℕ → ℕ → Links
exchanged s p t = resized s (swapped s.sizes p t)
