-- One bin moved to the next table: what is left of the set, and what is answered.
use Rattle.std.specs.Prelude.{Bool, true, false, List, [], ℕ, zero, suc, ◌+◌, ◌-◌, ◌*◌, ◌%◌, get_or, set, eqb, leb, ltb}
use Rattle.slots.specs.Words.{null, pick, most_slots}
use Rattle.slots.specs.Answers.{Answer, given, refused}
use Rattle.tree_rules.specs.Find.{slots_of}
use Rattle.redblack.specs.Links.{Links, lent_links}
use Rattle.set_rules.specs.Words.{Set, tables_of, length_at, headers_in, bins_before, fits, Bin, empty, moved, bad, list, tree}
use Rattle.set_rules.specs.Words.{first_tree, bin_at}
use Rattle.set_rules.specs.Accepting.{accepted, is_moved}
use Rattle.move_rules.specs.Passes.{home_count, first_home, threaded, plained, backed, joined_from}

-- The set with other bins, headers and cells. "Names and lengths are never written."
abbrev pub rewritten : Set → List ℕ → List ℕ → List ℕ → Set
rewritten s bins heads cells = record { lengths = s.lengths; bins = bins; heads = heads; names = s.names; cells = cells }

-- Where the word of bin i of table k stands.
abbrev pub place_of : Set → ℕ → ℕ → ℕ
place_of s k i = bins_before s.lengths k + i

-- The first slot of a bin in listing order, null where it has none: a list goes by next, a tree by its chain from first.
abbrev pub first_in : List ℕ → Bin → ℕ
first_in heads empty = null
first_in heads moved = null
first_in heads bad = null
first_in heads (list p) = p
first_in heads (tree h) = get_or heads (3 * h + 1) null

-- The header of a bin, null where it has none.
abbrev pub header_in : Bin → ℕ
header_in empty = null
header_in moved = null
header_in bad = null
header_in (list p) = null
header_in (tree h) = h

-- "The low half goes to the same index below, the high half to that plus the upper length."
abbrev pub high_index : Set → ℕ → ℕ → ℕ
high_index s k i = i + length_at s k

-- How many entries of bin i of table k go to bin j below, and the first of them in listing order.
unfoldable pub half_count : Set → ℕ → ℕ → ℕ → ℕ
half_count s k i j = home_count (slots_of s.names) s.names s.cells (length_at s (suc k)) j (first_in s.heads (bin_at s k i))

unfoldable pub half_first : Set → ℕ → ℕ → ℕ → ℕ
half_first s k i j = first_home (slots_of s.names) s.names s.cells (length_at s (suc k)) j (first_in s.heads (bin_at s k i))

-- "A half of one to six entries becomes a list".
abbrev pub most_listed : ℕ
most_listed = 6

-- The lowest of so many headers from h on that has no root, or is the bin's own; null where there is none. On an accepted set the headers
-- without a root are those that no bin names.
unfoldable pub spare_from : ℕ → List ℕ → ℕ → ℕ → ℕ
spare_from zero heads own h = null
spare_from (suc m) heads own h =
    pick (eqb h own) h (pick (eqb (get_or heads (3 * h) null) null) h (spare_from m heads own (suc h)))

-- The header for a half of so many entries, from header h on.
unfoldable pub header_for : Set → ℕ → ℕ → ℕ → ℕ
header_for s own h count = pick (leb count most_listed) null (spare_from (headers_in s - h) s.heads own h)

-- "lowest free header first, low half first"
unfoldable pub low_header : Set → ℕ → ℕ → ℕ
low_header s k i = header_for s (header_in (bin_at s k i)) 0 (half_count s k i i)

unfoldable pub high_header : Set → ℕ → ℕ → ℕ
high_header s k i =
    let from = pick (leb (half_count s k i i) most_listed) 0 (suc (low_header s k i)) in
    header_for s (header_in (bin_at s k i)) from (half_count s k i (high_index s k i))

-- A half of so many entries wants a header, and has none.
unfoldable pub lacks : ℕ → ℕ → Bool
lacks count h = pick (leb count most_listed) false (eqb h null)

-- The header h with its three words.
unfoldable pub headed_at : List ℕ → ℕ → ℕ → ℕ → ℕ → List ℕ
headed_at heads h root first count = set (set (set heads (3 * h) root) (3 * h + 1) first) (3 * h + 2) count

-- A bin's header is given back: null, null and 0.
unfoldable pub heads_freed : List ℕ → Bin → List ℕ
heads_freed heads b = headed_at heads (header_in b) null null 0

-- The bins with Moved as bin i of table k.
unfoldable pub bins_moved : Set → ℕ → ℕ → List ℕ
bins_moved s k i = set s.bins (place_of s k i) 1

-- The cells with the entries of bin i of table k strung by halves.
unfoldable pub cells_halved : Set → ℕ → ℕ → List ℕ
cells_halved s k i =
    threaded (slots_of s.names) s.names (length_at s (suc k)) i s.cells null null (first_in s.heads (bin_at s k i))

-- Bin i of table k is Moved, its header given back, and its entries are strung by halves.
abbrev pub bin_taken : Set → ℕ → ℕ → Set
bin_taken s k i = rewritten s (bins_moved s k i) (heads_freed s.heads (bin_at s k i)) (cells_halved s k i)

-- The word of the list from slot p, "an empty one the word 0", and that of the tree of header h; 0 where no set has such a slot or header.
unfoldable pub list_head : ℕ → ℕ
list_head p = pick (ltb p most_slots) (p + 2) 0

unfoldable pub tree_head : ℕ → ℕ
tree_head h = pick (ltb h most_slots) (h + first_tree) 0

-- The slots from the link p as the list of bin i of table k.
unfoldable pub list_laid : Set → ℕ → ℕ → ℕ → Set
list_laid s k i p = rewritten s (set s.bins (place_of s k i) (list_head p)) s.heads (plained (slots_of s.names) s.cells p)

-- The tree of these slots: each has its prev, and joins in their order. A frozen set carries no sizes.
unfoldable pub tree_grown : Set → ℕ → Links
tree_grown s p =
    joined_from (slots_of s.names) s.names (lent_links (backed (slots_of s.names) s.cells null p) null []) p

-- The headers with that tree as h, and these slots, so many, as the tree of bin i of table k.
unfoldable pub tree_heads : Set → ℕ → ℕ → ℕ → List ℕ
tree_heads s h p count = headed_at s.heads h (tree_grown s p).root p count

unfoldable pub tree_laid : Set → ℕ → ℕ → ℕ → ℕ → ℕ → Set
tree_laid s k i h p count = rewritten s (set s.bins (place_of s k i) (tree_head h)) (tree_heads s h p count) (tree_grown s p).cells

-- "A half of one to six entries becomes a list, an empty one the word 0; a larger one becomes a tree".
unfoldable pub half_laid : Set → ℕ → ℕ → ℕ → ℕ → ℕ → Set
half_laid s k i h p count = pick (leb count most_listed) (list_laid s k i p) (tree_laid s k i h p count)

-- The low half is laid, and then the high half.
unfoldable pub low_laid : Set → ℕ → ℕ → Set
low_laid s k i = half_laid (bin_taken s k i) (suc k) i (low_header s k i) (half_first s k i i) (half_count s k i i)

unfoldable pub both_laid : Set → ℕ → ℕ → Set
both_laid s k i =
    half_laid (low_laid s k i) (suc k) (high_index s k i) (high_header s k i) (half_first s k i (high_index s k i))
    (half_count s k i (high_index s k i))

-- The bin may be moved: there is a next table and such a bin, it is not Moved, and its parent is.
unfoldable pub parent_moved : Set → ℕ → ℕ → Bool
parent_moved s zero i = true
parent_moved s (suc k) i = is_moved (bin_at s k (i % length_at s k))

unfoldable pub movable : Set → ℕ → ℕ → Bool
movable s k i =
    pick (ltb (suc k) (tables_of s))
    (pick (ltb i (length_at s k)) (pick (is_moved (bin_at s k i)) false (parent_moved s k i)) false)
    false

-- What a move answers, and the set that it leaves.
pub record MoveOutcome : Type 0 where
  pub answer : Answer
  pub set : Set

abbrev pub move_outcome : Answer → Set → MoveOutcome
move_outcome a s = record { answer = a; set = s }

-- A bin that may be moved: 5 before anything is written, or the entries moved.
unfoldable pub moves_bin : Set → ℕ → ℕ → MoveOutcome
moves_bin s k i =
    pick (lacks (half_count s k i i) (low_header s k i)) (move_outcome (refused 5) s)
    (pick (lacks (half_count s k i (high_index s k i)) (high_header s k i)) (move_outcome (refused 5) s)
    (move_outcome (given (half_count s k i i + half_count s k i (high_index s k i))) (both_laid s k i)))

-- "Refusals: 1, 10, 2 (here: not accepted), 16 .., 5 where headers run out, in that order." A refusal writes nothing.
unfoldable pub moves : Set → ℕ → ℕ → MoveOutcome
moves s k i =
    pick (fits s)
    (pick (ltb k (tables_of s))
    (pick (accepted s)
    (pick (movable s k i) (moves_bin s k i) (move_outcome (refused 16) s))
    (move_outcome (refused 2) s))
    (move_outcome (refused 10) s))
    (move_outcome (refused 1) s)
