-- The check of a frozen set: a test for each thing that `Accepted` asks, and what `accept` answers. One budget of as many visits as there
-- are slots goes through all bins, lists and trees.
use Rattle.std.specs.Prelude.{Bool, true, false, List, ℕ, zero, suc, ◌+◌, ◌-◌, ◌*◌, length, get_or, eqb, ltb}
use Rattle.slots.specs.Words.{null, pick, state, parent, left, right, prev, next, free, cell, name_of, hash_part, key_part, ◌and◌}
use Rattle.slots.specs.Answers.{Answer, Value, none, some, given, refused}
use Rattle.tree_rules.specs.Find.{slots_of}
use Rattle.tree_rules.specs.Rules.{then, obeyed}
use Rattle.tree_rules.specs.Chain.{chained, tally}
use Rattle.index_rules.specs.Sound.{used, slots_fine, leaves}
use Rattle.set_rules.specs.Words.{Set, tables_of, length_at, headers_in, root_at, first_at, count_at, fits}
use Rattle.set_rules.specs.Words.{Bin, empty, moved, bad, list, tree, bin_of, bin_at, bini}
use Rattle.set_rules.specs.Accepted.{slotted}

-- The hash of slot x names bin i of a table of so many bins.
unfoldable pub is_home : List ℕ → ℕ → ℕ → ℕ → Bool
is_home names len i x = eqb (bini len (name_of names x hash_part)) i

-- Slot x has state 1 and only its next link set.
unfoldable pub is_list_slot : List ℕ → ℕ → Bool
is_list_slot cells x =
    eqb (cell cells x state) 1
    and eqb (cell cells x parent) null
    and eqb (cell cells x left) null
    and eqb (cell cells x right) null
    and eqb (cell cells x prev) null

-- Slots x and y have one pair.
unfoldable pub same_pair : List ℕ → ℕ → ℕ → Bool
same_pair names x y =
    eqb (name_of names x hash_part) (name_of names y hash_part) and eqb (name_of names x key_part) (name_of names y key_part)

-- The pair of slot x is that of no slot from the link y by next, and these are at most v.
unfoldable pub unlike : ℕ → List ℕ → List ℕ → ℕ → ℕ → Bool
unlike zero names cells x y = eqb y null
unlike (suc v) names cells x y = pick (eqb y null) true (pick (same_pair names x y) false (unlike v names cells x (cell cells y next)))

-- Slot x may stand in the list of bin i of a table of len bins, where v visits are left for the slots after it.
unfoldable pub list_slot_fine : ℕ → List ℕ → List ℕ → ℕ → ℕ → ℕ → Bool
list_slot_fine v names cells len i x =
    ltb x (slots_of names) and is_list_slot cells x and is_home names len i x and unlike v names cells x (cell cells x next)

-- The list from the link x, with v visits left: the visits left after it, or none where it goes wrong.
unfoldable pub list_fine : ℕ → List ℕ → List ℕ → ℕ → ℕ → ℕ → Value
list_fine zero names cells len i x = pick (eqb x null) (some 0) none
list_fine (suc v) names cells len i x =
    pick (eqb x null) (some (suc v)) (pick (list_slot_fine v names cells len i x) (list_fine v names cells len i (cell cells x next)) none)

-- Each slot from the link x down, at most so deep, is in the bin that its hash names.
unfoldable pub tree_home : ℕ → List ℕ → List ℕ → ℕ → ℕ → ℕ → Bool
tree_home zero names cells len i x = eqb x null
tree_home (suc depth) names cells len i x =
    pick (eqb x null) true
    (pick (is_home names len i x)
    (pick (tree_home depth names cells len i (cell cells x left)) (tree_home depth names cells len i (cell cells x right)) false)
    false)

-- Slot x is not free and its hash names bin i of a table of len bins. Where all else is right it is then an entry of that bin.
unfoldable pub is_own : List ℕ → List ℕ → ℕ → ℕ → ℕ → Bool
is_own names cells len i x = pick (eqb (cell cells x state) free) false (is_home names len i x)

-- Each slot of the chain from the link x, at most v of them, is such a slot.
unfoldable pub chain_own : ℕ → List ℕ → List ℕ → ℕ → ℕ → ℕ → Bool
chain_own zero names cells len i x = eqb x null
chain_own (suc v) names cells len i x =
    pick (eqb x null) true (pick (is_own names cells len i x) (chain_own v names cells len i (cell cells x next)) false)

-- A tree of m slots that obeys T3 to T6: its header has a root, a first and that count, its chain has as many slots, each its own, and its
-- slots are in the bin that their hashes name.
unfoldable pub tree_good : List ℕ → List ℕ → ℕ → ℕ → ℕ → ℕ → ℕ → ℕ → Bool
tree_good names cells len i root first count m =
    pick (eqb root null) false
    (pick (eqb first null) false
    (pick (eqb m count)
    (pick (leaves (slots_of names) count (chained (slots_of names) (slots_of names) cells null first))
    (pick (chain_own (slots_of names) names cells len i first) (tree_home (slots_of names) names cells len i root) false)
    false)
    false))

-- The tree of a header, with v visits left: the visits left after it, or none where it goes wrong.
unfoldable pub tree_fine : List ℕ → List ℕ → ℕ → ℕ → ℕ → ℕ → ℕ → ℕ → Value
tree_fine names cells len i root first count v =
    then (obeyed names cells root v) (λ rest. pick (tree_good names cells len i root first count (v - rest)) (some rest) none)

-- A bin may stand where it does: it is not bad, it is empty unless it `may` hold something, and a Moved one has tables after its own.
unfoldable pub may_stand : Bin → Bool → ℕ → Bool
may_stand empty may left = true
may_stand moved may left = pick (eqb left 0) false may
may_stand (list a) may left = may
may_stand (tree h) may left = may
may_stand bad may left = false

-- The list or tree of a bin, with v visits left.
unfoldable pub own_fine : Set → ℕ → ℕ → Bin → ℕ → Value
own_fine s len i empty v = some v
own_fine s len i moved v = some v
own_fine s len i (list a) v = list_fine v s.names s.cells len i a
own_fine s len i (tree h) v = tree_fine s.names s.cells len i (root_at s h) (first_at s h) (count_at s h) v
own_fine s len i bad v = some v

abbrev pub is_moved : Bin → Bool
is_moved empty = false
is_moved moved = true
is_moved (list a) = false
is_moved (tree h) = false
is_moved bad = false

-- A bin, where so many tables come after its own, with the check of the two bins below it: these may hold something where it is Moved.
unfoldable pub bin_asks : Set → ℕ → ℕ → ℕ → (Bool → ℕ → Value) → Bool → ℕ → Bin → Value
bin_asks s left k i below may v b = pick (may_stand b may left) (then (own_fine s (length_at s k) i b v) (below (is_moved b))) none

-- The check of the two bins below bin i of table k, and of a bin: they ask each other, the tables left falling.
unfoldable pub below_fine : ℕ → Set → ℕ → ℕ → Bool → ℕ → Value
below_fine zero s k i may v = some v
below_fine (suc left) s k i may v =
    then (bin_asks s left (suc k) i (below_fine left s (suc k) i) may v (bin_at s (suc k) i))
    (λ w. bin_asks s left (suc k) (i + length_at s k) (below_fine left s (suc k) (i + length_at s k)) may w
    (bin_at s (suc k) (i + length_at s k)))

unfoldable pub bin_fine : ℕ → Set → ℕ → ℕ → Bool → ℕ → Value
bin_fine left s k i may v = bin_asks s left k i (below_fine left s k i) may v (bin_at s k i)

-- The first so many bins of table 0.
unfoldable pub table_fine : ℕ → Set → ℕ → Value
table_fine zero s v = some v
table_fine (suc i) s v = then (bin_fine (tables_of s - 1) s 0 i true v) (λ w. table_fine i s w)

-- A header is null with count 0.
unfoldable pub is_blank : ℕ → ℕ → ℕ → Bool
is_blank root first count = eqb root null and eqb first null and eqb count 0

-- 1 for a header that is not null with count 0, 0 for one that is.
abbrev pub filled : List ℕ → ℕ → ℕ
filled heads h = pick (is_blank (get_or heads (3 * h) null) (get_or heads (3 * h + 1) null) (get_or heads (3 * h + 2) null)) 0 1

-- 1 for a bin that names a header, 0 for any other; and so for the word p of the row of all bins, in a set of n slots and h headers.
abbrev pub names_header : Bin → ℕ
names_header empty = 0
names_header moved = 0
names_header (list a) = 0
names_header (tree h) = 1
names_header bad = 0

abbrev pub naming : ℕ → ℕ → List ℕ → ℕ → ℕ
naming n h bins p = names_header (bin_of n h (get_or bins p 0))

-- As many of the h headers are not null with count 0 as bins name one. On a set that passes the other tests no two bins name one header,
-- and a named one has a root; so those are the named ones, and the others are null with count 0.
unfoldable pub headers_fine : ℕ → ℕ → List ℕ → List ℕ → Bool
headers_fine n h heads bins = eqb (tally h (filled heads)) (tally (length bins) (naming n h bins))

-- The bins hold as many slots as are not free: the visits used are as many.
unfoldable pub all_held : Set → Bool
all_held s = leaves (slots_of s.names) (tally (slots_of s.names) (used s.cells)) (table_fine (length_at s 0) s (slots_of s.names))

-- The whole check.
unfoldable pub accepted : Set → Bool
accepted s =
    slots_fine (slots_of s.names) (slots_of s.names) (slotted s)
    and headers_fine (slots_of s.names) (headers_in s) s.heads s.bins and all_held s

-- "The full check and acceptance give 1, or else yes or no": yes is 1, no is 0.
unfoldable pub accepts : Set → Answer
accepts s = pick (fits s) (pick (accepted s) (given 1) (given 0)) (refused 1)
