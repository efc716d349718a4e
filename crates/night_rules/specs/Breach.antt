-- How a rule is broken: for each way of breaking it what a sentence has to tell, when it is true, and the model that finds it for the slot
-- that is told.
use Rattle.std.specs.Prelude.{◌≡◌, ◌≢◌, Bool, List, ℕ, ◌<◌, ◌≤◌, eqb, leb}
use Rattle.slots.specs.Words.{null, pick, place, state, parent, left, right, prev, next, free, cell, name_of, hash_part, key_part, code}
use Rattle.slots.specs.Words.{red}
use Rattle.slots.specs.Words.{Side, leftward, rightward, toward}
use Rattle.tree_rules.specs.Find.{slots_of}
use Rattle.tree_rules.specs.Check.{Named, in_range, points_back, red_slot}
use Rattle.tree_rules.specs.Chain.{tally}
use Rattle.tree_rules.specs.Tree.{Tree}
use Rattle.tree_rules.specs.Sizes.{size_word, size_in}
use Rattle.index_rules.specs.Live.{Live, root_of, first_of, count_of}
use Rattle.index_rules.specs.Checked.{lesser}
use Rattle.index_rules.specs.Sound.{used, agree, T3}
use Rattle.night_rules.specs.Account.{WayDown, Account}
use Rattle.night_rules.specs.Shows.{Used, LeadsTo, OneChild, OutOfOrder, ShownWay}
use Rattle.night_rules.specs.Why.{neg, lowest_with, misrooted, twins, misfirst, number_below}

-- What breaks the rule at the slot or in the header, with the numbers that show it.
pub data Breach : Type 0 where
  -- T1: a link, by its field; a state; of a free slot its hash, its key, or another field; the header's root, first and count
  stray_link : ℕ → ℕ → Breach
  stray_state : ℕ → Breach
  left_hash : ℕ → Breach
  left_key : ℕ → Breach
  left_field : ℕ → ℕ → Breach
  stray_root : ℕ → Breach
  stray_first : ℕ → Breach
  miscount : ℕ → ℕ → Breach
  -- T2: the count, and root or first
  root_count : ℕ → ℕ → Breach
  first_count : ℕ → ℕ → Breach
  -- T3: the root's parent; no parent; the parent and its two children; a child, by its field, and the child's parent; the one child; root
  root_under : ℕ → Breach
  orphan : Breach
  disowned : ℕ → ℕ → ℕ → Breach
  child_elsewhere : ℕ → ℕ → ℕ → Breach
  child_twice : ℕ → Breach
  off_root : ℕ → Breach
  -- T4: the pair, the pair of the next slot in order, and that slot
  falls : ℕ → ℕ → ℕ → ℕ → ℕ → Breach
  -- T5: the root; a child, by its field
  red_root : Breach
  red_under : ℕ → ℕ → Breach
  -- T6: the black slots of the two ways
  uneven : ℕ → ℕ → Breach
  -- T7: the first's prev; the prev and its next; the next and its prev; first
  first_behind : ℕ → Breach
  prev_astray : ℕ → ℕ → Breach
  next_astray : ℕ → ℕ → Breach
  off_first : ℕ → Breach
  -- T8: the size, and the number of pairs; the size of a free slot
  wrong_size : ℕ → ℕ → Breach
  free_size : ℕ → Breach

-- A link is one of five fields.
pub record LinkOf (f : ℕ) : Type 0 where
  pub low : parent ≤ f
  pub high : f ≤ next

-- It breaks the rule of this number at the slot i, and its numbers are those of the tree.
pub data Breaks (t : Live) (i : ℕ) : ℕ → Breach → Type 0 where
  by_stray_link : {f : ℕ} → LinkOf f → (Named (slots_of t.names) (cell t.cells i f) → ⊥)
      → Breaks t i 1 (stray_link f (cell t.cells i f))
  by_stray_state : 2 < cell t.cells i state → Breaks t i 1 (stray_state (cell t.cells i state))
  by_left_hash : cell t.cells i state ≡ free → name_of t.names i hash_part ≢ 0 → Breaks t i 1 (left_hash (name_of t.names i hash_part))
  by_left_key : cell t.cells i state ≡ free → name_of t.names i key_part ≢ 0 → Breaks t i 1 (left_key (name_of t.names i key_part))
  by_left_place : cell t.cells i state ≡ free → cell t.cells i place ≢ 0 → Breaks t i 1 (left_field place (cell t.cells i place))
  by_left_link : {f : ℕ} → cell t.cells i state ≡ free → LinkOf f → cell t.cells i f ≢ null
      → Breaks t i 1 (left_field f (cell t.cells i f))
  by_root_under : i ≡ root_of t → cell t.cells i parent ≢ null → Breaks t i 3 (root_under (cell t.cells i parent))
  by_orphan : i ≢ root_of t → cell t.cells i parent ≡ null → Breaks t i 3 orphan
  by_disowned : {p : ℕ} → i ≢ root_of t → p ≡ cell t.cells i parent → p ≢ null → (OneChild t.cells p i → ⊥)
      → Breaks t i 3 (disowned p (cell t.cells p left) (cell t.cells p right))
  by_child_elsewhere : {x : ℕ} (σ : Side) → x ≡ cell t.cells i (toward σ) → x ≢ null → cell t.cells x parent ≢ i
      → Breaks t i 3 (child_elsewhere (toward σ) x (cell t.cells x parent))
  by_child_twice : cell t.cells i left ≢ null → cell t.cells i left ≡ cell t.cells i right
      → Breaks t i 3 (child_twice (cell t.cells i left))
  by_off_root : (LeadsTo t.cells parent (root_of t) i → ⊥) → Breaks t i 3 (off_root (root_of t))
  by_falls : {tree : Tree} {j : ℕ} → OutOfOrder t tree i j
      → Breaks t i 4 (falls (name_of t.names i hash_part) (name_of t.names i key_part) (name_of t.names j hash_part)
      (name_of t.names j key_part) j)
  by_red_root : i ≡ root_of t → cell t.cells i state ≡ code red → Breaks t i 5 red_root
  by_red_under : {x : ℕ} (σ : Side) → cell t.cells i state ≡ code red → x ≡ cell t.cells i (toward σ)
      → cell t.cells x state ≡ code red → Breaks t i 5 (red_under (toward σ) x)
  by_uneven : {w v : WayDown} → ShownWay t i leftward w → ShownWay t i rightward v → w.blacks ≢ v.blacks
      → Breaks t i 6 (uneven w.blacks v.blacks)
  by_first_behind : i ≡ first_of t → cell t.cells i prev ≢ null → Breaks t i 7 (first_behind (cell t.cells i prev))
  by_prev_astray : {x : ℕ} → x ≡ cell t.cells i prev → x ≢ null → cell t.cells x next ≢ i
      → Breaks t i 7 (prev_astray x (cell t.cells x next))
  by_next_astray : {x : ℕ} → x ≡ cell t.cells i next → x ≢ null → cell t.cells x prev ≢ i
      → Breaks t i 7 (next_astray x (cell t.cells x prev))
  by_off_first : (LeadsTo t.cells prev (first_of t) i → ⊥) → Breaks t i 7 (off_first (first_of t))
  by_wrong_size : {tree : Tree} → T3 t tree → Used t i → size_word t.sizes i ≢ size_in i tree
      → Breaks t i 8 (wrong_size (size_word t.sizes i) (size_in i tree))
  by_free_size : cell t.cells i state ≡ free → size_word t.sizes i ≢ 0 → Breaks t i 8 (free_size (size_word t.sizes i))

-- It breaks the rule of this number in the header.
pub data HeaderBreaks (t : Live) : ℕ → Breach → Type 0 where
  by_stray_root : (Named (slots_of t.names) (root_of t) → ⊥) → HeaderBreaks t 1 (stray_root (root_of t))
  by_stray_first : (Named (slots_of t.names) (first_of t) → ⊥) → HeaderBreaks t 1 (stray_first (first_of t))
  by_miscount : count_of t ≢ tally (slots_of t.names) (used t.cells)
      → HeaderBreaks t 1 (miscount (count_of t) (tally (slots_of t.names) (used t.cells)))
  by_root_set : count_of t ≡ 0 → root_of t ≢ null → HeaderBreaks t 2 (root_count (count_of t) (root_of t))
  by_root_unset : count_of t ≢ 0 → root_of t ≡ null → HeaderBreaks t 2 (root_count (count_of t) (root_of t))
  by_first_set : count_of t ≡ 0 → first_of t ≢ null → HeaderBreaks t 2 (first_count (count_of t) (first_of t))
  by_first_unset : count_of t ≢ 0 → first_of t ≡ null → HeaderBreaks t 2 (first_count (count_of t) (first_of t))

-- It breaks the rule that is told, at the slot that is told or in the header.
pub data BreaksAt (t : Live) (w : Account) (b : Breach) : Type 0 where
  at_slot : w.slot ≢ null → Breaks t w.slot w.rule b → BreaksAt t w b
  in_header : w.slot ≡ null → HeaderBreaks t w.rule b → BreaksAt t w b

-- The first of the five links for which a test is true, null where none is.
abbrev pub link_with : (ℕ → Bool) → ℕ
link_with f = lowest_with 5 f parent

abbrev pub is_stray : Live → ℕ → ℕ → Bool
is_stray t i f = neg (in_range (slots_of t.names) (cell t.cells i f))

abbrev pub is_set : List ℕ → ℕ → ℕ → Bool
is_set cells i f = neg (eqb (cell cells i f) null)

-- What is not cleared in the free slot i.
unfoldable pub left_in : List ℕ → List ℕ → ℕ → Breach
left_in names cells i =
    pick (neg (eqb (name_of names i hash_part) 0)) (left_hash (name_of names i hash_part))
    (pick (neg (eqb (name_of names i key_part) 0)) (left_key (name_of names i key_part))
    (pick (neg (eqb (cell cells i place) 0)) (left_field place (cell cells i place))
    (let f = link_with (is_set cells i) in left_field f (cell cells i f))))

unfoldable pub breach1 : Live → ℕ → Breach
breach1 t i =
    let f = link_with (is_stray t i) in
    pick (neg (eqb f null)) (stray_link f (cell t.cells i f))
    (pick (leb (cell t.cells i state) 2) (left_in t.names t.cells i) (stray_state (cell t.cells i state)))

unfoldable pub header1 : Live → Breach
header1 t =
    let n = slots_of t.names in
    pick (neg (in_range n (root_of t))) (stray_root (root_of t))
    (pick (neg (in_range n (first_of t))) (stray_first (first_of t)) (miscount (count_of t) (tally n (used t.cells))))

unfoldable pub header2 : Live → Breach
header2 t =
    pick (agree (eqb (root_of t) null) (eqb (count_of t) 0)) (first_count (count_of t) (first_of t)) (root_count (count_of t) (root_of t))

-- The root with a parent, or a slot that is no child of its own.
unfoldable pub misseated : Live → ℕ → Breach
misseated t i =
    let p = cell t.cells i parent in
    pick (eqb i (root_of t)) (root_under p)
    (pick (eqb p null) orphan (disowned p (cell t.cells p left) (cell t.cells p right)))

abbrev pub away_from : List ℕ → ℕ → ℕ → Breach
away_from cells i f = let x = cell cells i f in child_elsewhere f x (cell cells x parent)

unfoldable pub breach3 : Live → ℕ → Breach
breach3 t i =
    pick (misrooted t i) (misseated t i)
    (pick (points_back t.cells i left parent)
    (pick (points_back t.cells i right parent)
    (pick (twins t.cells i) (child_twice (cell t.cells i left)) (off_root (root_of t)))
    (away_from t.cells i right))
    (away_from t.cells i left))

unfoldable pub breach4 : List ℕ → ℕ → ℕ → Breach
breach4 names i j = falls (name_of names i hash_part) (name_of names i key_part) (name_of names j hash_part) (name_of names j key_part) j

unfoldable pub breach5 : Live → ℕ → Breach
breach5 t i =
    let l = cell t.cells i left in
    pick (eqb i (root_of t)) red_root (pick (red_slot t.cells l) (red_under left l) (red_under right (cell t.cells i right)))

unfoldable pub breach7 : Live → ℕ → Breach
breach7 t i =
    let p = cell t.cells i prev in
    let x = cell t.cells i next in
    pick (misfirst t i) (first_behind p)
    (pick (points_back t.cells i prev next)
    (pick (points_back t.cells i next prev) (off_first (first_of t)) (next_astray x (cell t.cells x prev)))
    (prev_astray p (cell t.cells p next)))

-- A number of slots is told as at most 2^32, which is above any size that is stored; in a tree it is never that large.
unfoldable pub breach8 : Live → ℕ → Breach
breach8 t i =
    pick (eqb (cell t.cells i state) free) (free_size (size_word t.sizes i))
    (wrong_size (size_word t.sizes i) (lesser (number_below (slots_of t.names) t.cells i) 4294967296))

-- How the rule that is told is broken, at the slot that is told or in the header.
unfoldable pub breach : Live → Account → Breach
breach t w =
    pick (eqb w.rule 1) (pick (eqb w.slot null) (header1 t) (breach1 t w.slot))
    (pick (eqb w.rule 2) (header2 t)
    (pick (eqb w.rule 3) (breach3 t w.slot)
    (pick (eqb w.rule 4) (breach4 t.names w.slot w.other)
    (pick (eqb w.rule 5) (breach5 t w.slot)
    (pick (eqb w.rule 6) (uneven w.one.blacks w.two.blacks)
    (pick (eqb w.rule 7) (breach7 t w.slot) (breach8 t w.slot)))))))
