-- "Lookup from table t: the source's loop leaves with the answer at the first bin that is not Moved: a list read by next, a tree by
-- `find_tree_node`."
use Rattle.std.specs.Prelude.{◌≡◌, ◌≢◌, ◌⊎◌, Bool, List, ℕ, zero, suc, ◌-◌, ◌<◌, ◌≤◌, eqb, ltb, leb}
use Rattle.slots.specs.Words.{null, pick, next, cell, name_of, hash_part, key_part, ◌and◌}
use Rattle.slots.specs.Pairs.{pair, pair_of}
use Rattle.slots.specs.Answers.{nothing, refused}
use Rattle.tree_rules.specs.Find.{Look, here, on, Search, ends, looked_then, slots_of, found, Lost, Here, Missed}
use Rattle.set_rules.specs.Words.{Set, tables_of, length_at, root_at, fits, Bin, empty, moved, bad, list, tree, bin_at, bini}

-- Slot p has the pair (hash, key).
unfoldable pub has_pair : List ℕ → ℕ → ℕ → ℕ → Bool
has_pair names p hash key = eqb (name_of names p hash_part) hash and eqb (name_of names p key_part) key

-- What a look at a list's slot says: the pair is here, or the list goes on by next.
abbrev pub list_look : List ℕ → List ℕ → ℕ → ℕ → ℕ → Look
list_look names cells p hash key = pick (has_pair names p hash key) here (on (cell cells p next))

-- The list from the link p read by next, with so many visits left.
unfoldable pub sought_in_list : List ℕ → List ℕ → ℕ → ℕ → ℕ → ℕ → Search
sought_in_list names cells zero p hash key = pick (eqb p null) (ends nothing) (ends (refused 9))
sought_in_list names cells (suc visits) p hash key =
    pick (eqb p null) (ends nothing)
    (pick (leb (slots_of names) p) (ends (refused 9))
    (looked_then (list_look names cells p hash key) p (λ q. sought_in_list names cells visits q hash key)))

-- The bin of table k for a hash.
abbrev pub home_bin : Set → ℕ → ℕ → Bin
home_bin s k hash = bin_at s k (bini (length_at s k) hash)

-- What a bin gives; a Moved one asks on.
abbrev pub asked : Set → Bin → ℕ → ℕ → Search → Search
asked s empty hash key below = ends nothing
asked s moved hash key below = below
asked s bad hash key below = ends (refused 9)
asked s (list p) hash key below = sought_in_list s.names s.cells (slots_of s.names) p hash key
asked s (tree h) hash key below = found s.names s.cells (root_at s h) hash key

-- The loop from table k, with so many tables left. Moved in the last table is 9.
unfoldable pub forwarded : ℕ → Set → ℕ → ℕ → ℕ → Search
forwarded zero s k hash key = ends (refused 9)
forwarded (suc tables) s k hash key = asked s (home_bin s k hash) hash key (forwarded tables s (suc k) hash key)

-- "lookup and start 1, 10, then 9"
unfoldable pub lookups : Set → ℕ → ℕ → ℕ → Search
lookups s t hash key =
    pick (fits s) (pick (ltb t (tables_of s)) (forwarded (tables_of s - t) s t hash key) (ends (refused 10))) (ends (refused 1))

-- The loop alone, for words that are known to fit. On any others more than eight tables, or no such table, is 9.
unfoldable pub lookups_fit : Set → ℕ → ℕ → ℕ → Search
lookups_fit s t hash key = pick (leb (tables_of s) 8) (forwarded (tables_of s - t) s t hash key) (ends (refused 9))

-- A list from first is read up to the link p once k slots are visited, none of which has the pair.
pub data ListFollows (names cells : List ℕ) (first hash key : ℕ) : ℕ → ℕ → Type 0 where
  start : ListFollows names cells first hash key 0 first
  step : {k p : ℕ}
      → ListFollows names cells first hash key k p
      → p ≢ null
      → p < slots_of names
      → pair_of names p ≢ pair hash key
      → ListFollows names cells first hash key (suc k) (cell cells p next)

-- "a read follows a link neither null nor a slot .., or would visit one slot more than there are slots"
pub record ListLost (names cells : List ℕ) (first hash key : ℕ) : Type 0 where
  pub visited : ℕ
  pub link : ℕ
  pub follows : ListFollows names cells first hash key visited link
  pub solid : link ≢ null
  pub astray : (slots_of names ≤ link) ⊎ (slots_of names ≤ visited)

-- A slot read that has the pair.
pub record ListHere (names cells : List ℕ) (first hash key slot : ℕ) : Type 0 where
  pub visited : ℕ
  pub follows : ListFollows names cells first hash key visited slot
  pub solid : slot ≢ null
  pub inside : slot < slots_of names
  pub timely : visited < slots_of names
  pub has : pair_of names slot ≡ pair hash key

-- A null link read while visits are left.
pub record ListMissed (names cells : List ℕ) (first hash key : ℕ) : Type 0 where
  pub visited : ℕ
  pub follows : ListFollows names cells first hash key visited null
  pub timely : visited ≤ slots_of names

-- The loop from table t comes to the bin of table k: that of t, and below a Moved one that of the next table.
pub data Reaches (s : Set) (t hash : ℕ) : ℕ → Type 0 where
  start : Reaches s t hash t
  down : {k : ℕ} → Reaches s t hash k → home_bin s k hash ≡ moved → suc k < tables_of s → Reaches s t hash (suc k)

-- 9: "a bad bin word or Moved in the last table", or a list or a tree that is lost.
pub data Astray (s : Set) (t hash key : ℕ) : Type 0 where
  bad_bin : {k : ℕ} → Reaches s t hash k → home_bin s k hash ≡ bad → Astray s t hash key
  moved_last : {k : ℕ} → Reaches s t hash k → home_bin s k hash ≡ moved → tables_of s ≤ suc k → Astray s t hash key
  in_list : {k p : ℕ} → Reaches s t hash k → home_bin s k hash ≡ list p → ListLost s.names s.cells p hash key → Astray s t hash key
  in_tree : {k h : ℕ} → Reaches s t hash k → home_bin s k hash ≡ tree h → Lost s.names s.cells (root_at s h) hash key
      → Astray s t hash key

-- The slot: where the bin that the loop comes to has it.
pub data Hit (s : Set) (t hash key slot : ℕ) : Type 0 where
  in_list : {k p : ℕ} → Reaches s t hash k → home_bin s k hash ≡ list p → ListHere s.names s.cells p hash key slot
      → Hit s t hash key slot
  in_tree : {k h : ℕ} → Reaches s t hash k → home_bin s k hash ≡ tree h → Here s.names s.cells (root_at s h) hash key slot
      → Hit s t hash key slot

-- Nothing: where that bin is empty, or its list or tree ends.
pub data Miss (s : Set) (t hash key : ℕ) : Type 0 where
  in_none : {k : ℕ} → Reaches s t hash k → home_bin s k hash ≡ empty → Miss s t hash key
  in_list : {k p : ℕ} → Reaches s t hash k → home_bin s k hash ≡ list p → ListMissed s.names s.cells p hash key → Miss s t hash key
  in_tree : {k h : ℕ} → Reaches s t hash k → home_bin s k hash ≡ tree h → Missed s.names s.cells (root_at s h) hash key
      → Miss s t hash key
