-- The source's lookup: `bini` and `find` of a Table, as they stand in its raw/mod.rs: its names, its order of loads and tests, its tests
-- for null. Its guard and memory orders are left out. The number behind a line is that of the source's line. A bin is what its word names:
-- a null bin is empty, `BinEntry::Node` a list, `BinEntry::Tree` a tree, which is searched by find_tree_node from its root. What the
-- source must not do, a load behind null, and what it has no arm for, may come to anything here.
use Rattle.std.specs.Prelude.{Bool, ◌&&◌, ℕ, zero, suc, ◌-◌, eqb, ltb}
use Rattle.std.specs.Int.Bits.{bit_and}
use Rattle.slots.specs.Words.{null, pick, next as nextField, hash_part, key_part}
use Rattle.tree_rules.specs.Find.{slots_of}
use Rattle.tree_rules.specs.Source.{Wild, is-null, load, name, FindRun, returned, running, find_tree_node}
use Rattle.set_rules.specs.Words.{Set, tables_of, length_at, root_at, Bin, empty, moved, bad, list, tree, bin_at}

module _ (wild : Wild) (lost : FindRun) (s : Set) (hash key : ℕ) where
  -- `n.hash`, `n.key` and `n.next.load` of a node.
  abbrev hash_of : ℕ → ℕ
  hash_of = name wild s.names s.cells hash_part

  abbrev key_of : ℕ → ℕ
  key_of = name wild s.names s.cells key_part

  abbrev next_of : ℕ → ℕ
  next_of = load wild s.names s.cells nextField

  -- `is_empty`, and bini, lines 294 to 297.
  abbrev is-empty : ℕ → Bool
  is-empty table = eqb (length_at s table) 0

  abbrev table_bini : ℕ → ℕ
  table_bini table =
      let mask = length_at s table - 1 in  -- 295
      bit_and hash mask  -- 296

  -- The arm `BinEntry::Node`, lines 119 to 136: its loop, for at most so many turns.
  unfoldable pub find_node : ℕ → ℕ → FindRun
  find_node zero node = running
  find_node (suc turns) node =
      pick (eqb (hash_of node) hash && eqb (key_of node) key) (returned node)  -- 124
      (let next = next_of node in  -- 129
      pick (is-null next) (returned null)  -- 130
      (find_node turns next))  -- 135

  -- The arms `BinEntry::Node` and `BinEntry::Tree`, lines 117 and 174: what `table.find` comes to in line 158.
  abbrev pub find_entry : Bin → FindRun
  find_entry (list node) = find_node (slots_of s.names) node  -- 118
  find_entry (tree h) = find_tree_node wild s.names s.cells (slots_of s.names) (root_at s h) hash key  -- 177
  find_entry empty = lost
  find_entry moved = lost
  find_entry bad = lost

  -- `table.next_table(guard).deref()`: there is none behind the last.
  abbrev next_table : ℕ → (ℕ → FindRun) → FindRun
  next_table table rest = pick (ltb (suc table) (tables_of s)) (rest (suc table)) lost

  -- What the loop comes to at a bin, lines 150 to 166.
  abbrev pub matched-bin : ℕ → Bin → (ℕ → FindRun) → FindRun
  matched-bin table empty rest = returned null  -- 150
  matched-bin table (list node) rest = find_entry (list node)  -- 157
  matched-bin table (tree h) rest = find_entry (tree h)  -- 157
  matched-bin table moved rest = next_table table rest  -- 160
  matched-bin table bad rest = lost

  -- The arm `BinEntry::Moved`, lines 144 to 167: its loop from a table on, for at most so many turns. The caller of `find` asks the first
  -- table in the same words.
  unfoldable pub find_moved : ℕ → ℕ → FindRun
  find_moved zero table = running
  find_moved (suc turns) table =
      pick (is-empty table) (returned null)  -- 145
      (let bini = table_bini table in  -- 148
      let bin = bin_at s table bini in  -- 149
      matched-bin table bin (find_moved turns))  -- 156

  -- Lines 105 to 180: `find` of a table, with a bin of it that is not null.
  unfoldable pub find : ℕ → ℕ → Bin → FindRun
  find turns table (list node) = find_entry (list node)  -- 117
  find turns table moved = next_table table (find_moved turns)  -- 138
  find turns table (tree h) = find_entry (tree h)  -- 174
  find turns table empty = lost
  find turns table bad = lost
