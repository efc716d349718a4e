-- "Remove unlinks from the chain", takes the slot out of the tree, and clears it.
use Rattle.std.specs.Prelude.{List, ℕ, ◌-◌, eqb}
use Rattle.slots.specs.Words.{null, pick, place, state, parent, left, right, prev, next, free, cell, write, name_of, rename, hash_part}
use Rattle.slots.specs.Words.{key_part}
use Rattle.redblack.specs.Removal.{removed}
use Rattle.index_rules.specs.Live.{Live, root_of, first_of, count_of}
use Rattle.index_rules.specs.Index.{Index, index, Outcome, JournalLine, remove_kind, plain_line, noted_line, appended}
use Rattle.index_rules.specs.Insert.{headed}
use Rattle.index_rules.specs.Present.{where_present}
use Rattle.tree_rules.specs.Find.{slots_of}

-- The slot x out of the chain: what stood before it leads to what stood after, and back.
unfoldable pub unchained : List ℕ → ℕ → List ℕ
unchained cells x =
    let p = cell cells x prev in
    let q = cell cells x next in
    write (write cells p next q) q prev p

abbrev pub new_first : Live → ℕ → ℕ
new_first t x = pick (eqb (cell t.cells x prev) null) (cell t.cells x next) (first_of t)

-- The slot is "all zero with null links" again.
unfoldable pub wiped : List ℕ → ℕ → List ℕ
wiped cells x =
    write (write (write (write (write (write (write cells x place 0) x state free) x parent null) x left null) x right null) x prev null)
    x next null

-- After the check: the slot x goes.
unfoldable pub shrunk : Live → ℕ → Live
shrunk t x =
    let gone = removed (slots_of t.names) (record { cells = unchained t.cells x; root = root_of t; sizes = t.sizes }) x in
    record {
      names = rename (rename t.names x hash_part 0) x key_part 0;
      cells = wiped gone.cells x;
      head = headed t.head gone.root (new_first t x) (count_of t - 1);
      sizes = gone.sizes;
    }

-- The line of it, with the place that the slot had and the pair of the slot before it, if one stood there.
unfoldable pub removal_of : Live → ℕ → ℕ → ℕ → JournalLine
removal_of t hash key x =
    let p = cell t.cells x place in
    let y = cell t.cells x prev in
    pick (eqb y null) (plain_line remove_kind hash key p) (noted_line hash key p (name_of t.names y hash_part) (name_of t.names y key_part))

unfoldable pub after_remove : Index → ℕ → ℕ → ℕ → Index
after_remove ix hash key x = index (shrunk ix.live x) (appended ix.lines (removal_of ix.live hash key x))

-- "remove 1, 2, 4, 6".
unfoldable pub removes : Index → ℕ → ℕ → Outcome
removes ix hash key = where_present ix hash key (after_remove ix hash key)
