-- "Insert takes the lowest free slot, hangs it where the order says, puts it at the front of the chain, then balances."
use Rattle.std.specs.Prelude.{List, ℕ, zero, suc, ◌+◌, set, eqb}
use Rattle.slots.specs.Words.{null, pick, place, state, prev, next, free, cell, write, rename, hash_part, key_part}
use Rattle.slots.specs.Answers.{Value, some, none, given, refused}
use Rattle.tree_rules.specs.Find.{slots_of, found}
use Rattle.redblack.specs.Links.{Links}
use Rattle.redblack.specs.Hanging.{inserted, spotted}
use Rattle.index_rules.specs.Live.{Live, root_of, first_of, count_of}
use Rattle.index_rules.specs.Sound.{sound}
use Rattle.index_rules.specs.Index.{Index, index, Outcome, outcome, fits_index, length_of, lines_of, insert_kind, plain_line, appended}

-- The lowest free slot of so many from k on, null where there is none.
unfoldable pub free_from : ℕ → List ℕ → ℕ → ℕ
free_from zero cells k = null
free_from (suc m) cells k = pick (eqb (cell cells k state) free) k (free_from m cells (suc k))

unfoldable pub lowest_free : Live → ℕ
lowest_free t = free_from (slots_of t.names) t.cells 0

-- The slot that has the pair, where there is one.
unfoldable pub sought_in : Live → ℕ → ℕ → Value
sought_in t hash key = (found t.names t.cells (root_of t) hash key).answer.value

-- What stands in the chain right behind y; at the front, where y is null, the first.
abbrev pub follower_of : Live → ℕ → ℕ
follower_of t y = pick (eqb y null) (first_of t) (cell t.cells y next)

-- The slot x in the chain between y and q. A null link has no words, so nothing is written to it.
unfoldable pub seated : List ℕ → ℕ → ℕ → ℕ → List ℕ
seated cells x y q = write (write (write (write cells x prev y) x next q) y next x) q prev x

abbrev pub headed : List ℕ → ℕ → ℕ → ℕ → List ℕ
headed head root first count = set (set (set head 0 root) 1 first) 2 count

-- After the check: the free slot x takes the pair and its place, and stands in the chain right behind y, at the front where y is null.
unfoldable pub grown : Live → ℕ → ℕ → ℕ → ℕ → ℕ → Live
grown t x y hash key p =
    let names = rename (rename t.names x hash_part hash) x key_part key in
    let links : Links = record { cells = seated (write t.cells x place p) x y (follower_of t y); root = root_of t; sizes = t.sizes } in
    let hung = inserted (slots_of t.names) links x (spotted (slots_of t.names) names links hash key) in
    record {
      names = names;
      cells = hung.cells;
      head = headed t.head hung.root (pick (eqb y null) x (first_of t)) (count_of t + 1);
      sizes = hung.sizes;
    }

-- "insert 1, 2, 3, 5, 6": a refusal writes nothing.
unfoldable pub inserts : Index → ℕ → ℕ → ℕ → Outcome
inserts ix hash key p =
    let t = ix.live in
    let x = lowest_free t in
    pick (fits_index ix)
    (pick (sound t)
    (elim (sought_in t hash key) [
      | some slot ↦ outcome (record { number = 3; value = some slot }) ix
      | none ↦ pick (eqb x null) (outcome (refused 5) ix)
          (pick (eqb (length_of ix.lines) (lines_of ix.lines)) (outcome (refused 6) ix)
          (outcome (given x) (index (grown t x null hash key p) (appended ix.lines (plain_line insert_kind hash key p)))))
    ])
    (outcome (refused 2) ix))
    (outcome (refused 1) ix)
