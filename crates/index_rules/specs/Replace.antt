-- A replace "writes the new place and nothing else in the tree, and answers the slot".
use Rattle.std.specs.Prelude.{ℕ}
use Rattle.slots.specs.Words.{place, cell, write}
use Rattle.index_rules.specs.Live.{Live, lent_tree}
use Rattle.index_rules.specs.Index.{Index, index, Outcome, replace_kind, plain_line, both_places, appended}
use Rattle.index_rules.specs.Present.{where_present}

-- After the check: the slot x has the place p.
unfoldable pub placed_at : Live → ℕ → ℕ → Live
placed_at t x p = lent_tree t.names (write t.cells x place p) t.head t.sizes

-- And a line more, with both places.
unfoldable pub after_replace : Index → ℕ → ℕ → ℕ → ℕ → Index
after_replace ix hash key p x =
    let t = ix.live in
    index (placed_at t x p) (appended ix.lines (plain_line replace_kind hash key (both_places p (cell t.cells x place))))

-- "Refusals: 1, 2, 4, 6, in that order."
unfoldable pub replaces : Index → ℕ → ℕ → ℕ → Outcome
replaces ix hash key p = where_present ix hash key (after_replace ix hash key p)
