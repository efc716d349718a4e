-- An empty index is written into lent slices: only their lengths decide whether they can be one.
use Rattle.std.specs.Prelude.{Bool, ◌≡◌, ℕ, zero, suc, ◌+◌, ◌*◌, ◌≤◌, length, set}
use Rattle.slots.specs.Words.{null, pick, rename, hash_part, key_part, ◌and◌, most_lines}
use Rattle.slots.specs.Answers.{given, refused}
use Rattle.index_rules.specs.Live.{Live, Fit, fits}
use Rattle.index_rules.specs.Index.{Index, index, Outcome, outcome, line_words, lines_of, whole_lines}
use Rattle.index_rules.specs.Insert.{headed}
use Rattle.index_rules.specs.Remove.{wiped}
use Rattle.index_rules.specs.Rollback.{blanked}
use Rattle.tree_rules.specs.Find.{slots_of}

-- The five slices are as long as an index's, whatever their words are.
pub record FitLengths (ix : Index) : Type 0 where
  pub tree : Fit ix.live
  pub capacity : ℕ
  pub most : capacity ≤ most_lines
  pub words : length ix.lines ≡ 1 + line_words * capacity

unfoldable pub fits_lengths : Index → Bool
fits_lengths ix = fits ix.live and whole_lines ix.lines

-- The first so many slots cleared, their names and sizes too.
unfoldable pub bared : ℕ → Live → Live
bared zero t = t
bared (suc k) t =
    bared k (record {
      names = rename (rename t.names k hash_part 0) k key_part 0;
      cells = wiped t.cells k;
      head = t.head;
      sizes = set t.sizes k 0;
    })

-- Every slot cleared, a header of nothing, and a journal of zeros; 1 where the lengths do not fit, and nothing is written.
unfoldable pub freshes : Index → Outcome
freshes ix =
    let t = bared (slots_of ix.live.names) ix.live in
    pick (fits_lengths ix)
    (outcome (given 1)
    (index (record { names = t.names; cells = t.cells; head = headed t.head null null 0; sizes = t.sizes })
    (set (blanked (lines_of ix.lines) ix.lines 0) 0 0)))
    (outcome (refused 1) ix)
