-- "Rollback to mark m undoes lines from the last down to number m by the same drivers, clears them to zero and sets the length to m."
use Rattle.std.specs.Prelude.{List, ℕ, zero, suc, ◌+◌, ◌-◌, ◌/◌, ◌%◌, set, eqb, ltb}
use Rattle.slots.specs.Words.{null, pick, place, cell}
use Rattle.slots.specs.Answers.{Value, some, none, given, refused}
use Rattle.index_rules.specs.Live.{Live}
use Rattle.index_rules.specs.Sound.{sound}
use Rattle.index_rules.specs.Index.{Index, index, Outcome, outcome, fits_index, length_of, JournalLine, insert_kind, remove_kind}
use Rattle.index_rules.specs.Index.{noted_kind, replace_kind, plain_line, line_of, lined}
use Rattle.index_rules.specs.Insert.{lowest_free, sought_in, grown}
use Rattle.index_rules.specs.Remove.{shrunk}
use Rattle.index_rules.specs.Replace.{placed_at}

-- A tree, or that a line does not fit.
pub data Undo : Type 0 where
  stays : Live → Undo
  misfit : Undo

-- An insert line is undone by a removal: its pair is there with its place.
abbrev pub taken_back : Live → Value → ℕ → Undo
taken_back t (some x) p = pick (eqb (cell t.cells x place) p) (stays (shrunk t x)) misfit
taken_back t none p = misfit

-- A remove line is undone by an insert into the free slot x: its pair is not there, and there is such a slot. A place is a 32-bit word. It
-- goes right behind the slot y, to the front where y is null.
abbrev pub put_back : Live → ℕ → Value → JournalLine → ℕ → Undo
put_back t x (some own) j y = misfit
put_back t x none j y =
    pick (eqb x null) misfit (pick (ltb j.place 4294967296) (stays (grown t x y j.hash j.key j.place)) misfit)

-- A remove line that notes a pair: "undoing it puts the pair back right behind that one".
abbrev pub put_behind : Live → ℕ → Value → Value → JournalLine → Undo
put_behind t x (some y) own j = put_back t x own j y
put_behind t x none own j = misfit

-- A replace line is undone by the old place: its pair is there with the new one. A place is a 32-bit word.
abbrev pub placed_back : Live → Value → ℕ → Undo
placed_back t (some x) w =
    pick (eqb (cell t.cells x place) (w % 4294967296)) (pick (ltb (w / 4294967296) 4294967296)
    (stays (placed_at t x (w / 4294967296))) misfit) misfit
placed_back t none w = misfit

-- A line undone on the tree t, where a pair that comes back takes the slot x: "no other kind occurs".
unfoldable pub undone_into : ℕ → Live → JournalLine → Undo
undone_into x t j =
    let own = sought_in t j.hash j.key in
    pick (eqb j.kind insert_kind) (taken_back t own j.place)
    (pick (eqb j.kind remove_kind) (put_back t x own j null)
    (pick (eqb j.kind noted_kind) (put_behind t x (sought_in t j.prior_hash j.prior_key) own j)
    (pick (eqb j.kind replace_kind) (placed_back t own j.place) misfit)))

abbrev pub undone : Live → JournalLine → Undo
undone t j = undone_into (lowest_free t) t j

-- So many lines above m undone, from the last down.
unfoldable pub unrolled : ℕ → Live → List ℕ → ℕ → Undo
unrolled zero t lines m = stays t
unrolled (suc c) t lines m = elim (undone t (line_of lines (m + c))) [ stays u ↦ unrolled c u lines m | misfit ↦ misfit ]

-- So many lines from m on cleared to zero.
unfoldable pub blanked : ℕ → List ℕ → ℕ → List ℕ
blanked zero lines m = lines
blanked (suc c) lines m = blanked c (lined lines (m + c) (plain_line 0 0 0 0)) m

-- "rollback 1, 2, 7, 8": a refusal writes nothing.
unfoldable pub rolls : Index → ℕ → Outcome
rolls ix m =
    let c = length_of ix.lines - m in
    pick (fits_index ix)
    (pick (sound ix.live)
    (pick (ltb (length_of ix.lines) m) (outcome (refused 7) ix)
    (elim (unrolled c ix.live ix.lines m) [
      | stays t ↦ outcome (given c) (index t (set (blanked c ix.lines m) 0 m))
      | misfit ↦ outcome (refused 8) ix
    ]))
    (outcome (refused 2) ix))
    (outcome (refused 1) ix)
