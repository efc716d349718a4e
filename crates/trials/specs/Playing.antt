-- Input through the console in pieces of so many bytes, and all that it prints held against what is expected, byte for byte.
use Rattle.std.specs.Prelude.{Bool, true, false, Result, Ok, Err, List, [], ◌∷◌, ℕ, zero, suc, length, take, drop, get_or, eqb, ltb}
use Rattle.slots.specs.Words.{pick, ◌and◌}
use Rattle.index_rules.specs.Index.{Index}
use Rattle.script_rules.specs.Feeding.{blank_line, Desk, Fed, feeds, finishes, desk_of, printed}

-- How far what is expected has come: up to a place that all was as expected, or the first place where it was not.
abbrev pub Met : Type 0
Met = Result ℕ ℕ

abbrev pub all_same : Met → Bool
all_same (Ok _) = true
all_same (Err _) = false

abbrev pub how_far : Met → ℕ
how_far (Ok n) = n
how_far (Err n) = n

-- A part of the answers against what is expected from a place on: up to the first byte that is another, or that is one too many.
unfoldable pub agreed : List ℕ → ℕ → List ℕ → Met
agreed expected from [] = Ok from
agreed expected from (b ∷ part) =
    pick (ltb from (length expected) and eqb (get_or expected from 0) b)
    (agreed expected (suc from) part) (Err from)

-- What a call has printed, held against what is expected from a place on.
abbrev pub met_by : List ℕ → ℕ → Fed → Met
met_by expected said f = agreed expected said (printed f)

-- What came of it all: whether it was as expected and how far, and what is left of the tree, the journal and the buffer.
pub record Played : Type 0 where
  pub met : Met
  pub index : Index
  pub bytes : List ℕ

abbrev pub played : Met → Index → List ℕ → Played
played m ix out = record { met = m; index = ix; bytes = out }

abbrev pub played_by : Met → Fed → Played
played_by m f = played m f.desk.index f.desk.paper.bytes

-- The desk that a call leaves, its buffer to be written from the start.
abbrev pub cleared : Fed → Desk
cleared f = desk_of f.desk.line f.desk.index f.desk.paper.bytes

-- The input has ended.
abbrev pub closing : List ℕ → ℕ → Desk → Played
closing expected said d = played_by (met_by expected said (finishes d)) (finishes d)

-- The rest of the input, a piece of at most `cut` bytes to a call, in no more than so many calls. A call that prints something else, or
-- that takes nothing, is the last.
unfoldable pub plays : ℕ → ℕ → List ℕ → List ℕ → ℕ → Desk → Played
plays zero cut expected rest said d = closing expected said d
plays (suc calls) cut expected rest said d =
    let f = feeds (take cut rest) d in
    let m = met_by expected said f in
    pick (eqb (length rest) 0) (closing expected said d)
    (pick (all_same m and ltb 0 f.taken) (plays calls cut expected (drop f.taken rest) (how_far m) (cleared f))
    (played_by (Err (how_far m)) f))

-- The whole input: a call takes a byte at least, so it has no more calls than bytes.
abbrev pub playing : ℕ → List ℕ → List ℕ → Index → List ℕ → Played
playing cut expected input ix out = plays (length input) cut expected input 0 (desk_of blank_line ix out)
