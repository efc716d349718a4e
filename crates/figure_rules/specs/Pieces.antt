-- The calls on a stream, on any words: a start, a piece of the input, and the input's end.
use Rattle.std.specs.Prelude.{◌≡◌, Bool, false, List, [], ◌∷◌, ℕ, ◌^◌, ◌<◌, ◌≤◌, eqb, ltb, leb}
use Rattle.slots.specs.Words.{pick, ◌and◌}
use Rattle.slots.specs.Answers.{Answer, given, refused}
use Rattle.endian.specs.Bytes.{Bytes}
use Rattle.set_rules.specs.Words.{Set}
use Rattle.file_rules.specs.Loader.{new_loader}
use Rattle.file_rules.specs.Loading.{loading, GoesOn, may_go_on}
use Rattle.figure_rules.specs.Totals.{counted_in, FitTotals, fits_totals}
use Rattle.figure_rules.specs.Stream.{figures, Stream, stream, bytes_figured, input_ends}

-- The ranges of a stream's two numbers: bytes of a length, fewer than four, and their number; or 4 and the bytes of the set to come, at
-- least one.
pub record FitLength (got left : ℕ) : Type 0 where
  pub most : got ≤ 4
  pub number : got < 4 → left < 256 ^ got
  pub bytes : got ≡ 4 → (1 ≤ left) × (left < 4294967296)

-- The ranges of a stream: its numbers, its loader with the slices, and the totals.
pub record FitStream (d : Stream) : Type 0 where
  pub length : FitLength d.got d.left
  pub loads : GoesOn d.loads
  pub totals : FitTotals d.figured.totals

-- What the end of an input asks: it works on no slice.
pub record FitEnd (d : Stream) : Type 0 where
  pub length : FitLength d.got d.left
  pub totals : FitTotals d.figured.totals

-- The tests of the ranges.
unfoldable pub length_fits : ℕ → ℕ → Bool
length_fits got left = pick (eqb got 4) (leb 1 left and ltb left 4294967296) (ltb got 4 and ltb left (256 ^ got))

unfoldable pub end_fits : Stream → Bool
end_fits d = length_fits d.got d.left and fits_totals d.figured.totals

unfoldable pub stream_fits : Stream → Bool
stream_fits d = end_fits d and may_go_on d.loads

-- What a call comes to: its answer, and all that it leaves.
pub record StreamOutcome : Type 0 where
  pub answer : Answer
  pub left : Stream

abbrev pub stream_outcome : Answer → Stream → StreamOutcome
stream_outcome a d = record { answer = a; left = d }

-- How many sets are counted so far.
abbrev pub so_far : Stream → StreamOutcome
so_far d = stream_outcome (given (counted_in d.figured.totals)) d

-- A start, with slices and totals that are lent.
abbrev pub stream_start : Set → List ℕ → Stream
stream_start s t = stream 0 0 (loading new_loader s) (figures t false)

-- A piece: its bytes one after the other. What is out of its ranges is 1, and nothing changes.
unfoldable pub piece_taken : Stream → List ℕ → StreamOutcome
piece_taken d l = pick (stream_fits d) (so_far (bytes_figured d l)) (stream_outcome (refused 1) d)

-- The input's end: where a set would begin is where the stream then stands.
unfoldable pub input_ended : Stream → StreamOutcome
input_ended d = pick (end_fits d) (so_far (stream 0 0 d.loads (input_ends d))) (stream_outcome (refused 1) d)

-- One piece after the other.
unfoldable pub pieces_taken : Stream → List (List ℕ) → Stream
pieces_taken d [] = d
pieces_taken d (p ∷ ps) = pieces_taken (piece_taken d p).left ps

-- Pieces of bytes.
pub data Pieces : List (List ℕ) → Type 0 where
  no_piece : Pieces []
  one_piece : {l : List ℕ} {ls : List (List ℕ)} → Bytes l → Pieces ls → Pieces (l ∷ ls)
