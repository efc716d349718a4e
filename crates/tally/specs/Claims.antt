-- What crate `tally` proves beside its contracts: answers are told apart by their numbers and values, streams by their words, each public
-- routine has one outcome, what it returns with all that is left in what was lent, and all of the text has room.
use Rattle.std.specs.Prelude.{◌≡◌, Bool, Result, List, [], ℕ, ◌≤◌, length, take}
use Rattle.slots.specs.Answers.{Answer, OneAnswer}
use Rattle.slots.specs.Coded.{answer_of}
use Rattle.script_rules.specs.Feeding.{typed, lent_paper}
use Rattle.set_rules.specs.Words.{Set, lent_set}
use Rattle.figure_rules.specs.Tally.{tally_outcome, tallies}
use Rattle.figure_rules.specs.Stream.{Stream as Model, Figures}
use Rattle.figure_rules.specs.Pieces.{StreamOutcome, stream_start, piece_taken, input_ended}
use Rattle.figure_rules.specs.Printed.{figures_text}
use Rattle.tally.specs.Replies.{tally_of}
use Rattle.tally.specs.Meanings.{stream_reply_of, stream_of, figured_of}
use Rattle.slots.specs.declared.answer.Unfit.{Unfit}
use Rattle.tally.specs.declared.tally.TallyRefusal.{TallyRefusal}
use Rattle.tally.specs.declared.stream.Stream.{Stream}
use Rattle.tally.specs.declared.figure.Figured.{Figured}

-- What tally returns, and the totals after it.
pub record TallyReturned : Type 0 where
  pub reply : Result Bool TallyRefusal
  pub totals : List ℕ

-- What a call on a stream returns, the words of the five slices and the totals after it.
pub record FiguredReturned : Type 0 where
  pub figured : Figured
  pub lengths : List ℕ
  pub bins : List ℕ
  pub heads : List ℕ
  pub names : List ℕ
  pub cells : List ℕ
  pub totals : List ℕ

abbrev pub returned_by : (Figured → Set → List ℕ → StreamOutcome) → FiguredReturned → StreamOutcome
returned_by f r = f r.figured (lent_set r.lengths r.bins r.heads r.names r.cells) r.totals

-- What the end call returns, and the totals after it: it is lent no slice.
pub record EndReturned : Type 0 where
  pub figured : Figured
  pub totals : List ℕ

pub record Claims : Type 0 where
  pub tally_reply_one_to_one : (a b : Result Bool TallyRefusal) → tally_of a ≡ tally_of b → a ≡ b
  pub answer_one : (a : Answer) → OneAnswer (λ r. answer_of r ≡ a)
  pub tally_one : (s : Set) (totals : List ℕ)
      → OneAnswer (λ (r : TallyReturned). tally_outcome (tally_of r.reply) r.totals ≡ tallies s totals)
  pub stream_reply_one_to_one : (a b : Result ℕ Unfit) → stream_reply_of a ≡ stream_reply_of b → a ≡ b
  pub stream_one_to_one : (a b : Stream) (s : Set) (t : List ℕ) → stream_of a s t ≡ stream_of b s t → a ≡ b
  -- start is lent nothing: what it returns is one
  pub start_one : OneAnswer (λ r. stream_of r (lent_set [] [] [] [] []) [] ≡ stream_start (lent_set [] [] [] [] []) [])
  pub chunk_one : (d : Model) (piece : List ℕ) → OneAnswer (λ r. returned_by figured_of r ≡ piece_taken d piece)
  pub end_one : (d : Model)
      → OneAnswer (λ (r : EndReturned). figured_of r.figured (lent_set [] [] [] [] []) r.totals ≡ input_ended d)
  pub tell_one : (f : Figures) (out : List ℕ) → OneAnswer (λ q. q ≡ typed (lent_paper out 0) (figures_text f))
  -- with room for the longest text, all of it stands in the buffer from its front on
  pub whole : (f : Figures) (out : List ℕ) → 2048 ≤ length out
      → take (typed (lent_paper out 0) (figures_text f)).at (typed (lent_paper out 0) (figures_text f)).bytes ≡ figures_text f
