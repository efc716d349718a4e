-- The number and value of each answer of a stream, a stream with what it is lent, and what a call comes to.
use Rattle.std.specs.Prelude.{List, ℕ, Result}
use Rattle.slots.specs.Answers.{Answer, given}
use Rattle.slots.specs.Coded.{told_by, unfit_told}
use Rattle.slots.specs.declared.answer.Unfit.{Unfit}
use Rattle.set_rules.specs.Words.{Set}
use Rattle.file_rules.specs.Loading.{loading}
use Rattle.figure_rules.specs.Stream.{Stream as Model, figures, stream}
use Rattle.figure_rules.specs.Pieces.{StreamOutcome, stream_outcome}
use Rattle.file.specs.Meanings.{loader_words}
use Rattle.tally.specs.declared.stream.Stream.{Stream}
use Rattle.tally.specs.declared.figure.Figured.{Figured}

abbrev pub stream_reply_of : Result ℕ Unfit → Answer
stream_reply_of = told_by given unfit_told

abbrev pub stream_of : Stream → Set → List ℕ → Model
stream_of r s t = stream r.got r.left (loading (loader_words r.loader) s) (figures t r.over)

-- What a call returns, with the slices and the totals that it leaves.
abbrev pub figured_of : Figured → Set → List ℕ → StreamOutcome
figured_of r s t = stream_outcome (stream_reply_of r.reply) (stream_of r.stream s t)
