-- The number and value of each answer of batch.
use Rattle.std.specs.Prelude.{Result, ℕ}
use Rattle.slots.specs.Answers.{Answer, given}
use Rattle.slots.specs.Coded.{told_by, unsound_told}
use Rattle.slots.specs.declared.answer.Unsound.{Unsound}

abbrev pub batch_of : Result ℕ Unsound → Answer
batch_of = told_by given unsound_told
