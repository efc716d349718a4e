-- The number and value of each answer of save.
use Rattle.std.specs.Prelude.{Result, ℕ}
use Rattle.slots.specs.Answers.{Answer, given}
use Rattle.slots.specs.Coded.{told_by, unsound_told}
use Rattle.slots.specs.declared.answer.Unsound.{Unsound}

abbrev pub save_of : Result ℕ Unsound → Answer
save_of = told_by given unsound_told
