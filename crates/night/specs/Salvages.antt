-- The number and value of each answer of salvage.
use Rattle.std.specs.Prelude.{Result, ℕ}
use Rattle.slots.specs.Answers.{Answer, given}
use Rattle.slots.specs.Coded.{told_by, unfit_told}
use Rattle.slots.specs.declared.answer.Unfit.{Unfit}

abbrev pub salvage_of : Result ℕ Unfit → Answer
salvage_of = told_by given unfit_told
