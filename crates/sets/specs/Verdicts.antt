-- The number and value of what accept answers.
use Rattle.std.specs.Prelude.{Bool, Result}
use Rattle.slots.specs.Answers.{Answer}
use Rattle.slots.specs.Coded.{told_by, verdict, unfit_told}
use Rattle.slots.specs.declared.answer.Unfit.{Unfit}

-- Yes is 1, no is 0.
abbrev pub accept_of : Result Bool Unfit → Answer
accept_of = told_by verdict unfit_told
