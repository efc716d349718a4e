-- The number and value of each answer of fresh.
use Prim.{Unit}
use Rattle.std.specs.Prelude.{Result}
use Rattle.slots.specs.Answers.{Answer}
use Rattle.slots.specs.Coded.{told_by, done, unfit_told}
use Rattle.slots.specs.declared.answer.Unfit.{Unfit}

abbrev pub fresh_of : Result Unit Unfit → Answer
fresh_of = told_by done unfit_told
