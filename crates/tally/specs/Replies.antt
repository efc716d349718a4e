-- The number and value of each answer of tally.
use Rattle.std.specs.Prelude.{Bool, Result}
use Rattle.slots.specs.Answers.{Answer, refused}
use Rattle.slots.specs.Coded.{verdict, told_by}
use Rattle.tally.specs.declared.tally.TallyRefusal.{TallyRefusal}
use Rattle.tally.specs.declared.tally.TallyRefusal.TheVariants.{Unfit, TooMany}

abbrev pub tally_refusal_of : TallyRefusal → Answer
tally_refusal_of Unfit = refused 1
tally_refusal_of TooMany = refused 17

abbrev pub tally_of : Result Bool TallyRefusal → Answer
tally_of = told_by verdict tally_refusal_of
