-- The answer that the code's struct stands for, and that which a result of the code tells.
use Rattle.std.specs.Prelude.{Bool, true, false, Option, None, Some, Result, Ok, Err, ℕ}
use Rattle.slots.specs.Answers.{Answer, Value, none, some, given, nothing, refused}
use Rattle.slots.specs.declared.answer.Answer.{Answer as AnswerCode}
use Rattle.slots.specs.declared.answer.Unfit.{Unfit}
use Rattle.slots.specs.declared.answer.Unsound.{Unsound}
use Rattle.slots.specs.declared.answer.Unsound.TheVariants.{Unfit as OnlyUnfit, Damaged}

abbrev pub value_of : Option ℕ → Value
value_of None = none
value_of (Some v) = some v

abbrev pub answer_of : AnswerCode → Answer
answer_of a = record { number = a.number; value = value_of a.value }

-- Yes is 1, no is 0.
abbrev pub verdict : Bool → Answer
verdict true = given 1
verdict false = given 0

-- Done, with no number to give.
abbrev pub done : {T : Type 0} → T → Answer
done _ = given 1

-- What there is, or nothing.
abbrev pub told_if_any : {T : Type 0} → (T → Answer) → Option T → Answer
told_if_any value None = nothing
told_if_any value (Some v) = value v

-- What a call gives, or its refusal.
abbrev pub told_by : {T E : Type 0} → (T → Answer) → (E → Answer) → Result T E → Answer
told_by value refusal (Ok v) = value v
told_by value refusal (Err e) = refusal e

abbrev pub unfit_told : Unfit → Answer
unfit_told _ = refused 1

abbrev pub unsound_told : Unsound → Answer
unsound_told OnlyUnfit = refused 1
unsound_told Damaged = refused 2
