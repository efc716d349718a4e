-- The number and value of each refusal of the two calls, and of what they answer.
use Rattle.std.specs.Prelude.{Result, ℕ}
use Rattle.slots.specs.Answers.{Answer, given, refused}
use Rattle.slots.specs.Coded.{told_by}
use Rattle.ranks.specs.declared.kth.KthRefusal.{KthRefusal}
use Rattle.ranks.specs.declared.kth.KthRefusal.TheVariants.{Unfit, Damaged, OutOfRange}
use Rattle.ranks.specs.declared.position.PositionRefusal.{PositionRefusal}
use Rattle.ranks.specs.declared.position.PositionRefusal.TheVariants.{Unfit as PositionUnfit}
use Rattle.ranks.specs.declared.position.PositionRefusal.TheVariants.{Damaged as PositionDamaged, Absent}

abbrev pub kth_refusal_of : KthRefusal → Answer
kth_refusal_of Unfit = refused 1
kth_refusal_of Damaged = refused 2
kth_refusal_of OutOfRange = refused 15

abbrev pub kth_of : Result ℕ KthRefusal → Answer
kth_of = told_by given kth_refusal_of

abbrev pub position_refusal_of : PositionRefusal → Answer
position_refusal_of PositionUnfit = refused 1
position_refusal_of PositionDamaged = refused 2
position_refusal_of Absent = refused 4

abbrev pub position_of : Result ℕ PositionRefusal → Answer
position_of = told_by given position_refusal_of
