-- The number and value of each refusal of insert, and of remove and replace, which refuse alike; and of what the three answer.
use Rattle.std.specs.Prelude.{Result, ℕ}
use Rattle.slots.specs.Answers.{Answer, some, given, refused}
use Rattle.slots.specs.Coded.{told_by}
use Rattle.index.specs.declared.insert.InsertRefusal.{InsertRefusal}
use Rattle.index.specs.declared.insert.InsertRefusal.TheVariants.{Unfit as InsertUnfit, Damaged as InsertDamaged, Present}
use Rattle.index.specs.declared.insert.InsertRefusal.TheVariants.{Full, JournalFull as InsertJournalFull}
use Rattle.index.specs.declared.present.PairRefusal.{PairRefusal}
use Rattle.index.specs.declared.present.PairRefusal.TheVariants.{Unfit as PairUnfit, Damaged as PairDamaged}
use Rattle.index.specs.declared.present.PairRefusal.TheVariants.{Absent as PairAbsent, JournalFull as PairJournalFull}

abbrev pub insert_refusal_of : InsertRefusal → Answer
insert_refusal_of InsertUnfit = refused 1
insert_refusal_of InsertDamaged = refused 2
insert_refusal_of (Present slot) = record { number = 3; value = some slot }
insert_refusal_of Full = refused 5
insert_refusal_of InsertJournalFull = refused 6

abbrev pub inserted_of : Result ℕ InsertRefusal → Answer
inserted_of = told_by given insert_refusal_of

abbrev pub pair_refusal_of : PairRefusal → Answer
pair_refusal_of PairUnfit = refused 1
pair_refusal_of PairDamaged = refused 2
pair_refusal_of PairAbsent = refused 4
pair_refusal_of PairJournalFull = refused 6

abbrev pub presence_of : Result ℕ PairRefusal → Answer
presence_of = told_by given pair_refusal_of
