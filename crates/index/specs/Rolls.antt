-- The number and value of each answer of rollback, and what its steps answer.
use Prim.{Unit}
use Rattle.std.specs.Prelude.{◌≡◌, ℕ, ◌-◌, leb, ltb, Result, Ok, Err}
use Rattle.slots.specs.Words.{pick, most_slots}
use Rattle.slots.specs.Answers.{Answer, given, refused}
use Rattle.slots.specs.Coded.{told_by}
use Rattle.index_rules.specs.Live.{Live, count_of}
use Rattle.index_rules.specs.Index.{Index, fits_index, length_of}
use Rattle.index_rules.specs.Rollback.{Undo, stays, misfit}
use Rattle.index.specs.declared.rollback.RollbackRefusal.{RollbackRefusal}
use Rattle.index.specs.declared.rollback.RollbackRefusal.TheVariants.{Unfit, Damaged, BadMark, Misfit as LinesMisfit}
use Rattle.index.specs.declared.lines.Misfit.{Misfit}

abbrev pub rollback_refusal_of : RollbackRefusal → Answer
rollback_refusal_of Unfit = refused 1
rollback_refusal_of Damaged = refused 2
rollback_refusal_of BadMark = refused 7
rollback_refusal_of LinesMisfit = refused 8

abbrev pub rolled_of : Result ℕ RollbackRefusal → Answer
rolled_of = told_by given rollback_refusal_of

-- What rollback answers where the full check has said yes, if all its lines fit.
unfoldable pub opened : Index → ℕ → Answer
opened ix m =
    pick (fits_index ix)
    (pick (leb (count_of ix.live) most_slots)
    (pick (ltb (length_of ix.lines) m) (refused 7) (given (length_of ix.lines - m))) (refused 2))
    (refused 1)

-- What came of undoing a line, or lines, with the tree that is left: where a line does not fit, nothing is said of it.
abbrev pub undone_of : Result ℕ Misfit → Live → Undo
undone_of (Ok x) t = stays t
undone_of (Err e) t = misfit

abbrev pub undo_of : Result Unit Misfit → Live → Undo
undo_of (Ok u) t = stays t
undo_of (Err e) t = misfit

-- A line that is undone freed this slot, null where it freed none.
abbrev pub freed_is : Result ℕ Misfit → ℕ → Type 0
freed_is (Ok x) y = x ≡ y
freed_is (Err e) y = Unit
