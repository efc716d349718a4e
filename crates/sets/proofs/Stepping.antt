-- Every claim of `Stepping` holds: an answer is read back off its number and value, and a struct off its fields.
use mathlib.Core.Path.{◌≡◌, refl, sym, ◌∙◌}
use Prim.Native.Nat.{ℕ}
use lib.Dec.{eqb}
use Rattle.std.specs.Prelude.{Option, None, Some, Result, Ok, Err, ⊤}
use Rattle.slots.specs.Words.{pick}
use Rattle.slots.specs.Answers.{Value, some, none}
use Rattle.slots.proofs.Laws.{told_apart}
use Rattle.set_rules.specs.Cursor.{Cursor, Step}
use Rattle.sets.specs.Cursors.{cursor_of, started_of, start_of, given_of, step_of}
use Rattle.sets.specs.Stepping.{Stepping}
use Rattle.sets.specs.declared.walk.Cursor.{Cursor as CursorCode}
use Rattle.sets.specs.declared.lookup.NoTable.{NoTable}
use Rattle.sets.specs.declared.lookup.NoTable.TheVariants.{Unfit as StartUnfit, Unknown}
use Rattle.sets.specs.declared.walk.NextRefusal.{NextRefusal}
use Rattle.sets.specs.declared.walk.NextRefusal.TheVariants.{Unfit, BadCursor, Lost}
use Rattle.sets.specs.declared.walk.Step.{Step as StepCode}

abbrev started_back : {T : Type 0} → T → ℕ → Result T NoTable
started_back made number = pick (eqb number 0) (Ok made) (pick (eqb number 1) (Err StartUnfit) (Err Unknown))

started_back_lem : (r : Result ⊤ NoTable) → started_back tt (started_of r).number ≡ r
started_back_lem (Ok made) = refl
started_back_lem (Err StartUnfit) = refl
started_back_lem (Err Unknown) = refl

abbrev given_back : ℕ → Value → Result (Option ℕ) NextRefusal
given_back number (some slot) = Ok (Some slot)
given_back number none = pick (eqb number 0) (Ok None) (pick (eqb number 1) (Err Unfit) (pick (eqb number 11) (Err BadCursor) (Err Lost)))

given_back_lem : (r : Result (Option ℕ) NextRefusal) → given_back (given_of r).number (given_of r).value ≡ r
given_back_lem (Ok (Some slot)) = refl
given_back_lem (Ok None) = refl
given_back_lem (Err Unfit) = refl
given_back_lem (Err BadCursor) = refl
given_back_lem (Err Lost) = refl

abbrev cursor_back : Cursor → CursorCode
cursor_back c = record { base = c.base; depth = c.depth; indexes = c.indexes; last = c.last }

cursor_one_to_one : (a b : CursorCode) → cursor_of a ≡ cursor_of b → a ≡ b
cursor_one_to_one = told_apart cursor_of cursor_back (λ r. refl)

abbrev start_back : Step → Result CursorCode NoTable
start_back r = started_back (cursor_back r.cursor) r.answer.number

start_back_lem : (r : Result CursorCode NoTable) → start_back (start_of r) ≡ r
start_back_lem (Ok c) = refl
start_back_lem (Err StartUnfit) = refl
start_back_lem (Err Unknown) = refl

abbrev step_back : Step → StepCode
step_back r = record { answer = given_back r.answer.number r.answer.value; cursor = cursor_back r.cursor }

step_back_lem : (r : StepCode) → step_back (step_of r) ≡ r
step_back_lem r = λ i. record { answer = given_back_lem r.answer i; cursor = r.cursor }

pub stepping : Stepping
stepping =
    record {
      started_one_to_one = told_apart started_of (λ a. started_back tt a.number) started_back_lem;
      start_one_to_one = told_apart start_of start_back start_back_lem;
      blank_one = λ a b p q. cursor_one_to_one a b (p ∙ sym q);
      start_one = λ s t a b p q. told_apart start_of start_back start_back_lem a b (p ∙ sym q);
      given_one_to_one = told_apart given_of (λ a. given_back a.number a.value) given_back_lem;
      next_one = λ s c a b p q. told_apart step_of step_back step_back_lem a b (p ∙ sym q);
    }
