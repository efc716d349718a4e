-- The number and value of what start and next answer, and what the walk's structs mean.
use Rattle.std.specs.Prelude.{Option, None, Some, Result, Ok, Err, List, ℕ}
use Rattle.slots.specs.Answers.{Answer, given, refused}
use Rattle.slots.specs.Coded.{told_by, told_if_any, done}
use Rattle.set_rules.specs.Cursor.{Cursor, Step, blank_cursor}
use Rattle.set_rules.specs.Walk.{walk_point, Sought, at, ended, lost}
use Rattle.sets.specs.Lookups.{no_table_of}
use Rattle.sets.specs.declared.lookup.NoTable.{NoTable}
use Rattle.sets.specs.declared.walk.Cursor.{Cursor as CursorCode}
use Rattle.sets.specs.declared.walk.NextRefusal.{NextRefusal}
use Rattle.sets.specs.declared.walk.NextRefusal.TheVariants.{Unfit, BadCursor, Lost}
use Rattle.sets.specs.declared.walk.Lost.{Lost as LostCode}
use Rattle.sets.specs.declared.walk.Step.{Step as StepCode}

-- What the loop over the bins comes to, with the indexes that it leaves.
abbrev pub sought_of : Result (Option (ℕ × ℕ)) LostCode → List ℕ → Sought
sought_of (Ok (Some (slot, depth))) x = at slot (walk_point depth x)
sought_of (Ok None) x = ended
sought_of (Err e) x = lost

abbrev pub cursor_of : CursorCode → Cursor
cursor_of c = record { base = c.base; depth = c.depth; indexes = c.indexes; last = c.last }

-- A walk that begins is 1.
abbrev pub started_of : {T : Type 0} → Result T NoTable → Answer
started_of = told_by done no_table_of

-- With a refusal the cursor is all zero.
abbrev pub start_of : Result CursorCode NoTable → Step
start_of (Ok c) = record { answer = given 1; cursor = cursor_of c }
start_of (Err refusal) = record { answer = no_table_of refusal; cursor = blank_cursor }

abbrev pub next_refusal_of : NextRefusal → Answer
next_refusal_of Unfit = refused 1
next_refusal_of BadCursor = refused 11
next_refusal_of Lost = refused 9

abbrev pub given_of : Result (Option ℕ) NextRefusal → Answer
given_of = told_by (told_if_any given) next_refusal_of

-- A step from the cursor c: a refusal hands it back.
abbrev pub walked_of : Cursor → Result (Option ℕ × CursorCode) NextRefusal → Step
walked_of c (Ok (entry, after)) = record { answer = given_of (Ok entry); cursor = cursor_of after }
walked_of c (Err refusal) = record { answer = given_of (Err refusal); cursor = c }

abbrev pub step_of : StepCode → Step
step_of r = record { answer = given_of r.answer; cursor = cursor_of r.cursor }
