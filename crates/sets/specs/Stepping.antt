-- Of the walk's code beside its contracts: its answers are told apart by their numbers, and start and next have one outcome each,
-- the cursor included.
use Rattle.std.specs.Prelude.{◌≡◌, Option, Result, ⊤, ℕ}
use Rattle.slots.specs.Answers.{OneAnswer}
use Rattle.set_rules.specs.Words.{Set}
use Rattle.set_rules.specs.Cursor.{Cursor, blank_cursor, starts}
use Rattle.set_rules.specs.Walk.{nexts}
use Rattle.sets.specs.Cursors.{cursor_of, started_of, start_of, given_of, step_of}
use Rattle.sets.specs.declared.lookup.NoTable.{NoTable}
use Rattle.sets.specs.declared.walk.Cursor.{Cursor as CursorCode}
use Rattle.sets.specs.declared.walk.NextRefusal.{NextRefusal}

pub record Stepping : Type 0 where
  pub started_one_to_one : (a b : Result ⊤ NoTable) → started_of a ≡ started_of b → a ≡ b
  -- no two results of start have one number, value and cursor
  pub start_one_to_one : (a b : Result CursorCode NoTable) → start_of a ≡ start_of b → a ≡ b
  pub blank_one : OneAnswer (λ r. cursor_of r ≡ blank_cursor)
  pub start_one : (s : Set) (t : ℕ) → OneAnswer (λ r. start_of r ≡ starts s t)
  pub given_one_to_one : (a b : Result (Option ℕ) NextRefusal) → given_of a ≡ given_of b → a ≡ b
  pub next_one : (s : Set) (c : Cursor) → OneAnswer (λ r. step_of r ≡ nexts s c)
