-- What holds of an index that was checked once in a chunk, before and after each byte.
use Rattle.std.specs.Prelude.{◌≡◌, ◌≢◌, Option, None, IfSome, ℕ}
use Rattle.slots.specs.Answers.{Answer}
use Rattle.index_rules.specs.Index.{Index, outcome}
use Rattle.index_rules.specs.Insert.{inserts}
use Rattle.index_rules.specs.Rollback.{rolls}
use Rattle.index_rules.specs.Checked.{Ready}
use Rattle.upload_rules.specs.Reader.{Reader}
use Rattle.upload_rules.specs.Reading.{Session, session}

-- An insert was made: what it leaves is ready where the check has said yes; where it says no, a rollback comes to the same.
pub record EntryMade (ix : Index) (hash key p : ℕ) (a : Answer) (floor : Option ℕ) (jx : Index) : Type 0 where
  pub same : outcome a jx ≡ inserts ix hash key p
  pub ready : IfSome floor (λ f. Ready jx f)
  pub denied : floor ≡ None → (a.number ≢ 0) × ((m : ℕ) → outcome a jx ≡ rolls jx m)

-- A byte was taken: what it leaves is the model's, and ready where the check has said yes.
pub record Stepped (d : Session) (r : Reader) (floor : Option ℕ) (ix : Index) : Type 0 where
  pub same : session r ix ≡ d
  pub ready : IfSome floor (λ f. Ready ix f)
