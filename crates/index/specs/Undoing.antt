-- Of rollback beside its contract: its answers are told apart by their numbers and values, and it has one outcome,
-- the answer with all that is left in the lent slices.
use Rattle.std.specs.Prelude.{◌≡◌, ℕ, Result}
use Rattle.slots.specs.Answers.{OneAnswer}
use Rattle.index_rules.specs.Index.{Index}
use Rattle.index_rules.specs.Rollback.{rolls}
use Rattle.index_rules.specs.Checked.{rolls_sound}
use Rattle.index.specs.Calling.{outcome_of}
use Rattle.index.specs.Rolls.{rolled_of}
use Rattle.index.specs.declared.rollback.RollbackRefusal.{RollbackRefusal}

pub record Undoing : Type 0 where
  pub rolled_one_to_one : (a b : Result ℕ RollbackRefusal) → rolled_of a ≡ rolled_of b → a ≡ b
  pub rollback_sound_one : (ix : Index) (m : ℕ) → OneAnswer (λ c. outcome_of rolled_of c ≡ rolls_sound ix m)
  pub rollback_one : (ix : Index) (m : ℕ) → OneAnswer (λ c. outcome_of rolled_of c ≡ rolls ix m)
