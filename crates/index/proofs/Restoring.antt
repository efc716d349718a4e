-- Every claim of `Undoing` holds: an answer is read back off its number and value, and the slices are those of the one outcome.
use mathlib.Core.Path.{◌≡◌, refl}
use Prim.Native.Nat.{ℕ}
use Rattle.std.specs.Prelude.{Result, Ok, Err}
use lib.Dec.{eqb}
use Rattle.slots.specs.Words.{pick}
use Rattle.slots.specs.Answers.{Value, some, none}
use Rattle.slots.proofs.Laws.{told_apart}
use Rattle.index.proofs.Calling.{one}
use Rattle.index.specs.Rolls.{rolled_of}
use Rattle.index.specs.Undoing.{Undoing}
use Rattle.index.specs.declared.rollback.RollbackRefusal.{RollbackRefusal}
use Rattle.index.specs.declared.rollback.RollbackRefusal.TheVariants.{Unfit, Damaged, BadMark, Misfit}

abbrev roll_back : ℕ → Value → Result ℕ RollbackRefusal
roll_back number (some count) = Ok count
roll_back number none = Err (pick (eqb number 1) Unfit (pick (eqb number 2) Damaged (pick (eqb number 7) BadMark Misfit)))

roll_back_lem : (r : Result ℕ RollbackRefusal) → roll_back (rolled_of r).number (rolled_of r).value ≡ r
roll_back_lem (Ok count) = refl
roll_back_lem (Err Unfit) = refl
roll_back_lem (Err Damaged) = refl
roll_back_lem (Err BadMark) = refl
roll_back_lem (Err Misfit) = refl

rolled_one_to_one : (a b : Result ℕ RollbackRefusal) → rolled_of a ≡ rolled_of b → a ≡ b
rolled_one_to_one = told_apart rolled_of (λ a. roll_back a.number a.value) roll_back_lem

pub undoing : Undoing
undoing =
    record {
      rolled_one_to_one = rolled_one_to_one;
      rollback_sound_one = λ ix m c d. one rolled_of rolled_one_to_one _ c d;
      rollback_one = λ ix m c d. one rolled_of rolled_one_to_one _ c d;
    }
