-- What crate `mover` proves beside its contracts: answers of a move are told apart by their numbers and values, and each public routine has
-- one outcome, what it returns with all that is left in the set.
use Rattle.std.specs.Prelude.{◌≡◌, List, Result, ℕ}
use Rattle.slots.specs.Answers.{Answer, OneAnswer}
use Rattle.slots.specs.Coded.{answer_of}
use Rattle.set_rules.specs.Words.{Set, lent_set}
use Rattle.move_rules.specs.Moving.{move_outcome, moves}
use Rattle.move_rules.specs.Finishing.{finishing}
use Rattle.mover.specs.Moved.{move_of}
use Rattle.mover.specs.Finished.{finish_of}
use Rattle.mover.specs.declared.finishing.Stop.{Stop}
use Rattle.mover.specs.declared.moving.MoveRefusal.{MoveRefusal}

-- What a move returns, and the three slices that it may write, after it.
pub record MoveReturned : Type 0 where
  pub reply : Result ℕ MoveRefusal
  pub bins : List ℕ
  pub heads : List ℕ
  pub cells : List ℕ

-- What the moves of all bins return, and the three slices after them.
pub record FinishReturned : Type 0 where
  pub told : Result ℕ Stop
  pub bins : List ℕ
  pub heads : List ℕ
  pub cells : List ℕ

pub record Claims : Type 0 where
  pub move_reply_one_to_one : (a b : Result ℕ MoveRefusal) → move_of a ≡ move_of b → a ≡ b
  pub answer_one : (a : Answer) → OneAnswer (λ r. answer_of r ≡ a)
  pub move_bin_one : (s : Set) (table bin : ℕ) → OneAnswer (λ (r : MoveReturned).
      move_outcome (move_of r.reply) (lent_set s.lengths r.bins r.heads s.names r.cells) ≡ moves s table bin)
  pub finish_one : (s : Set) → OneAnswer (λ (r : FinishReturned).
      finish_of r.told (lent_set s.lengths r.bins r.heads s.names r.cells) ≡ finishing s)
