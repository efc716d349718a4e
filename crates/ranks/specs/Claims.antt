-- What crate `ranks` proves beside its contracts: its answers are told apart by their numbers and values, and each call has one outcome.
use Rattle.std.specs.Prelude.{◌≡◌, ℕ, Result}
use Rattle.slots.specs.Answers.{Answer, OneAnswer}
use Rattle.slots.specs.Coded.{answer_of}
use Rattle.index_rules.specs.Live.{Live}
use Rattle.index_rules.specs.Ranks.{kths, positions}
use Rattle.ranks.specs.Calls.{kth_of, position_of}
use Rattle.ranks.specs.declared.kth.KthRefusal.{KthRefusal}
use Rattle.ranks.specs.declared.position.PositionRefusal.{PositionRefusal}

pub record Claims : Type 0 where
  pub kth_one_to_one : (a b : Result ℕ KthRefusal) → kth_of a ≡ kth_of b → a ≡ b
  pub kth_one : (t : Live) (k : ℕ) → OneAnswer (λ r. kth_of r ≡ kths t k)
  pub position_one_to_one : (a b : Result ℕ PositionRefusal) → position_of a ≡ position_of b → a ≡ b
  pub position_one : (t : Live) (hash key : ℕ) → OneAnswer (λ r. position_of r ≡ positions t hash key)
  -- what `answer` gives of either result is read off its word
  pub answer_one : (a : Answer) → OneAnswer (λ r. answer_of r ≡ a)
