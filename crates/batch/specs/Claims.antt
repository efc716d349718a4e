-- What crate `batch` proves beside its contracts: its answers are told apart by their numbers and values, and it has one outcome, the
-- answer with all that is left in the lent slices.
use Rattle.std.specs.Prelude.{◌≡◌, List, ℕ, Result}
use Rattle.slots.specs.Answers.{Answer, OneAnswer}
use Rattle.slots.specs.Coded.{answer_of}
use Rattle.index_rules.specs.Index.{Index, lent}
use Rattle.index_rules.specs.Batch.{Batched, batched, batches}
use Rattle.batch.specs.Calls.{batch_of}
use Rattle.slots.specs.declared.answer.Unsound.{Unsound}

-- What batch returns, and the words of the six slices after it.
pub record BatchReturned : Type 0 where
  pub answer : Result ℕ Unsound
  pub names : List ℕ
  pub cells : List ℕ
  pub head : List ℕ
  pub sizes : List ℕ
  pub lines : List ℕ
  pub answers : List ℕ

abbrev pub returned_with : (Result ℕ Unsound → Answer) → BatchReturned → Batched
returned_with f r = batched (f r.answer) (lent r.names r.cells r.head r.sizes r.lines) r.answers

pub record Claims : Type 0 where
  pub batch_one_to_one : (a b : Result ℕ Unsound) → batch_of a ≡ batch_of b → a ≡ b
  pub batch_one : (ix : Index) (calls answers : List ℕ) → OneAnswer (λ r. returned_with batch_of r ≡ batches ix calls answers)
  pub answer_one : (a : Answer) → OneAnswer (λ r. answer_of r ≡ a)
