-- What holds after each call of a batch.
use Rattle.std.specs.Prelude.{◌≡◌, List, ℕ, set}
use Rattle.slots.specs.Answers.{answer_word}
use Rattle.index_rules.specs.Index.{Index}
use Rattle.index_rules.specs.Calls.{Call, called}
use Rattle.index_rules.specs.Checked.{Ready}

-- Call number k was made: what it leaves is the single call's, and so is the word of its answer; the next one is ready.
pub record CallMade (ix : Index) (answers : List ℕ) (k : ℕ) (c : Call) (jx : Index) (words : List ℕ) (floor : ℕ) : Type 0 where
  pub left : jx ≡ (called c ix).left
  pub word : words ≡ set answers k (answer_word (called c ix).answer)
  pub ready : Ready jx floor
