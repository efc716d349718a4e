-- What crate `sets` proves, in one record. Every statement of the crate stands here or in a record that is named here.
use Rattle.std.specs.Prelude.{◌≡◌}
use Rattle.slots.specs.Answers.{Answer, OneAnswer}
use Rattle.slots.specs.Coded.{answer_of}
use Rattle.sets.specs.Binning.{Binning}
use Rattle.sets.specs.Judging.{Judging}
use Rattle.sets.specs.Looking.{Looking}
use Rattle.sets.specs.Stepping.{Stepping}

pub record Claims : Type 0 where
  pub binning : Binning
  pub judging : Judging
  pub looking : Looking
  pub stepping : Stepping
  -- the number and value that each enum of answers has
  pub answer_one : (a : Answer) → OneAnswer (λ r. answer_of r ≡ a)
