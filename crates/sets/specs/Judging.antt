-- Of acceptance's code beside its contracts: its answers are told apart by their numbers, and accept has one outcome.
use Rattle.std.specs.Prelude.{◌≡◌, Bool, Result}
use Rattle.slots.specs.Answers.{OneAnswer}
use Rattle.slots.specs.declared.answer.Unfit.{Unfit}
use Rattle.set_rules.specs.Words.{Set}
use Rattle.set_rules.specs.Accepting.{accepts}
use Rattle.sets.specs.Verdicts.{accept_of}

pub record Judging : Type 0 where
  pub acceptance_one_to_one : (a b : Result Bool Unfit) → accept_of a ≡ accept_of b → a ≡ b
  pub accept_one : (s : Set) → OneAnswer (λ r. accept_of r ≡ accepts s)
