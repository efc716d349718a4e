-- Of the balancing's code beside its contracts: each of the two loops has one outcome.
use Rattle.std.specs.Prelude.{◌≡◌, ℕ}
use Rattle.slots.specs.Answers.{OneAnswer}
use Rattle.redblack.specs.Links.{Links}
use Rattle.redblack.specs.Insertion.{balanced_insertion}
use Rattle.redblack.specs.Deletion.{balanced_deletion}

pub record Balancing : Type 0 where
  pub balance_insertion_one : (budget : ℕ) (s : Links) (x : ℕ) → OneAnswer (λ t. t ≡ balanced_insertion budget s x)
  pub balance_deletion_one : (budget : ℕ) (s : Links) (x : ℕ) → OneAnswer (λ t. t ≡ balanced_deletion budget s x)
