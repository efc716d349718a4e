-- Of hanging and unlinking beside their contracts: each public routine has one outcome.
use Rattle.std.specs.Prelude.{◌≡◌, ℕ, List}
use Rattle.slots.specs.Answers.{OneAnswer}
use Rattle.redblack.specs.Links.{Links}
use Rattle.redblack.specs.Hanging.{inserted, spotted}
use Rattle.redblack.specs.Removal.{removed}

pub record Linking : Type 0 where
  pub hang_slot_one : (budget : ℕ) (names : List ℕ) (s : Links) (x hash key : ℕ)
      → OneAnswer (λ t. t ≡ inserted budget s x (spotted budget names s hash key))
  pub unlink_slot_one : (budget : ℕ) (s : Links) (p : ℕ) → OneAnswer (λ t. t ≡ removed budget s p)
