-- Of lookup's code beside its contracts: its answers are told apart by their numbers, and lookup and its loop alone have one outcome.
use Rattle.std.specs.Prelude.{◌≡◌, Result, ℕ}
use Rattle.slots.specs.Answers.{OneAnswer}
use Rattle.tree_rules.specs.Find.{Counted, counted}
use Rattle.tree.specs.Find.{searched_of, counted_of}
use Rattle.tree.specs.declared.find.Found.{Found}
use Rattle.set_rules.specs.Words.{Set}
use Rattle.set_rules.specs.Lookup.{lookups, lookups_fit}
use Rattle.sets.specs.Lookups.{looked_of}
use Rattle.sets.specs.declared.lookup.NoTable.{NoTable}

pub record Looking : Type 0 where
  pub looked_one_to_one : (a b : Result (Found ℕ) NoTable) → looked_of a ≡ looked_of b → a ≡ b
  pub lookup_one : (s : Set) (t hash key : ℕ) → OneAnswer (λ r. looked_of r ≡ counted (lookups s t hash key))
  pub lookup_fit_one : (s : Set) (t hash key : ℕ) → OneAnswer (λ r. searched_of r ≡ counted (lookups_fit s t hash key))
  pub counted_one : (c : Counted) → OneAnswer (λ r. counted_of r ≡ c)
