-- Of the routines that only read beside their contracts: their answers are told apart by their numbers,
-- and each public routine has one outcome.
use Rattle.std.specs.Prelude.{◌≡◌, Bool, List, Option, ℕ, Result, eqb}
use Rattle.slots.specs.Answers.{Answer, OneAnswer}
use Rattle.slots.specs.Coded.{answer_of}
use Rattle.tree_rules.specs.Find.{Counted, counted}
use Rattle.tree.specs.Find.{counted_of}
use Rattle.index_rules.specs.Live.{Live, Unsized, fits, fits_unsized}
use Rattle.index_rules.specs.Find.{finds}
use Rattle.index_rules.specs.Check.{checks}
use Rattle.index_rules.specs.Index.{Index}
use Rattle.index_rules.specs.Checked.{sounds_index}
use Rattle.tree_rules.specs.Chain.{tally}
use Rattle.slots.specs.Words.{null}
use Rattle.index_rules.specs.Sound.{used, is_cleared, agree, slots_fine, sounds}
use Rattle.index.specs.Reads.{found_of, checked_of, sound_of}
use Rattle.tree.specs.declared.check.Fault.{Fault}
use Rattle.tree.specs.declared.find.Found.{Found}
use Rattle.slots.specs.declared.answer.Unfit.{Unfit}

pub record Reading : Type 0 where
  pub found_one_to_one : (a b : Result (Found ℕ) Unfit) → found_of a ≡ found_of b → a ≡ b
  pub find_one : (t : Unsized) (hash key : ℕ) → OneAnswer (λ r. found_of r ≡ counted (finds t hash key))
  pub checked_one_to_one : (a b : Result (Option Fault) Unfit) → checked_of a ≡ checked_of b → a ≡ b
  pub check_one : (t : Unsized) → OneAnswer (λ r. checked_of r ≡ checks t)
  pub soundness_one_to_one : (a b : Result Bool Unfit) → sound_of a ≡ sound_of b → a ≡ b
  pub sound_one : (t : Live) → OneAnswer (λ r. sound_of r ≡ sounds t)
  pub sound-index_one : (ix : Index) → OneAnswer (λ r. sound_of r ≡ sounds_index ix)
  pub fit_unsized_one : (t : Unsized) → OneAnswer (λ r. r ≡ fits_unsized t)
  pub fit_one : (t : Live) → OneAnswer (λ r. r ≡ fits t)
  pub counted_one : (c : Counted) → OneAnswer (λ r. counted_of r ≡ c)
  pub answer_one : (a : Answer) → OneAnswer (λ r. answer_of r ≡ a)
  pub slots-fine_one : (t : Live) (n : ℕ) → OneAnswer (λ r. r ≡ slots_fine n n t)
  pub used-slots_one : (cells : List ℕ) (n : ℕ) → OneAnswer (λ r. r ≡ tally n (used cells))
  pub is-cleared_one : (t : Live) (i : ℕ) → OneAnswer (λ r. r ≡ is_cleared t i)
  pub null-if-none_one : (link count : ℕ) → OneAnswer (λ r. r ≡ agree (eqb link null) (eqb count 0))
