-- What crate `tree` proves beside its contracts: its answers are told apart by their numbers, and each public routine has one answer.
use Rattle.std.specs.Prelude.{◌≡◌, Option, Result, List, ℕ, ◌<◌}
use Rattle.slots.specs.Words.{null}
use Rattle.slots.specs.Answers.{Answer, OneAnswer}
use Rattle.tree_rules.specs.Rules.{obeyed, tree_size}
use Rattle.tree_rules.specs.Chain.{chained}
use Rattle.tree.specs.Rules.{rest_of, size_of}
use Rattle.tree_rules.specs.Find.{Counted, found, with_looks, counted}
use Rattle.tree_rules.specs.Check.{checked, in_range, links_in, points_back}
use Rattle.tree.specs.Find.{searched_of, searched_by, counted_of, in_a_word}
use Rattle.tree.specs.Check.{checked_of}
use Rattle.tree.specs.declared.check.Fault.{Fault}
use Rattle.tree.specs.declared.find.Found.{Found}
use Rattle.tree.specs.declared.find.Counted.{Counted as CountedCode}

pub record Claims : Type 0 where
  -- no two answers of find_tree_node have one number, value and looks
  pub found_one_to_one : (a b : Found ℕ) → searched_of a ≡ searched_of b → a ≡ b
  -- find_tree_node's promise allows one answer
  pub counted_one_to_one : (a b : CountedCode) → counted_of a ≡ counted_of b → a ≡ b
  pub with_looks_one : (looks : ℕ) (a : Answer) → OneAnswer (λ r. counted_of r ≡ with_looks looks a)
  -- the looks of every search that the index or a set makes are told as they are
  pub few_looks : (c : Counted) → c.looks < 4294967296 → in_a_word c ≡ c
  pub in_a_word_one : (c : Counted) → OneAnswer (λ r. searched_of r ≡ in_a_word c)
  pub counted_one : (f : Found ℕ) → OneAnswer (λ r. counted_of r ≡ searched_of f)
  -- whatever refuses, a number here
  pub counted_by_one : (refusal : ℕ → Answer) (f : Result (Found ℕ) ℕ) → OneAnswer (λ r. counted_of r ≡ searched_by refusal f)
  pub find_tree_node_one : (names cells : List ℕ) (root hash key : ℕ)
      → OneAnswer (λ r. searched_of r ≡ counted (found names cells root hash key))
  -- so for the source's check
  pub checked_one_to_one : (a b : Option Fault) → checked_of a ≡ checked_of b → a ≡ b
  pub check_invariants_one : (names cells : List ℕ) (root : ℕ) → OneAnswer (λ r. checked_of r ≡ checked names cells root)
  -- so for the rules of one tree, and its chain
  pub rest_one_to_one : (a b : Option ℕ) → rest_of a ≡ rest_of b → a ≡ b
  pub size_one_to_one : (a b : Option ℕ) → size_of a ≡ size_of b → a ≡ b
  pub survey_one : (names cells : List ℕ) (root visits : ℕ) → OneAnswer (λ r. rest_of r ≡ obeyed names cells root visits)
  pub tree_size_one : (names cells sizes : List ℕ) (root : ℕ) → OneAnswer (λ r. size_of r ≡ tree_size names cells sizes root)
  pub chain_one : (n : ℕ) (cells : List ℕ) (first : ℕ) → OneAnswer (λ r. rest_of r ≡ chained n n cells null first)
  pub in_range_one : (n link : ℕ) → OneAnswer (λ r. r ≡ in_range n link)
  pub links_in_one : (n : ℕ) (cells : List ℕ) (i : ℕ) → OneAnswer (λ r. r ≡ links_in n cells i)
  pub points_back_one : (cells : List ℕ) (i f g : ℕ) → OneAnswer (λ r. r ≡ points_back cells i f g)
