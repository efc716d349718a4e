-- Of the words' code beside its contracts: its answers are told apart, `bini` refuses exactly length 0,
-- and each public routine has one outcome.
use Rattle.std.specs.Prelude.{◌≡◌, ◌≢◌, ◌↔◌, Result, List, ℕ, ◌+◌, get_or}
use Rattle.slots.specs.Answers.{OneAnswer, given, refused}
use Rattle.slots.specs.declared.answer.Unfit.{Unfit}
use Rattle.set_rules.specs.Words.{Set, bins_before, fits, bin_of, bini}
use Rattle.set_rules.specs.Accepting.{is_home}
use Rattle.sets.specs.Bins.{bin_as, home_of, binis}
use Rattle.sets.specs.declared.bin.Bin.{Bin}

pub record Binning : Type 0 where
  -- "`bini` on length 0 underflows .. We refuse length 0 with 1."
  pub length-zero : (len hash : ℕ) → (binis len hash ≡ refused 1) ↔ (len ≡ 0)
  -- "The bin for a hash is hash AND (length-1)."
  pub length_more : (len hash : ℕ) → len ≢ 0 → binis len hash ≡ given (bini len hash)
  -- where `bini` refuses, the index is 0
  pub index-zero : (hash : ℕ) → bini 0 hash ≡ 0
  pub bin_one_to_one : (a b : Bin) → bin_as a ≡ bin_as b → a ≡ b
  pub home_one_to_one : (a b : Result ℕ Unfit) → home_of a ≡ home_of b → a ≡ b
  pub bin_of_one : (n h w : ℕ) → OneAnswer (λ r. bin_as r ≡ bin_of n h w)
  pub bini_one : (len hash : ℕ) → OneAnswer (λ r. home_of r ≡ binis len hash)
  pub index_one : (len hash : ℕ) → OneAnswer (λ r. r ≡ bini len hash)
  pub is_home_one : (names : List ℕ) (length i x : ℕ) → OneAnswer (λ r. r ≡ is_home names length i x)
  pub bin-word_one : (lengths bins : List ℕ) (k i : ℕ) → OneAnswer (λ r. r ≡ get_or bins (bins_before lengths k + i) 0)
  pub length-at_one : (lengths : List ℕ) (k : ℕ) → OneAnswer (λ r. r ≡ get_or lengths k 0)
  pub bins_before_one : (lengths : List ℕ) (k : ℕ) → OneAnswer (λ r. r ≡ bins_before lengths k)
  pub fit_set_one : (s : Set) → OneAnswer (λ r. r ≡ fits s)
