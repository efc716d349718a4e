-- What crate `night` proves beside its contracts: an answer is told apart by what it tells, each call has one outcome, and it is the call
-- that the rules describe.
use Rattle.std.specs.Prelude.{◌≡◌, ◌↔◌, Option, Result, Err, List, ℕ, length}
use Rattle.slots.specs.Answers.{Answer, OneAnswer}
use Rattle.slots.specs.Coded.{answer_of}
use Rattle.slots.specs.Coded.{told_by, unfit_told}
use Rattle.night.specs.Told.{account_told}
use Rattle.index_rules.specs.Live.{Live, Fit, lent_tree}
use Rattle.night_rules.specs.Account.{explained}
use Rattle.night_rules.specs.Why.{whys}
use Rattle.night_rules.specs.Finding.{examined}
use Rattle.night_rules.specs.Salvage.{Salvaged, salvaged, salvages}
use Rattle.night_rules.specs.Saved.{FitSalvage}
use Rattle.night.specs.Shown.{refuses, why_told, telling_answer, telling_shown}
use Rattle.night.specs.Whys.{why_of}
use Rattle.night.specs.Breaches.{breach_of}
use Rattle.night.specs.Found.{finding_of}
use Rattle.night.specs.Salvages.{salvage_of}
use Rattle.night.specs.declared.account.Account.{Account}
use Rattle.night.specs.declared.breach.Breach.{Breach}
use Rattle.slots.specs.declared.answer.Unfit.{Unfit}

-- What salvage returns, and the words of the five slices after it.
pub record SalvageReturned : Type 0 where
  pub answer : Result ℕ Unfit
  pub names : List ℕ
  pub cells : List ℕ
  pub head : List ℕ
  pub sizes : List ℕ
  pub report : List ℕ

abbrev pub left_with : (Result ℕ Unfit → Answer) → SalvageReturned → Salvaged
left_with f r = salvaged (f r.answer) (lent_tree r.names r.cells r.head r.sizes) r.report

pub record Claims : Type 0 where
  pub why_one_to_one : (a b : Result Account Unfit) → why_of a ≡ why_of b → a ≡ b
  -- its number and value as an answer
  pub why_answer : (r : Result Account Unfit) → told_by account_told unfit_told r ≡ telling_answer (why_of r)
  pub why_one : (t : Live) → OneAnswer (λ r. why_of r ≡ why_told t)
  -- refused exactly where the slices do not fit
  pub why_refuses : (t : Live) → (why_told t ≡ refuses) ↔ (Fit t → ⊥)
  -- what is told, put into eight words, is the call that the rules describe
  pub why-called : (t : Live) (shown : List ℕ) → length shown ≡ 8
      → whys t shown ≡ explained (telling_answer (why_told t)) (telling_shown (why_told t) shown)
  -- a breach and a finding are told apart by what they mean
  pub breach_one_to_one : (a b : Breach) → breach_of a ≡ breach_of b → a ≡ b
  pub finding_one_to_one : (a b : Result (Option (Account × Breach)) Unfit) → finding_of a ≡ finding_of b → a ≡ b
  pub examine_one : (t : Live) → OneAnswer (λ r. finding_of r ≡ examined t)
  pub salvage_one_to_one : (a b : Result ℕ Unfit) → salvage_of a ≡ salvage_of b → a ≡ b
  pub salvage_one : (names cells : List ℕ) (u : Live) (report : List ℕ)
      → OneAnswer (λ r. left_with salvage_of r ≡ salvages names cells u report)
  -- refused exactly where the words are not fit
  pub salvage_refuses : (names cells : List ℕ) (u : Live) (report : List ℕ) (r : SalvageReturned)
      → left_with salvage_of r ≡ salvages names cells u report → (r.answer ≡ Err (record {})) ↔ (FitSalvage names cells u report → ⊥)
  pub answer_one : (a : Answer) → OneAnswer (λ r. answer_of r ≡ a)
