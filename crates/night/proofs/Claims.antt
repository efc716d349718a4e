-- Every claim of the crate holds: an answer is read back off what it tells, and a call's answer is the model's.
use mathlib.Core.Path.{◌≡◌, refl, ap, sym, ◌∙◌}
use mathlib.Core.Logic.{◌↔◌}
use mathlib.Core.Bool.{Bool, true, false, false≢true}
use mathlib.Core.List.{List}
use Prim.Native.Nat.{ℕ}
use native.Mathlib.Omega.{arith}
use lib.ListN.{length}
use Rattle.std.specs.Prelude.{Result, Ok, Err}
use Rattle.slots.specs.Coded.{told_by, unfit_told}
use Rattle.night.specs.Told.{account_told}
use borrow.Author.Tests.{eq-eqb}
use Rattle.slots.specs.Answers.{Answer, some, none}
use Rattle.slots.proofs.Claims.{answer_one_to_one}
use Rattle.index_rules.specs.Live.{Live, Fit, fits}
use Rattle.index_rules.proofs.Fit.{fit_fits, fits_fit}
use Rattle.night_rules.specs.Account.{Account, explained}
use Rattle.night_rules.specs.Why.{whys}
use Rattle.night_rules.specs.Salvage.{Salvaged, salvages}
use Rattle.night_rules.specs.Saved.{FitSalvage}
use Rattle.night_rules.proofs.Claims.{claims as rules}
use Rattle.night.specs.Shown.{Telling, refuses, tells, why_told, telling_answer, telling_shown}
use Rattle.night.specs.Whys.{why_of}
use Rattle.night.specs.Salvages.{salvage_of}
use Rattle.night.proofs.Finding.{account_back, breach_one_to_one, finding_one_to_one}
use Rattle.night.specs.Claims.{SalvageReturned, left_with, Claims}
use Rattle.night.specs.declared.account.Account.{Account as AccountCode}
use Rattle.slots.specs.declared.answer.Unfit.{Unfit}

abbrev why_back : Telling → Result AccountCode Unfit
why_back refuses = Err (record {})
why_back (tells w) = Ok (account_back w)

why_back_lem : (r : Result AccountCode Unfit) → why_back (why_of r) ≡ r
why_back_lem (Ok account) = refl
why_back_lem (Err _) = refl

why_answer : (r : Result AccountCode Unfit) → told_by account_told unfit_told r ≡ telling_answer (why_of r)
why_answer (Ok account) = refl
why_answer (Err _) = refl

why_one_to_one : (a b : Result AccountCode Unfit) → why_of a ≡ why_of b → a ≡ b
why_one_to_one a b e = sym (why_back_lem a) ∙ ap why_back e ∙ why_back_lem b

never : {w : Account} → tells w ≡ refuses → ⊥
never e = let z : ◌≡◌ {A = ℕ} 0 1 = cc in omega arith

module _ (t : Live) where
  why_refuses : (why_told t ≡ refuses) ↔ (Fit t → ⊥)
  unfolding why_told
  why_refuses = go (fits t) refl
    where
      go : (b : Bool) → fits t ≡ b → (why_told t ≡ refuses) ↔ (Fit t → ⊥)
      go true f = (λ e. absurd (never (rw f at e)), λ n. absurd (n (fits_fit t f)))
      go false f = (λ e g. false≢true (sym f ∙ fit_fits t g), λ n. rw f)

  why-called : (shown : List ℕ) → length shown ≡ 8
      → whys t shown ≡ explained (telling_answer (why_told t)) (telling_shown (why_told t) shown)
  unfolding whys why_told
  why-called shown e = go (fits t) refl
    where
      go : (b : Bool) → fits t ≡ b → whys t shown ≡ explained (telling_answer (why_told t)) (telling_shown (why_told t) shown)
      go true f = simp (f, eq-eqb (length shown) 8 e)
      go false f = simp f

abbrev salvage_back : Answer → Result ℕ Unfit
salvage_back a = elim a.value [
  | some count ↦ Ok count
  | none ↦ Err (record {})
]

salvage_back_lem : (a : Result ℕ Unfit) → salvage_back (salvage_of a) ≡ a
salvage_back_lem (Ok count) = refl
salvage_back_lem (Err _) = refl

salvage_one_to_one : (a b : Result ℕ Unfit) → salvage_of a ≡ salvage_of b → a ≡ b
salvage_one_to_one a b e = sym (salvage_back_lem a) ∙ ap salvage_back e ∙ salvage_back_lem b

one_left : (a b : SalvageReturned) → left_with salvage_of a ≡ left_with salvage_of b → a ≡ b
one_left a b e =
    let z = salvage_one_to_one a.answer b.answer (ap (λ (o : Salvaged). o.answer) e) in
    λ i. record {
      answer = z i;
      names = (e i).into.names;
      cells = (e i).into.cells;
      head = (e i).into.head;
      sizes = (e i).into.sizes;
      report = (e i).report;
    }

salvage_refuses : (names cells : List ℕ) (u : Live) (report : List ℕ) (r : SalvageReturned)
    → left_with salvage_of r ≡ salvages names cells u report → (r.answer ≡ Err (record {})) ↔ (FitSalvage names cells u report → ⊥)
salvage_refuses names cells u report r e =
    let a : salvage_of r.answer ≡ (salvages names cells u report).answer = ap (λ (o : Salvaged). o.answer) e in
    let q = (rules.salvages names cells u report).one in
    (λ z. q.0 (sym a ∙ ap salvage_of z), λ n. salvage_one_to_one r.answer (Err (record {})) (a ∙ q.1 n))

pub claims : Claims
claims =
    record {
      why_one_to_one = why_one_to_one;
      why_one = λ t a b e f. why_one_to_one a b (e ∙ sym f);
      why_refuses = why_refuses;
      why-called = why-called;
      breach_one_to_one = breach_one_to_one;
      finding_one_to_one = finding_one_to_one;
      why_answer = why_answer;
      examine_one = λ t a b e f. finding_one_to_one a b (e ∙ sym f);
      salvage_one_to_one = salvage_one_to_one;
      salvage_one = λ names cells u report a b e f. one_left a b (e ∙ sym f);
      salvage_refuses = salvage_refuses;
      answer_one = λ _ a b e f. answer_one_to_one a b (e ∙ sym f);
    }
