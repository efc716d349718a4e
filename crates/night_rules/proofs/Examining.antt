-- A finding is put together of whether the slices fit, what is told, and how the rule is broken.
use mathlib.Core.Path.{◌≡◌, refl, sym, ap, ◌∙◌}
use mathlib.Core.Logic.{◌↔◌}
use mathlib.Core.Bool.{Bool, true, false, false≢true}
use Prim.Native.Nat.{ℕ}
use native.Mathlib.Omega.{arith}
use lib.Dec.{eqb}
use borrow.Author.Tests.{eq-eqb, ne_eqb, eqb-true, eqb-false}
use Rattle.index_rules.specs.Live.{Live, Fit, fits}
use Rattle.index_rules.specs.Sound.{Sound}
use Rattle.index_rules.proofs.Fit.{fit_fits, fits_fit}
use Rattle.slots.specs.Words.{pick}
use Rattle.night_rules.specs.Account.{Account}
use Rattle.night_rules.specs.Reason.{Reason}
use Rattle.night_rules.specs.Breach.{Breach, BreaksAt, breach}
use Rattle.night_rules.specs.Why.{why}
use Rattle.night_rules.specs.Finding.{Finding, sound, broken, unfit, examined, Examined}
use Rattle.night_rules.specs.Claims.{Reasons}
use Rattle.night_rules.proofs.Breaking.{broken as is-broken}

module _ {t : Live} (reasons : Fit t → Reasons t) where
  -- What the finding is, with the tests that led to it.
  data Comes : Finding → Type 0 where
    unfitting : (Fit t → ⊥) → Comes unfit
    sounding : Fit t → Sound t → Comes sound
    breaking : Fit t → (Sound t → ⊥) → Comes (broken (why t) (breach t (why t)))

  comes : Comes (examined t)
  unfolding examined
  comes = go (fits t) refl
    where
      inner : (f : Fit t) (b : Bool) → eqb (why t).rule 0 ≡ b → Comes (pick b sound (broken (why t) (breach t (why t))))
      inner f true e = sounding f ((reasons f).number.0 (eqb-true _ _ e))
      inner f false e = breaking f (λ s. eqb-false _ _ e ((reasons f).number.1 s))

      go : (b : Bool) → fits t ≡ b → Comes (pick b (pick (eqb (why t).rule 0) sound (broken (why t) (breach t (why t)))) unfit)
      go true e = inner (fits_fit t e) (eqb (why t).rule 0) refl
      go false e = unfitting (λ f. false≢true (sym e ∙ fit_fits t f))

  pub found : Examined t
  found =
      record {
        unfit_when = (λ e. when comes e, λ n. none n comes);
        sound-when = (λ e. sure comes e, λ p. is p.0 p.1 comes);
        broken_true = λ w b e. true_of comes e;
        broken_when = λ x w r. told x r comes;
      }
    where
      when : {f : Finding} → Comes f → f ≡ unfit → Fit t → ⊥
      when (unfitting n) e = n
      when (sounding x s) e = let z : ◌≡◌ {A = ℕ} 0 1 = cc in absurd (omega arith)
      when (breaking x n) e = let z : ◌≡◌ {A = ℕ} 0 1 = cc in absurd (omega arith)

      none : (Fit t → ⊥) → {f : Finding} → Comes f → f ≡ unfit
      none n (unfitting m) = refl
      none n (sounding x s) = absurd (n x)
      none n (breaking x s) = absurd (n x)

      sure : {f : Finding} → Comes f → f ≡ sound → Fit t × Sound t
      sure (unfitting n) e = let z : ◌≡◌ {A = ℕ} 0 1 = cc in absurd (omega arith)
      sure (sounding x s) e = (x, s)
      sure (breaking x n) e = let z : ◌≡◌ {A = ℕ} 0 1 = cc in absurd (omega arith)

      is : Fit t → Sound t → {f : Finding} → Comes f → f ≡ sound
      is x s (unfitting n) = absurd (n x)
      is x s (sounding y r) = refl
      is x s (breaking y n) = absurd (n s)

      true_of : {f : Finding} {w : Account} {b : Breach} → Comes f → f ≡ broken w b → Fit t × Reason t w × BreaksAt t w b
      true_of (unfitting n) e = let z : ◌≡◌ {A = ℕ} 0 1 = cc in absurd (omega arith)
      true_of (sounding x s) e = let z : ◌≡◌ {A = ℕ} 0 1 = cc in absurd (omega arith)
      true_of {w = w} {b} (breaking x n) e =
          let p : why t ≡ w = cc in
          let q : breach t (why t) ≡ b = cc in
          let r = (reasons x).reason n in
          (x, rw p at r, rw (← p, ← q) (is-broken x r))

      told : Fit t → {w : Account} → Reason t w → {f : Finding} → Comes f → f ≡ broken w (breach t w)
      told x r (unfitting n) = absurd (n x)
      told x {w} r (sounding y s) = absurd ((reasons y).no_reason s w r)
      told x {w} r (breaking y n) = ap (λ (v : Account). broken v (breach t v)) (sym ((reasons y).only w r))
