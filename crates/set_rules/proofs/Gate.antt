-- An answer that is given on fit words only, with 1 on others.
use mathlib.Core.Path.{◌≡◌, refl, sym, ◌∙◌}
use mathlib.Core.Logic.{◌↔◌}
use mathlib.Core.Bool.{Bool, true, false}
use Rattle.slots.specs.Words.{pick}
use Rattle.slots.specs.Answers.{Answer, refused}
use Rattle.set_rules.specs.Words.{Set, Fit, fits}
use Rattle.set_rules.proofs.Fit.{fits_fit, fit_fits}

module _ (s : Set) (inner : Answer) where
  abbrev pub gated : Answer
  gated = pick (fits s) inner (refused 1)

  pub on_fit : Fit s → gated ≡ inner
  on_fit h = simp (fit_fits h)

  off_fit : (Fit s → ⊥) → gated ≡ refused 1
  off_fit n = go (fits s) refl
    where
      go : (b : Bool) → fits s ≡ b → pick (fits s) inner (refused 1) ≡ refused 1
      go true z = absurd (n (fits_fit s z))
      go false z = simp z

  pub one_only : (inner ≡ refused 1 → ⊥) → (gated ≡ refused 1) ↔ (Fit s → ⊥)
  one_only n = (λ e h. n (sym (on_fit h) ∙ e), off_fit)

  pub others : {a : Answer} → (a ≡ refused 1 → ⊥) → {P : Type 0} → (inner ≡ a) ↔ P → (gated ≡ a) ↔ (Fit s × P)
  others {a} n {P} h = (λ e. go (fits s) refl e, λ f. on_fit f.0 ∙ h.1 f.1)
    where
      go : (b : Bool) → fits s ≡ b → gated ≡ a → Fit s × P
      go true z e = let f = fits_fit s z in (f, h.0 (sym (on_fit f) ∙ e))
      go false z e = absurd (n (sym e ∙ simp z))
