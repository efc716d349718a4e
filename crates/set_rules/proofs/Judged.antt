-- Every claim of `Judged` holds: the laws of the other files, put together.
use mathlib.Core.Path.{◌≡◌, refl, sym, ◌∙◌}
use mathlib.Core.Logic.{◌↔◌}
use mathlib.Core.Bool.{Bool, true, false, false≢true}
use native.Mathlib.Omega.{arith}
use Rattle.slots.specs.Words.{pick}
use Rattle.slots.specs.Answers.{Answer, given}
use Rattle.slots.proofs.Laws.{number}
use Rattle.index_rules.proofs.Sounding.{verdict, verdict_no, not_one}
use Rattle.set_rules.specs.Words.{Set, Fit}
use Rattle.set_rules.specs.Accepted.{Accepted}
use Rattle.set_rules.specs.Accepting.{accepted, accepts}
use Rattle.set_rules.specs.Judged.{Accepting, Judged}
use Rattle.set_rules.proofs.Fit.{fits_exactly, bini_mod}
use Rattle.set_rules.proofs.Gate.{one_only, others}
use Rattle.set_rules.proofs.Naming.{ranges}
use Rattle.set_rules.proofs.Accepting.{yes_accepted, accepted_yes}

module _ (s : Set) where
  abbrev inner : Answer
  inner = pick (accepted s) (given 1) (given 0)

  -- No is said where the set is not accepted.
  refuses : Fit s → (accepted s ≡ false) ↔ (Accepted s → ⊥)
  refuses f = (λ e h. false≢true (sym e ∙ accepted_yes f h), λ n. go (accepted s) refl n)
    where
      go : (b : Bool) → accepted s ≡ b → (Accepted s → ⊥) → accepted s ≡ false
      go true e n = absurd (n (yes_accepted f e))
      go false e n = e

  accept_claims : Accepting s
  unfolding accepts
  accept_claims =
      let y = others s inner (λ e. omega (arith, number e)) (verdict (accepted s)) in
      let n = others s inner (λ e. omega (arith, number e)) (verdict_no (accepted s)) in
      record {
        one = one_only s inner (not_one (accepted s));
        yes = (λ e. (let k = y.0 e in (k.0, yes_accepted k.0 k.1)), λ k. y.1 (k.0, accepted_yes k.0 k.1));
        no = (λ e. (let k = n.0 e in (k.0, (refuses k.0).0 k.1)), λ k. n.1 (k.0, (refuses k.0).1 k.1));
      }

pub judged : Judged
judged = record { fitness = fits_exactly; names_bin = λ s f. bini_mod f; ranges = ranges; accepting = accept_claims }
