-- A tally comes to one of two refusals, or to 1 or 0; so its word tells which.
use mathlib.Core.Path.{◌≡◌, refl, ap, ◌∙◌}
use mathlib.Core.List.{List}
use Prim.Native.Nat.{ℕ}
use native.Mathlib.Omega.{arith}
use lib.Dec.{ltb}
use Rattle.slots.specs.Answers.{Answer, answer_word}
use Rattle.set_rules.specs.Words.{Set}
use Rattle.figure_rules.specs.Totals.{counted_in, most_sets, fits_totals}
use Rattle.figure_rules.specs.Tally.{TallyOutcome, tally_outcome, is_taken, tallies}
use Rattle.figure_rules.proofs.Claims.{claims}
use Rattle.word_rules.specs.Told.{Valued, gives}
use Rattle.word_rules.specs.Words.{TallyWorded, tally_worded}
use Rattle.word_rules.specs.Tallied.{TallyTold}
use Rattle.word_rules.proofs.Telling.{plainly, always_tells, told-when, told-given}
use Rattle.word_rules.proofs.Answering.{picked}

module _ (s : Set) (t : List ℕ) where
  -- Its value, and what it leaves where it is refused.
  abbrev Tells : TallyOutcome → Type 0
  Tells o = ((v : ℕ) × Valued 4294967296 o.answer v) × ((o.answer.number ≡ 0 → ⊥) → o.totals ≡ t)

  valued : Tells (tallies s t)
  unfolding tallies
  valued =
      picked Tells (fits_totals t)
      (λ _. picked Tells (ltb (counted_in t) most_sets)
      (λ _. picked Tells (is_taken s) (λ _. ((1, gives (omega arith)), λ n. absurd (n refl)))
      (λ _. ((0, gives (omega arith)), λ n. absurd (n refl))))
      (λ _. ((0, plainly 17 refl), λ _. refl)))
      (λ _. ((0, plainly 1 refl), λ _. refl))

pub tally_tells : (s : Set) (t : List ℕ) → TallyTold s t (tallies s t) (tally_worded (tallies s t))
unfolding tally_worded
tally_tells s t =
    let v = valued s t in
    let w = always_tells v.0.1 in
    let c = claims.tally s t in
    record {
      tells = w;
      one = told-when w 1 refl (c.answers_one, λ h. ap (λ (o : TallyOutcome). o.answer) (c.one.1 h));
      seventeen = told-when w 17 refl (c.answers_seventeen, λ h. ap (λ (o : TallyOutcome). o.answer) (c.seventeen.1 h));
      stays = λ r. v.1 (λ e. r (w.number ∙ e));
      taken = λ f l g h. (let d = c.taken f l g h in (told-given w d.0, d.1));
      turned = λ f l n. (let d = c.turned f l n in (told-given w d.0, d.1));
    }

-- The library's outcome in words.
pub tells_tally : {w : ℕ} {a : Answer} {t : List ℕ} {o : TallyOutcome} → w ≡ answer_word a → tally_outcome a t ≡ o
    → ◌≡◌ {A = TallyWorded} (record { word = w; totals = t }) (tally_worded o)
unfolding tally_worded
tells_tally e f = rw (e, ← f)
