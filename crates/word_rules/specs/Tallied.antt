-- What a tally comes to, said of the word that it answers and of the totals that it leaves by the rules of section 18.
use Rattle.std.specs.Prelude.{◌≡◌, ◌↔◌, List, ℕ, ◌/◌, ◌<◌}
use Rattle.set_rules.specs.Words.{Set, Fit}
use Rattle.set_rules.specs.Accepted.{Accepted}
use Rattle.figure_rules.specs.Totals.{counted_in, most_sets, FitTotals}
use Rattle.figure_rules.specs.Added.{Added, RefusedOnly}
use Rattle.figure_rules.specs.Tally.{TallyOutcome}
use Rattle.word_rules.specs.Told.{WordTells}
use Rattle.word_rules.specs.Leaving.{RefusedBy}
use Rattle.word_rules.specs.Words.{TallyWorded}

-- oz_tally of the set s into the totals t, on any words: of the rules' call that comes to o the word tells the answer, each number exactly
-- when its reason holds.
pub record TallyTold (s : Set) (t : List ℕ) (o : TallyOutcome) (r : TallyWorded) : Type 0 where
  pub tells : WordTells 4294967296 o.answer r.word
  -- "1 where the totals are not 39 words or one is out of its range; then 17 Too many where a million sets are counted"
  pub one : (r.word / 4294967296 ≡ 1) ↔ (FitTotals t → ⊥)
  pub seventeen : (r.word / 4294967296 ≡ 17) ↔ (FitTotals t × (counted_in t ≡ most_sets))
  -- "The totals are unchanged then."
  pub stays : RefusedBy r.word → r.totals ≡ t
  -- "It answers 1 where the set is counted as accepted, 0 where as refused", and each word of the totals exactly
  pub taken : FitTotals t → counted_in t < most_sets → Fit s → Accepted s → (r.word ≡ 1) × Added s t r.totals
  pub turned : FitTotals t → counted_in t < most_sets → (Fit s → Accepted s → ⊥) → (r.word ≡ 0) × RefusedOnly t r.totals
