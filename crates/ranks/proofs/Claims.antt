-- Every claim of the crate holds: an answer is read back off its number and value, and a call's answer is the model's.
use Rattle.std.proofs.Common.{◌≡◌, ℕ, eqb, sym, refl, ◌∙◌}
use Rattle.std.specs.Prelude.{Result, Ok, Err}
use Rattle.slots.specs.Words.{pick}
use Rattle.slots.specs.Answers.{Value, some, none}
use Rattle.slots.proofs.Claims.{answer_one_to_one}
use Rattle.slots.proofs.Laws.{told_apart}
use Rattle.ranks.specs.Calls.{kth_of, position_of}
use Rattle.ranks.specs.Claims.{Claims}
use Rattle.ranks.specs.declared.kth.KthRefusal.{KthRefusal}
use Rattle.ranks.specs.declared.kth.KthRefusal.TheVariants.{Unfit, Damaged, OutOfRange}
use Rattle.ranks.specs.declared.position.PositionRefusal.{PositionRefusal}
use Rattle.ranks.specs.declared.position.PositionRefusal.TheVariants.{Unfit as PositionUnfit}
use Rattle.ranks.specs.declared.position.PositionRefusal.TheVariants.{Damaged as PositionDamaged, Absent}

abbrev kth_back : ℕ → Value → Result ℕ KthRefusal
kth_back number (some slot) = Ok slot
kth_back number none = Err (pick (eqb number 1) Unfit (pick (eqb number 2) Damaged OutOfRange))

kth_back_lem : (r : Result ℕ KthRefusal) → kth_back (kth_of r).number (kth_of r).value ≡ r
kth_back_lem (Ok slot) = refl
kth_back_lem (Err Unfit) = refl
kth_back_lem (Err Damaged) = refl
kth_back_lem (Err OutOfRange) = refl

kth_one_to_one : (a b : Result ℕ KthRefusal) → kth_of a ≡ kth_of b → a ≡ b
kth_one_to_one = told_apart kth_of (λ a. kth_back a.number a.value) kth_back_lem

abbrev position_back : ℕ → Value → Result ℕ PositionRefusal
position_back number (some k) = Ok k
position_back number none = Err (pick (eqb number 1) PositionUnfit (pick (eqb number 2) PositionDamaged Absent))

position_back_lem : (r : Result ℕ PositionRefusal) → position_back (position_of r).number (position_of r).value ≡ r
position_back_lem (Ok k) = refl
position_back_lem (Err PositionUnfit) = refl
position_back_lem (Err PositionDamaged) = refl
position_back_lem (Err Absent) = refl

position_one_to_one : (a b : Result ℕ PositionRefusal) → position_of a ≡ position_of b → a ≡ b
position_one_to_one = told_apart position_of (λ a. position_back a.number a.value) position_back_lem

pub claims : Claims
claims =
    record {
      kth_one_to_one = kth_one_to_one;
      kth_one = λ t k a b e f. kth_one_to_one a b (e ∙ sym f);
      position_one_to_one = position_one_to_one;
      position_one = λ t hash key a b e f. position_one_to_one a b (e ∙ sym f);
      answer_one = λ _ a b e f. answer_one_to_one a b (e ∙ sym f);
    }
