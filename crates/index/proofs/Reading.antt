-- Every claim of `Reading` holds: an answer is read back off its number and value.
use mathlib.Core.Path.{◌≡◌, refl, sym, ◌∙◌}
use Rattle.std.specs.Prelude.{Bool, true, false, Option, None, Some, Result, Ok, Err}
use Prim.Native.Nat.{ℕ, ◌+◌, ◌-◌}
use native.Mathlib.Omega.{arith}
use lib.Dec.{eqb}
use Rattle.slots.specs.Words.{pick}
use Rattle.slots.specs.Answers.{Value, some, none}
use Rattle.slots.proofs.Laws.{told_apart}
use Rattle.slots.proofs.Claims.{answer_one_to_one}
use Rattle.tree.proofs.Claims.{counted_one_to_one}
use Rattle.index.specs.Reads.{found_of, checked_of, sound_of}
use Rattle.index.specs.Reading.{Reading}
use Rattle.tree.specs.declared.find.Found.{Found}
use Rattle.tree.specs.declared.find.Found.TheVariants.{At, Nothing, Lost}
use Rattle.tree.specs.declared.check.Fault.{Fault}
use Rattle.tree.specs.declared.check.Fault.TheVariants.{Fails, Lost as FaultLost}
use Rattle.slots.specs.declared.answer.Unfit.{Unfit}

abbrev found_back : ℕ → ℕ → Value → Result (Found ℕ) Unfit
found_back looks number (some slot) = Ok (At slot looks)
found_back looks number none = pick (eqb number 0) (Ok (Nothing looks)) (pick (eqb number 1) (Err (record {})) (Ok (Lost looks)))

found_back_lem : (r : Result (Found ℕ) Unfit) → found_back (found_of r).looks (found_of r).answer.number (found_of r).answer.value ≡ r
found_back_lem (Ok (At slot looks)) = refl
found_back_lem (Ok (Nothing looks)) = refl
found_back_lem (Err unfit) = refl
found_back_lem (Ok (Lost looks)) = refl

found_one_to_one : (a b : Result (Found ℕ) Unfit) → found_of a ≡ found_of b → a ≡ b
found_one_to_one = told_apart found_of (λ a. found_back a.looks a.answer.number a.answer.value) found_back_lem

abbrev checked_back : ℕ → Value → Result (Option Fault) Unfit
checked_back number (some slot) = Ok (Some (Fails (number - 100) slot))
checked_back number none = pick (eqb number 0) (Ok None) (pick (eqb number 1) (Err (record {})) (Ok (Some FaultLost)))

checked_back_lem : (r : Result (Option Fault) Unfit) → checked_back (checked_of r).number (checked_of r).value ≡ r
checked_back_lem (Ok None) = refl
checked_back_lem (Ok (Some (Fails test slot))) = let z : 100 + test - 100 ≡ test = omega arith in rw z
checked_back_lem (Err unfit) = refl
checked_back_lem (Ok (Some FaultLost)) = refl

checked_one_to_one : (a b : Result (Option Fault) Unfit) → checked_of a ≡ checked_of b → a ≡ b
checked_one_to_one = told_apart checked_of (λ a. checked_back a.number a.value) checked_back_lem

abbrev sound_back : Value → Result Bool Unfit
sound_back (some value) = Ok (eqb value 1)
sound_back none = Err (record {})

sound_back_lem : (r : Result Bool Unfit) → sound_back (sound_of r).value ≡ r
sound_back_lem (Ok true) = refl
sound_back_lem (Ok false) = refl
sound_back_lem (Err unfit) = refl

soundness_one_to_one : (a b : Result Bool Unfit) → sound_of a ≡ sound_of b → a ≡ b
soundness_one_to_one = told_apart sound_of (λ a. sound_back a.value) sound_back_lem

pub reading : Reading
reading =
    record {
      found_one_to_one = found_one_to_one;
      find_one = λ t hash key a b p q. found_one_to_one a b (p ∙ sym q);
      checked_one_to_one = checked_one_to_one;
      check_one = λ t a b p q. checked_one_to_one a b (p ∙ sym q);
      soundness_one_to_one = soundness_one_to_one;
      sound_one = λ t a b p q. soundness_one_to_one a b (p ∙ sym q);
      sound-index_one = λ ix a b p q. soundness_one_to_one a b (p ∙ sym q);
      fit_unsized_one = λ t a b p q. p ∙ sym q;
      fit_one = λ t a b p q. p ∙ sym q;
      counted_one = λ _ a b p q. counted_one_to_one a b (p ∙ sym q);
      answer_one = λ _ a b p q. answer_one_to_one a b (p ∙ sym q);
      slots-fine_one = λ t n a b p q. p ∙ sym q;
      used-slots_one = λ cells n a b p q. p ∙ sym q;
      is-cleared_one = λ t i a b p q. p ∙ sym q;
      null-if-none_one = λ link count a b p q. p ∙ sym q;
    }
