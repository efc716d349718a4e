-- Every claim of `Judging` holds: an answer is read back off its value.
use mathlib.Core.Path.{◌≡◌, refl, sym, ◌∙◌}
use lib.Dec.{eqb}
use Rattle.std.specs.Prelude.{Bool, true, false, Result, Ok, Err}
use Rattle.slots.specs.Answers.{Value, some, none}
use Rattle.slots.specs.declared.answer.Unfit.{Unfit}
use Rattle.slots.proofs.Laws.{told_apart}
use Rattle.sets.specs.Verdicts.{accept_of}
use Rattle.sets.specs.Judging.{Judging}

abbrev accept_back : Value → Result Bool Unfit
accept_back (some value) = Ok (eqb value 1)
accept_back none = Err (record {})

accept_back_lem : (r : Result Bool Unfit) → accept_back (accept_of r).value ≡ r
accept_back_lem (Ok true) = refl
accept_back_lem (Ok false) = refl
accept_back_lem (Err unfit) = refl

one_to_one : (a b : Result Bool Unfit) → accept_of a ≡ accept_of b → a ≡ b
one_to_one = told_apart accept_of (λ a. accept_back a.value) accept_back_lem

pub judging : Judging
judging = record { acceptance_one_to_one = one_to_one; accept_one = λ s a b p q. one_to_one a b (p ∙ sym q) }
