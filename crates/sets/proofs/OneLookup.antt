-- Every claim of `Looking` holds: an answer is read back off its number and value.
use mathlib.Core.Path.{◌≡◌, refl, sym, ◌∙◌}
use Prim.Native.Nat.{ℕ}
use lib.Dec.{eqb}
use Rattle.std.specs.Prelude.{Result, Ok, Err}
use Rattle.slots.specs.Words.{pick}
use Rattle.slots.specs.Answers.{Value, some, none}
use Rattle.slots.proofs.Laws.{told_apart}
use Rattle.tree.proofs.Claims.{counted_one_to_one, claims as tree-claims}
use Rattle.sets.specs.Lookups.{looked_of}
use Rattle.sets.specs.Looking.{Looking}
use Rattle.tree.specs.declared.find.Found.{Found}
use Rattle.tree.specs.declared.find.Found.TheVariants.{At, Nothing, Lost}
use Rattle.sets.specs.declared.lookup.NoTable.{NoTable}
use Rattle.sets.specs.declared.lookup.NoTable.TheVariants.{Unfit, Unknown}

abbrev looked_back : ℕ → ℕ → Value → Result (Found ℕ) NoTable
looked_back looks number (some slot) = Ok (At slot looks)
looked_back looks number none =
    pick (eqb number 0) (Ok (Nothing looks)) (pick (eqb number 1) (Err Unfit) (pick (eqb number 10) (Err Unknown) (Ok (Lost looks))))

looked_back_lem : (r : Result (Found ℕ) NoTable)
    → looked_back (looked_of r).looks (looked_of r).answer.number (looked_of r).answer.value ≡ r
looked_back_lem (Ok (At slot looks)) = refl
looked_back_lem (Ok (Nothing looks)) = refl
looked_back_lem (Err Unfit) = refl
looked_back_lem (Err Unknown) = refl
looked_back_lem (Ok (Lost looks)) = refl

looked_one_to_one : (a b : Result (Found ℕ) NoTable) → looked_of a ≡ looked_of b → a ≡ b
looked_one_to_one = told_apart looked_of (λ a. looked_back a.looks a.answer.number a.answer.value) looked_back_lem

pub looking : Looking
looking =
    record {
      looked_one_to_one = looked_one_to_one;
      counted_one = λ _ a b p q. counted_one_to_one a b (p ∙ sym q);
      lookup_fit_one = λ s t hash key a b p q. tree-claims.found_one_to_one a b (p ∙ sym q);
      lookup_one = λ s t hash key a b p q. looked_one_to_one a b (p ∙ sym q);
    }
