-- How many slots are met, by the link at hand.
use mathlib.Core.Path.{◌≡◌}
use mathlib.Core.Logic.{◌≢◌}
use mathlib.Core.List.{List}
use Prim.Native.Nat.{ℕ, zero, suc, ◌<◌, ◌≤◌}
use borrow.Author.Tests.{lt-ltb, le-ltb, eq-eqb, ne_eqb}
use Rattle.slots.specs.Words.{null, next, cell}
use Rattle.slots.specs.Answers.{none, some}
use Rattle.script_rules.specs.Answers.{more, met}

pub met-null : (v n : ℕ) (cells : List ℕ) (i : ℕ) → i ≡ null → met v n cells i ≡ some 0
unfolding met
met-null zero n cells i e = simp (eq-eqb _ _ e)
met-null (suc v) n cells i e = simp (eq-eqb _ _ e)

pub met_outside : (v n : ℕ) (cells : List ℕ) (i : ℕ) → i ≢ null → n ≤ i → met v n cells i ≡ none
unfolding met
met_outside zero n cells i e h = simp (ne_eqb _ _ e)
met_outside (suc v) n cells i e h = simp (ne_eqb _ _ e, le-ltb _ _ h)

pub met_spent : (n : ℕ) (cells : List ℕ) (i : ℕ) → i ≢ null → met 0 n cells i ≡ none
unfolding met
met_spent n cells i e = simp (ne_eqb _ _ e)

pub met_on : (v n : ℕ) (cells : List ℕ) (i : ℕ) → i ≢ null → i < n → met (suc v) n cells i ≡ more (met v n cells (cell cells i next))
unfolding met
met_on v n cells i e h = simp (ne_eqb _ _ e, lt-ltb _ _ h)
