-- What one turn of a search comes to, by its tests.
use Rattle.std.proofs.Common.{◌≡◌, ℕ, zero, suc, ◌<◌, ◌≤◌, ◌≢◌, List, eq-eqb, ne_eqb, le-leb}
use borrow.Author.Tests.{lt-leb}
use Rattle.slots.specs.Words.{null}
use Rattle.slots.specs.Answers.{nothing, refused}
use Rattle.tree_rules.specs.Find.{looked, ends, looked_then, slots_of, searched}

module _ (names cells : List ℕ) (hash key : ℕ) where
  pub at_null : (visits p : ℕ) → p ≡ null → searched names cells visits p hash key ≡ ends nothing
  unfolding searched
  at_null zero p e = simp (eq-eqb _ _ e)
  at_null (suc visits) p e = simp (eq-eqb _ _ e)

  pub out_of_range : (visits p : ℕ) → p ≢ null → slots_of names ≤ p → searched names cells visits p hash key ≡ ends (refused 9)
  unfolding searched
  out_of_range zero p n h = simp (ne_eqb _ _ n)
  out_of_range (suc visits) p n h = simp (ne_eqb _ _ n, le-leb _ _ h)

  pub visits_spent : (p : ℕ) → p ≢ null → searched names cells 0 p hash key ≡ ends (refused 9)
  unfolding searched
  visits_spent p n = simp (ne_eqb _ _ n)

  pub at_slot : (visits p : ℕ) → p ≢ null → p < slots_of names
      → searched names cells (suc visits) p hash key
      ≡ looked_then (looked names cells p hash key) p (λ q. searched names cells visits q hash key)
  unfolding searched
  at_slot visits p n h = simp (ne_eqb _ _ n, lt-leb _ _ h)
