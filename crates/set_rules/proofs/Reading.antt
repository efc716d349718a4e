-- What one turn of a list read by next comes to, by its tests.
use mathlib.Core.Path.{◌≡◌}
use mathlib.Core.Logic.{◌≢◌}
use mathlib.Core.List.{List}
use Prim.Native.Nat.{ℕ, zero, suc, ◌<◌, ◌≤◌}
use borrow.Author.Tests.{eq-eqb, ne_eqb, le-leb, lt-leb}
use Rattle.slots.specs.Words.{null}
use Rattle.slots.specs.Answers.{nothing, refused}
use Rattle.tree_rules.specs.Find.{ends, looked_then, slots_of}
use Rattle.set_rules.specs.Lookup.{list_look, sought_in_list}

module _ (names cells : List ℕ) (hash key : ℕ) where
  pub at_null : (visits p : ℕ) → p ≡ null → sought_in_list names cells visits p hash key ≡ ends nothing
  unfolding sought_in_list
  at_null zero p e = simp (eq-eqb _ _ e)
  at_null (suc visits) p e = simp (eq-eqb _ _ e)

  pub out_of_range : (visits p : ℕ) → p ≢ null → slots_of names ≤ p → sought_in_list names cells visits p hash key ≡ ends (refused 9)
  unfolding sought_in_list
  out_of_range zero p n h = simp (ne_eqb _ _ n)
  out_of_range (suc visits) p n h = simp (ne_eqb _ _ n, le-leb _ _ h)

  pub visits_spent : (p : ℕ) → p ≢ null → sought_in_list names cells 0 p hash key ≡ ends (refused 9)
  unfolding sought_in_list
  visits_spent p n = simp (ne_eqb _ _ n)

  pub at_slot : (visits p : ℕ) → p ≢ null → p < slots_of names
      → sought_in_list names cells (suc visits) p hash key
      ≡ looked_then (list_look names cells p hash key) p (λ q. sought_in_list names cells visits q hash key)
  unfolding sought_in_list
  at_slot visits p n h = simp (ne_eqb _ _ n, lt-leb _ _ h)
