-- What each way out of the loop over tables says of the answer, from the law of one turn; a list's loop goes by the laws of tree's.
use mathlib.Core.Path.{◌≡◌, ap, sym, ◌∙◌}
use mathlib.Core.Bool.{Bool, true, false}
use mathlib.Core.List.{List}
use Prim.Native.Nat.{ℕ, ◌+◌, ◌-◌, ◌*◌, ◌<◌, ◌≤◌}
use native.Mathlib.Numerals.{add-one}
use native.Mathlib.Nat.{add-zero}
use native.Mathlib.Omega.{arith}
use borrow.Author.Tests.{lt-ltb, le-ltb, le-leb, lt-leb}
use lib.ListN.{get_or}
use Rattle.slots.specs.Words.{null, next, cell}
use Rattle.slots.specs.Answers.{nothing, refused}
use Rattle.tree_rules.specs.Find.{here, on, Counted, with_looks, counted, slots_of, found}
use Rattle.set_rules.specs.Words.{Set, tables_of, fits, empty, moved, bad, list, tree}
use Rattle.set_rules.specs.Lookup.{has_pair, list_look, sought_in_list, home_bin, forwarded, lookups, lookups_fit}
use Rattle.set_rules.proofs.Fit.{fits_fit, slots_are}
use Rattle.set_rules.proofs.Forwarding.{turn, past_last}
use Rattle.set_rules.proofs.Claims.{claims}

-- What the test of a pair says of a look at a list's slot.
module _ (names cells : List ℕ) (p hash key : ℕ) {b : Bool} (e : b ≡ has_pair names p hash key) where
  pub read_here : b ≡ true → here ≡ list_look names cells p hash key
  read_here t = rw (← e, t)

  pub read_on_lem : b ≡ false → {q : ℕ} → q ≡ cell cells p next → on q ≡ list_look names cells p hash key
  read_on_lem t f = rw (← e, t, f)

-- The loop over tables: what is known at table k, and the ways out.
module _ (s : Set) (hash key k : ℕ) {r : Counted} (i : counted (forwarded (tables_of s - k) s k hash key) ≡ r) (l : k < tables_of s) where
  pub at-empty : empty ≡ home_bin s k hash → with_looks 0 nothing ≡ r
  at-empty e = ap counted (sym (turn s hash key k l e)) ∙ i

  pub at_bad : bad ≡ home_bin s k hash → with_looks 0 (refused 9) ≡ r
  at_bad e = ap counted (sym (turn s hash key k l e)) ∙ i

  pub at_list : {p : ℕ} → list p ≡ home_bin s k hash → {a : Counted}
      → a ≡ counted (sought_in_list s.names s.cells (slots_of s.names) p hash key) → a ≡ r
  at_list e h = h ∙ ap counted (sym (turn s hash key k l e)) ∙ i

  pub at_tree : {h root : ℕ} → tree h ≡ home_bin s k hash → root ≡ get_or s.heads (3 * h + 0) null → {a : Counted}
      → a ≡ counted (found s.names s.cells root hash key) → a ≡ r
  at_tree {h} e f g = g ∙ (rw (f, add-zero (3 * h)) (ap counted (sym (turn s hash key k l e)) ∙ i))

  pub at_moved : moved ≡ home_bin s k hash → counted (forwarded (tables_of s - (k + 1)) s (k + 1) hash key) ≡ r
  at_moved e = rw add-one (ap counted (sym (turn s hash key k l e)) ∙ i)

-- .. and after the last table.
pub at_end : (s : Set) (hash key k : ℕ) {r : Counted} → counted (forwarded (tables_of s - k) s k hash key) ≡ r → tables_of s ≤ k
    → with_looks 0 (refused 9) ≡ r
at_end s hash key k i h = ap counted (sym (past_last s hash key k h)) ∙ i

-- The gate of the loop alone.
module _ (s : Set) (t hash key : ℕ) where
  pub many_tables : 8 < tables_of s → with_looks 0 (refused 9) ≡ counted (lookups_fit s t hash key)
  unfolding lookups_fit
  many_tables l = simp (lt-leb (tables_of s) 8 l)

  pub no_table : tables_of s ≤ 8 → tables_of s ≤ t → with_looks 0 (refused 9) ≡ counted (lookups_fit s t hash key)
  unfolding lookups_fit
  no_table l m = simp (le-leb (tables_of s) 8 l, past_last s hash key t m)

  pub looped : tables_of s ≤ 8 → {a : Counted} → a ≡ counted (forwarded (tables_of s - t) s t hash key)
      → a ≡ counted (lookups_fit s t hash key)
  unfolding lookups_fit
  looped l i = rw (le-leb (tables_of s) 8 l) i

-- The gates of lookup.
module _ (s : Set) (t hash key : ℕ) {b : Bool} (e : b ≡ fits s) where
  pub unfit : b ≡ false → with_looks 0 (refused 1) ≡ counted (lookups s t hash key)
  unfolding lookups
  unfit f = simp (← e, f)

  pub unknown : b ≡ true → tables_of s ≤ t → with_looks 0 (refused 10) ≡ counted (lookups s t hash key)
  unfolding lookups
  unknown f h = simp (← e, f, le-ltb _ _ h)

  pub searched : b ≡ true → t < tables_of s → {a : Counted} → a ≡ counted (forwarded (tables_of s - t) s t hash key)
      → a ≡ counted (lookups s t hash key)
  unfolding lookups
  searched f h i = rw (← e, f, lt-ltb _ _ h) i

  -- Its looks are few enough for a word.
  pub looks_word : b ≡ true → {a : Counted} → a ≡ counted (lookups s t hash key) → a.looks ≤ 4096
  looks_word f i =
      let fit = fits_fit s (sym e ∙ f) in
      omega (arith, ap (λ (c : Counted). c.looks) i, (claims.walked.looking s t hash key).most, slots_are fit, fit.slots_most)
