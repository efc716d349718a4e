-- What the steps of an insertion come to, on plain values: each law takes the equations that the calls give, in the order of the code.
use mathlib.Core.Path.{◌≡◌, refl, sym, ◌∙◌}
use mathlib.Core.Logic.{◌≢◌, ◌⊎◌, inl, inr}
use mathlib.Core.List.{List}
use Prim.Native.Nat.{ℕ, zero, suc, ◌+◌, ◌-◌, ◌<◌, ◌≤◌}
use native.Mathlib.Numerals.{add-one, sub-one}
use native.Mathlib.Omega.{arith}
use lib.ListN.{length}
use lib.Dec.{eqb}
use borrow.Author.Tests.{eq-eqb, ne_eqb, le-leb}
use Rattle.slots.specs.Words.{null, pick, place, state, next, free, cell, write, rename, hash_part, key_part}
use Rattle.redblack.specs.Links.{Links, lent_links}
use Rattle.redblack.specs.Hanging.{inserted, spotted}
use Rattle.index_rules.specs.Live.{Live, lent_tree, root_of, first_of, count_of}
use Rattle.index_rules.specs.Insert.{free_from, follower_of, seated, headed, grown}
use Rattle.index.specs.Frees.{grown_if}
use Rattle.tree_rules.specs.Find.{slots_of}

free_step : (m : ℕ) → 0 < m → (cells : List ℕ) (k : ℕ)
    → free_from m cells k ≡ pick (eqb (cell cells k state) free) k (free_from (m - 1) cells (k + 1))
unfolding free_from
free_step zero h cells k = absurd (omega arith)
free_step (suc m) h cells k = rw (sub-one, add-one)

free_none : (m : ℕ) → m ≤ 0 → (cells : List ℕ) (k : ℕ) → free_from m cells k ≡ null
unfolding free_from
free_none zero h cells k = refl
free_none (suc m) h cells k = absurd (omega arith)

-- A turn of the search for a free slot: slot k is free, is not, there is none left.
module _ (cells : List ℕ) (n k : ℕ) {x : ℕ} (same : free_from (n - k) cells k ≡ x) where
  pub free_here : {s : ℕ} → k < n → s ≡ cell cells k state → s ≡ free → k ≡ x
  free_here l e f = sym (sym same ∙ rw (free_step (n - k) (omega arith), ← e, eq-eqb _ _ f))

  pub free_on : {s : ℕ} → k < n → s ≡ cell cells k state → s ≢ free → free_from (n - (k + 1)) cells (k + 1) ≡ x
  free_on l e f =
      let z : n - k - 1 ≡ n - (k + 1) = omega arith in
      let y : free_from (n - k) cells k ≡ free_from (n - (k + 1)) cells (k + 1) =
      rw (free_step (n - k) (omega arith), ← e, ne_eqb _ _ f, z) in
      sym y ∙ same

  pub free_end : n ≤ k → null ≡ x
  free_end l = sym (free_none (n - k) (omega arith) cells k) ∙ same

-- The slot joins, where the names are not too many and the count is not null.
module _ (t : Live) (x y hash key p : ℕ) where
  module _ (h : length t.names ≤ 8192) {count : ℕ} (e1 : count ≡ count_of t) where
    pub grow : {root q front : ℕ} {names c1 c2 head : List ℕ} {hung : Links}
        → count ≢ null
        → root ≡ root_of t → q ≡ follower_of t y → front ≡ pick (eqb y null) x (first_of t)
        → names ≡ rename (rename t.names x hash_part hash) x key_part key
        → c1 ≡ write t.cells x place p → c2 ≡ seated c1 x y q
        → hung
        ≡ inserted (slots_of t.names) (lent_links c2 root t.sizes) x
        (spotted (slots_of t.names) names (lent_links c2 root t.sizes) hash key)
        → head ≡ headed t.head hung.root front (count + 1)
        → lent_tree names hung.cells head hung.sizes ≡ grown_if t x y hash key p
    unfolding grown
    grow {root} {q} {front} {names} {c1} {c2} {head} {hung} n e2 e3 e4 e5 e6 e7 e8 e9 =
        let d : count_of t ≢ null = λ z. n (e1 ∙ z) in
        let z : lent_tree names hung.cells head hung.sizes ≡ grown t x y hash key p =
        rw (← e1, ← e2, ← e3, ← e4, ← e5, ← e6, ← e7, ← e8, ← e9) in
        rw (le-leb (length t.names) 8192 h, ne_eqb (count_of t) null d) z

-- What follows y, and the new first: two ways meet, by whether y is null.
module _ (t : Live) (x y : ℕ) {Y N : Type 0} {first q : ℕ} (e1 : first ≡ first_of t) (came : Y ⊎ N) where
  pub follower : {behind : ℕ} → behind ≡ cell t.cells y next → (Y → (y ≡ null) × (q ≡ first)) → (N → (y ≢ null) × (q ≡ behind))
      → q ≡ follower_of t y
  follower {behind} e2 f g = go came
    where
      go : Y ⊎ N → q ≡ follower_of t y
      go (inl w) = (f w).1 ∙ e1 ∙ rw (eq-eqb y null (f w).0)
      go (inr w) = (g w).1 ∙ e2 ∙ rw (ne_eqb y null (g w).0)

  pub top : (Y → (y ≡ null) × (q ≡ x)) → (N → (y ≢ null) × (q ≡ first)) → q ≡ pick (eqb y null) x (first_of t)
  top f g = go came
    where
      go : Y ⊎ N → q ≡ pick (eqb y null) x (first_of t)
      go (inl w) = (f w).1 ∙ rw (eq-eqb y null (f w).0)
      go (inr w) = (g w).1 ∙ e1 ∙ rw (ne_eqb y null (g w).0)
