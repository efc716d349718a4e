-- What the test of fitness decides: 1, or the answer of what is asked on fit words.
use mathlib.Core.Path.{◌≡◌, ap, sym, ◌∙◌}
use mathlib.Core.Bool.{Bool, true, false}
use Prim.Native.Nat.{ℕ, ◌≤◌}
use native.Mathlib.Omega.{arith}
use Rattle.slots.specs.Answers.{refused}
use Rattle.tree_rules.specs.Find.{Counted, with_looks, counted, found}
use Rattle.tree_rules.proofs.Claims.{claims}
use Rattle.index_rules.specs.Live.{Unsized, root_word, fits_unsized}
use Rattle.index_rules.specs.Find.{finds}
use Rattle.index_rules.proofs.Fit.{fits-unsized}

module _ (t : Unsized) {r : Bool} (e : r ≡ fits_unsized t) where
  pub find_unfit : (hash key : ℕ) → r ≡ false → with_looks 0 (refused 1) ≡ counted (finds t hash key)
  unfolding finds
  find_unfit hash key f = rw (← e, f)

  pub find_fit : (hash key : ℕ) → r ≡ true → {root : ℕ} {a : Counted} → root ≡ root_word t.head
      → a ≡ counted (found t.names t.cells root hash key) → a ≡ counted (finds t hash key)
  unfolding finds
  find_fit hash key f h i = rw (← e, f, ← h) i

-- A search in fit words looks at no more slots than a word counts.
pub looks_word : (t : Unsized) {r : Bool} → r ≡ fits_unsized t → r ≡ true → (root hash key : ℕ) {a : Counted}
    → a ≡ counted (found t.names t.cells root hash key) → a.looks ≤ 4096
looks_word t e f root hash key i =
    let fit = fits-unsized t (sym e ∙ f) in
    omega (arith, ap (λ (c : Counted). c.looks) i, (claims.finds t.names t.cells root hash key).looks.most, fit.most, fit.two)
