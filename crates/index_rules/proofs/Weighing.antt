-- The test of T8 holds exactly where the sizes are those of the tree: the walk asks the slots of the tree,
-- a slot that is none of it is free.
use mathlib.Core.Path.{◌≡◌, refl, sym, ◌∙◌}
use mathlib.Core.Logic.{◌≢◌, ◌↔◌}
use mathlib.Core.Bool.{true}
use Prim.Native.Nat.{ℕ, zero, suc, ◌<◌}
use native.Mathlib.Decide.{ℕ_discrete, dec_lt}
use native.Mathlib.Omega.{arith}
use lib.ListN.{get_or-eq_default}
use lib.Dec.{eqb}
use borrow.Author.Tests.{eqb-true, eq-eqb, ne_eqb}
use Rattle.slots.specs.Words.{pick, state, free, cell}
use Rattle.tree_rules.specs.Find.{slots_of}
use Rattle.tree_rules.specs.Tree.{Tree, slots, times}
use Rattle.tree_rules.specs.Sizes.{size_word}
use Rattle.tree_rules.specs.Rules.{all_sized}
use Rattle.tree_rules.specs.Claims.{Weighs}
use Rattle.tree_rules.proofs.Claims.{claims}
use Rattle.index_rules.specs.Live.{Live, Fit, root_of}
use Rattle.index_rules.specs.Sound.{used, T1, T3, T8, free_fine, frees_fine, rule8}
use Rattle.index_rules.proofs.Fit.{both, half}
use Rattle.index_rules.proofs.Rules.{and, small, ends}

-- Each of the first k slots has no size where it is free.
module _ (t : Live) where
  abbrev Sizeless : ℕ → Type 0
  Sizeless i = cell t.cells i state ≡ free → size_word t.sizes i ≡ 0

  fine-free : (i : ℕ) → free_fine t i ≡ true → Sizeless i
  unfolding free_fine
  fine-free i e f = eqb-true _ _ (rw (eq-eqb (cell t.cells i state) free f) at e)

  free-fine : (i : ℕ) → Sizeless i → free_fine t i ≡ true
  unfolding free_fine
  free-fine i h = go (ℕ_discrete (cell t.cells i state) free)
    where
      go : Dec (cell t.cells i state ≡ free) → pick (eqb (cell t.cells i state) free) (eqb (size_word t.sizes i) 0) true ≡ true
      go (yes e) = rw (eq-eqb (cell t.cells i state) free e) (eq-eqb _ _ (h e))
      go (no d) = rw (ne_eqb (cell t.cells i state) free d)

  fine_frees : (k : ℕ) → frees_fine k t ≡ true → (i : ℕ) → i < k → Sizeless i
  unfolding frees_fine
  fine_frees zero e i l = absurd (omega arith)
  fine_frees (suc k) e i l =
      let h = both (free_fine t k) _ e in go (ℕ_discrete i k) (fine-free k h.0) (λ d. fine_frees k h.1 i (omega arith))
    where
      go : Dec (i ≡ k) → Sizeless k → (i ≢ k → Sizeless i) → Sizeless i
      go (yes z) f rest = rw z f
      go (no z) f rest = rest z

  frees_fine_lem : (k : ℕ) → ((i : ℕ) → i < k → Sizeless i) → frees_fine k t ≡ true
  unfolding frees_fine
  frees_fine_lem zero h = refl
  frees_fine_lem (suc k) h = and (free-fine k (h k (omega arith))) (frees_fine_lem k (λ i l. h i (omega arith)))

module _ {t : Live} (fit : Fit t) (one : T1 t) {tree : Tree} (three : T3 t tree) where
  abbrev n : ℕ
  n = slots_of t.names

  weighs : Weighs t.names t.cells t.sizes (small fit) (ends fit) (fit.each ∙ sym (half fit)) (root_of t)
  weighs = claims.weighs t.names t.cells t.sizes (small fit) (ends fit) (fit.each ∙ sym (half fit)) (root_of t)

  -- A slot that is none of the tree is free, and a free one is none of the tree.
  off_tree : (i : ℕ) → i < n → times i (slots tree) ≡ 0 → cell t.cells i state ≡ free
  off_tree i l z = go (ℕ_discrete (cell t.cells i state) free)
    where
      go : Dec (cell t.cells i state ≡ free) → cell t.cells i state ≡ free
      go (yes e) = e
      go (no d) = let y : used t.cells i ≡ 1 = rw (ne_eqb (cell t.cells i state) free d) in absurd (omega (arith, three.all i l))

  pub free_off : (i : ℕ) → i < n → cell t.cells i state ≡ free → times i (slots tree) ≡ 0
  free_off i l e = sym (three.all i l) ∙ rw (eq-eqb (cell t.cells i state) free e)

  pub rule_eight : (rule8 t ≡ true) ↔ T8 t tree
  unfolding rule8
  rule_eight = (to, from)
    where
      to : rule8 t ≡ true → T8 t tree
      to e = (weighs.parts tree).1 ((weighs.eight three.rooted).0 h.0, λ k z. outside k z (dec_lt k n))
        where
          h : (all_sized n t.cells t.sizes (root_of t) ≡ true) × (frees_fine n t ≡ true)
          h = both (all_sized n t.cells t.sizes (root_of t)) _ e

          outside : (k : ℕ) → times k (slots tree) ≡ 0 → Dec (k < n) → size_word t.sizes k ≡ 0
          outside k z (yes l) = fine_frees t n h.1 k l (off_tree k l z)
          outside k z (no m) = get_or-eq_default t.sizes 0 (omega (arith, fit.each, half fit))

      from : T8 t tree → rule8 t ≡ true
      from z =
          let p = (weighs.parts tree).0 z in
          and ((weighs.eight three.rooted).1 p.0) (frees_fine_lem t n (λ i l e. p.1 i (free_off i l e)))
