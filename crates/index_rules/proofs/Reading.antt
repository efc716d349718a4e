-- find and check answer 1 exactly where the words are not fit; on fit words they are the search and the walk,
-- whose answers are none of them 1.
use mathlib.Core.Path.{◌≡◌, refl, ap, sym, ◌∙◌}
use mathlib.Core.Logic.{◌↔◌}
use mathlib.Core.Bool.{Bool, true, false}
use mathlib.Core.List.{List}
use Prim.Native.Nat.{ℕ}
use native.Mathlib.Omega.{arith}
use Rattle.slots.specs.Words.{pick}
use Rattle.slots.specs.Answers.{Answer, refused}
use Rattle.slots.proofs.Laws.{number}
use Rattle.tree_rules.specs.Find.{Search, ends, found, slots_of}
use Rattle.tree_rules.specs.Check.{checked, walked, Walk, walk_answer, passed, failed, strayed}
use Rattle.tree_rules.specs.Claims.{Finds as Searches, Checks as Walkings}
use Rattle.tree_rules.proofs.Claims.{claims}
use Rattle.index_rules.specs.Live.{Live, Unsized, Fit, FitUnsized, root_word, fits, fits_unsized}
use Rattle.index_rules.specs.Index.{Index, FitIndex, fits_index}
use Rattle.index_rules.specs.Find.{finds}
use Rattle.index_rules.specs.Check.{checks}
use Rattle.index_rules.specs.Claims.{Finds, Checks}
use Rattle.index_rules.proofs.Fit.{fits_fit, fit_fits, fits-unsized, unsized-fits}
use Rattle.index_rules.proofs.Journal.{fits-index, index-fits}

-- An answer given on fit words only, with 1 on others; F says that they are fit, and f is the test of it.
pub record Gate (F : Type 0) : Type 0 where
  pub test : Bool
  pub opens : F → test ≡ true
  pub opened : test ≡ true → F

unfoldable pub tree_gate : (t : Live) → Gate (Fit t)
tree_gate t = record { test = fits t; opens = fit_fits t; opened = fits_fit t }

unfoldable pub unsized_gate : (t : Unsized) → Gate (FitUnsized t)
unsized_gate t = record { test = fits_unsized t; opens = unsized-fits t; opened = fits-unsized t }

unfoldable pub index_gate : (ix : Index) → Gate (FitIndex ix)
index_gate ix = record { test = fits_index ix; opens = index-fits ix; opened = fits-index ix }

module _ {F : Type 0} (g : Gate F) (inner : Answer) where
  abbrev pub gated : Answer
  gated = pick g.test inner (refused 1)

  pub on_fit : F → gated ≡ inner
  on_fit h = simp (g.opens h)

  pub off_fit : (F → ⊥) → gated ≡ refused 1
  off_fit n = go g.test refl
    where
      go : (b : Bool) → g.test ≡ b → pick g.test inner (refused 1) ≡ refused 1
      go true z = absurd (n (g.opened z))
      go false z = simp z

  pub one_only : (inner ≡ refused 1 → ⊥) → (gated ≡ refused 1) ↔ (F → ⊥)
  one_only n = (λ e h. n (sym (on_fit h) ∙ e), off_fit)

  pub others : {a : Answer} → (a ≡ refused 1 → ⊥) → {P : Type 0} → (inner ≡ a) ↔ P → (gated ≡ a) ↔ (F × P)
  others {a} n {P} h = (λ e. go g.test refl e, λ f. on_fit f.0 ∙ h.1 f.1)
    where
      go : (b : Bool) → g.test ≡ b → gated ≡ a → F × P
      go true z e = let f = g.opened z in (f, h.0 (sym (on_fit f) ∙ e))
      go false z e = absurd (n (sym e ∙ simp z))

module _ (t : Unsized) (hash key : ℕ) where
  at_root : Searches t.names t.cells (root_word t.head) hash key
  at_root = claims.finds t.names t.cells (root_word t.head) hash key

  pub find_fit : FitUnsized t → finds t hash key ≡ found t.names t.cells (root_word t.head) hash key
  unfolding finds
  find_fit h = simp (unsized-fits t h)

  pub find_unfit : (FitUnsized t → ⊥) → finds t hash key ≡ ends (refused 1)
  unfolding finds
  find_unfit n = go (fits_unsized t) refl
    where
      go : (b : Bool) → fits_unsized t ≡ b
          → pick (fits_unsized t) (found t.names t.cells (root_word t.head) hash key) (ends (refused 1)) ≡ ends (refused 1)
      go true z = absurd (n (fits-unsized t z))
      go false z = simp z

  find_gated : (finds t hash key).answer ≡ gated (unsized_gate t) (found t.names t.cells (root_word t.head) hash key).answer
  unfolding finds unsized_gate
  find_gated = go (fits_unsized t) (found t.names t.cells (root_word t.head) hash key)
    where
      go : (b : Bool) (s : Search) → (pick b s (ends (refused 1))).answer ≡ pick b s.answer (refused 1)
      go true s = refl
      go false s = refl

  pub find_claims : Finds t hash key
  unfolding unsized_gate
  find_claims =
      let a = (found t.names t.cells (root_word t.head) hash key).answer in
      record {
        one = rw find_gated (one_only (unsized_gate t) a (λ e. omega (arith, at_root.only_nine 1 (omega arith) e)));
        nine = rw find_gated (others (unsized_gate t) a (λ e. omega (arith, number e)) at_root.nine);
        at = λ slot. rw find_gated (others (unsized_gate t) a (λ e. omega (arith, number e)) (at_root.at slot));
        none = rw find_gated (others (unsized_gate t) a (λ e. omega (arith, number e)) at_root.none);
        unfit_looks = λ n. ap (λ (s : Search). s.looks) (find_unfit n);
        looks = λ h. rw (find_fit h) at_root.looks;
      }

-- The walk's answer is never 1.
walk_not_one : (o : Walk) → walk_answer o ≡ refused 1 → ⊥
walk_not_one (passed v) e = omega (arith, number e)
walk_not_one (failed u i) e = omega (arith, number e)
walk_not_one strayed e = omega (arith, number e)

check_not_one : (names cells : List ℕ) (root : ℕ) → checked names cells root ≡ refused 1 → ⊥
unfolding checked
check_not_one names cells root e = walk_not_one (walked (slots_of names) names cells root (slots_of names)) e

module _ (t : Unsized) where
  from_root : Walkings t.names t.cells (root_word t.head)
  from_root = claims.checks t.names t.cells (root_word t.head)

  pub check_claims : Checks t
  unfolding checks unsized_gate
  check_claims =
      let a = checked t.names t.cells (root_word t.head) in
      record {
        one = one_only (unsized_gate t) a (check_not_one t.names t.cells (root_word t.head));
        nine = others (unsized_gate t) a (λ e. omega (arith, number e)) from_root.nine;
        passes = others (unsized_gate t) a (λ e. omega (arith, number e)) from_root.passes;
        fails = λ test slot. others (unsized_gate t) a (λ e. omega (arith, number e)) (from_root.fails test slot);
      }
