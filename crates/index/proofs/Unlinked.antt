-- T1 and T8 of the slots are two tests of each: of its links, and of the rest. Where the rest, the tree and the chain pass, so do the
-- links, since the walk of the tree and the chain have followed them all.
use mathlib.Core.Path.{◌≡◌, refl, ◌∙◌}
use mathlib.Core.Logic.{◌≢◌}
use mathlib.Core.Bool.{Bool, true, false}
use mathlib.Core.List.{List}
use Prim.Native.Nat.{ℕ, zero, suc, ◌<◌}
use native.Mathlib.Decide.{ℕ_discrete}
use native.Mathlib.Omega.{arith}
use lib.Dec.{eqb, leb}
use borrow.Author.Tests.{eqb-true, eq-eqb}
use Rattle.slots.specs.Words.{pick, state, free, cell, ◌and◌}
use Rattle.tree_rules.specs.Check.{in_range, links_in}
use Rattle.tree_rules.specs.Chain.{tally}
use Rattle.tree_rules.specs.Find.{slots_of}
use Rattle.tree_rules.specs.Sizes.{size_word}
use Rattle.tree_rules.proofs.Walking.{links_in_lem}
use Rattle.index_rules.specs.Live.{Live, Fit, root_of, first_of, count_of}
use Rattle.index_rules.specs.Sound.{used, Cleared, is_cleared, slot_fine, slots_fine, free_fine, frees_fine, rule1, rule3, rule7}
use Rattle.index_rules.proofs.Fit.{both}
use Rattle.index_rules.proofs.Rules.{is-cleared, Settled, tree_of, chain_of_lem}
use Rattle.index_rules.proofs.Linked.{links_followed}
use Rattle.index.specs.Sound.{state_fine, states_fine, rule1_unlinked}
use Rattle.index.proofs.Slots.{and-true}

-- The links of the first k slots.
unfoldable pub all_links : ℕ → ℕ → List ℕ → Bool
all_links zero n cells = true
all_links (suc k) n cells = links_in n cells k and all_links k n cells

-- Two tests of a slot, and of those below it, in either order.
across : (a b c d : Bool) → (a and b) and (c and d) ≡ (a and c) and (b and d)
across false b c d = refl
across true false false d = refl
across true false true d = refl
across true true c d = refl

-- What T1 and T8 ask of one slot, with its links first and its state once.
apart : (links empty cleared unsized hued : Bool)
    → (links and pick empty cleared hued) and pick empty unsized true ≡ links and pick empty (cleared and unsized) hued
apart false empty cleared unsized hued = refl
apart true true cleared unsized hued = refl
apart true false cleared unsized hued = and-true hued

slot_parts : (n : ℕ) (t : Live) (i : ℕ) → slot_fine n t i and free_fine t i ≡ links_in n t.cells i and state_fine t i
unfolding slot_fine free_fine state_fine
slot_parts n t i =
    apart (links_in n t.cells i) (eqb (cell t.cells i state) free) (is_cleared t i) (eqb (size_word t.sizes i) 0)
    (leb (cell t.cells i state) 2)

parts : (n : ℕ) (t : Live) (k : ℕ) → slots_fine k n t and frees_fine k t ≡ all_links k n t.cells and states_fine k t
unfolding slots_fine frees_fine all_links states_fine
parts n t zero = refl
parts n t (suc k) =
    across (slot_fine n t k) (slots_fine k n t) (free_fine t k) (frees_fine k t)
    ∙ rw (slot_parts n t k, parts n t k) (across (links_in n t.cells k) (state_fine t k) (all_links k n t.cells) (states_fine k t))

-- What comes after the slots is asked of either half.
behind : (fine rest frees links states : Bool) → fine and frees ≡ links and states → (fine and rest) and frees ≡ links and (states and rest)
behind fine rest frees links states e = swap fine rest frees ∙ rw e (inward links states rest)
  where
    swap : (a b c : Bool) → (a and b) and c ≡ (a and c) and b
    swap false b c = refl
    swap true true true = refl
    swap true true false = refl
    swap true false true = refl
    swap true false false = refl

    inward : (a b c : Bool) → (a and b) and c ≡ a and (b and c)
    inward true b c = refl
    inward false b c = refl

module _ (t : Live) where
  abbrev n : ℕ
  n = slots_of t.names

  pub links_apart : rule1 t and frees_fine n t ≡ all_links n n t.cells and rule1_unlinked t
  unfolding rule1 rule1_unlinked
  links_apart =
      behind (slots_fine n n t) (in_range n (root_of t) and in_range n (first_of t) and eqb (count_of t) (tally n (used t.cells)))
      (frees_fine n t) (all_links n n t.cells) (states_fine n t) (parts n t n)

  cleared_of : (i : ℕ) → state_fine t i ≡ true → cell t.cells i state ≡ free → Cleared t i
  unfolding state_fine
  cleared_of i e z = is-cleared t i (both (is_cleared t i) _ (rw (eq-eqb (cell t.cells i state) free z) at e)).0

  all_cleared : (k : ℕ) → states_fine k t ≡ true → (i : ℕ) → i < k → cell t.cells i state ≡ free → Cleared t i
  unfolding states_fine
  all_cleared zero e i l z = absurd (omega arith)
  all_cleared (suc k) e i l z =
      let h = both (state_fine t k) _ e in go (ℕ_discrete i k) h.0 (λ d. all_cleared k h.1 i (omega arith) z)
    where
      go : Dec (i ≡ k) → state_fine t k ≡ true → (i ≢ k → Cleared t i) → Cleared t i
      go (yes y) f rest = cleared_of i (rw y f) z
      go (no y) f rest = rest y

  settles : rule1_unlinked t ≡ true → Settled t
  unfolding rule1_unlinked
  settles e =
      let h1 = both (states_fine n t) _ e in
      let h2 = both (in_range n (root_of t)) _ h1.1 in
      let h3 = both (in_range n (first_of t)) _ h2.1 in
      record { cleared = all_cleared n h1.0; count = eqb-true _ _ h3.1 }

  all_linked : (k : ℕ) → ((i : ℕ) → i < k → links_in n t.cells i ≡ true) → all_links k n t.cells ≡ true
  unfolding all_links
  all_linked zero h = refl
  all_linked (suc k) h = rw (h k (omega arith)) (all_linked k (λ i l. h i (omega arith)))

  pub followed : Fit t → rule1_unlinked t ≡ true → rule3 t ≡ true → rule7 t ≡ true → all_links n n t.cells ≡ true
  followed fit one three seven =
      let s = settles one in
      all_linked n (λ i l. links_in_lem n t.cells i (links_followed s (tree_of fit s three).1 (chain_of_lem fit s seven).1 i l))
