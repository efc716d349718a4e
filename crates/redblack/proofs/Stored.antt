-- Links hold one tree only, so the sizes that are right for one name of it are right for every other, and for the plain tree.
use mathlib.Core.Path.{◌≡◌, refl, ap, ◌∙◌, sym}
use mathlib.Core.List.{[]}
use Prim.Native.Nat.{ℕ, ◌+◌, ◌≤◌}
use native.Mathlib.Omega.{arith}
use lib.ListN.{length}
use Rattle.slots.specs.Words.{Colour, Side, leftward, rightward}
use Rattle.redblack.specs.Links.{Links}
use Rattle.tree_rules.specs.Tree.{node, slots}
use Rattle.tree_rules.proofs.Reaching.{length_node, rooted_unique}
use Rattle.redblack.specs.Sided.{Sided, Way, plug, count, Site, bare, fork}
use Rattle.redblack.specs.Holding.{plain}
use Rattle.redblack.specs.Insertion.{balanced_insertion}
use Rattle.redblack.specs.Deletion.{balanced_deletion}
use Rattle.redblack.specs.Sizes.{weight, size_by, Sized, SizedTree}
use Rattle.tree_rules.specs.Sizes.{only, size_in}
use Rattle.redblack.proofs.Frames.{hit_same, count-plug, whole}
use Rattle.redblack.proofs.Weights.{weight-plain}
use Rattle.redblack.proofs.Bridge.{site_holds}
use Rattle.redblack.proofs.Steady.{Steady, slot, steady_insertion, steady_deletion}

-- What the slots are to have, said of either.
below_plain : (k : ℕ) (t : Sided) → size_by k t ≡ size_in k (plain t)
unfolding size_by plain size_in
below_plain k bare = refl
below_plain k (fork leftward c a i b) =
    let e : 1 + weight a + weight b ≡ length (slots (node c (plain a) i (plain b))) =
    omega (arith, weight-plain a, weight-plain b, length_node c (plain a) i (plain b)) in
    omega (arith, ap (only k i) e, below_plain k a, below_plain k b)
below_plain k (fork rightward c a i b) =
    let e : 1 + weight a + weight b ≡ length (slots (node c (plain b) i (plain a))) =
    omega (arith, weight-plain a, weight-plain b, length_node c (plain b) i (plain a)) in
    omega (arith, ap (only k i) e, below_plain k a, below_plain k b)

pub sized_plain : {n : ℕ} {s : Links} {t : Sided} → Sized n s t → SizedTree n s (plain t)
sized_plain {t = t} z = record { long = z.long; same = λ k. z.same k ∙ below_plain k t }

pub plain_sized : {n : ℕ} {s : Links} (t : Sided) → SizedTree n s (plain t) → Sized n s t
plain_sized t z = record { long = z.long; same = λ k. z.same k ∙ sym (below_plain k t) }

-- One tree.
one_tree : {n : ℕ} {s : Links} (t u : Sided) → Site n s [] t → Site n s [] u → plain t ≡ plain u
one_tree {n} {s} t u h k = rooted_unique n s.cells h.cap.small s.root (site_holds t h).rooted (site_holds u k).rooted

pub sized_any : {n : ℕ} {s : Links} (t u : Sided) → Site n s [] t → Site n s [] u → Sized n s t → Sized n s u
sized_any {n} {s} t u h k z = plain_sized u (rw (one_tree t u h k) at (sized_plain z))

-- The balancings: whatever tree the links hold afterwards, the sizes are right for it.
module _ {n : ℕ} {s : Links} {σ : Side} {c : Colour} {a b : Sided} {x : ℕ} (C : Way) (h : Site n s C (fork σ c a x b))
    (z : Sized n s (plug C (fork σ c a x b))) where
  steady : Steady n (plug C (fork σ c a x b)) s
  steady = record { tree = plug C (fork σ c a x b); site = whole C h; sized = z; same = λ k. refl }

  stands : 1 ≤ count x (plug C (fork σ c a x b))
  unfolding count
  stands = omega (arith, count-plug x C (fork σ c a x b), hit_same x)

  pub insertion_sized : (m : ℕ) (u : Sided) → Site n (balanced_insertion m s x) [] u → Sized n (balanced_insertion m s x) u
  insertion_sized m u k = let w = steady_insertion m x stands steady in sized_any w.tree u w.site k w.sized

  pub deletion_sized : (m : ℕ) (u : Sided) → Site n (balanced_deletion m s x) [] u → Sized n (balanced_deletion m s x) u
  deletion_sized m u k = let w = steady_deletion m x (slot stands) steady in sized_any w.tree u w.site k w.sized
