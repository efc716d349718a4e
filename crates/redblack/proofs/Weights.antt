-- The weight of a tree and what each of its slots is to have, at a place and in the whole. A slot that stands nowhere has 0,
-- so in a sum over the parts of a tree only the part where the slot stands is left.
use mathlib.Core.Path.{◌≡◌, refl, ap, ◌∙◌}
use mathlib.Core.Logic.{◌≢◌}
use mathlib.Core.List.{List, [], ◌∷◌}
use Prim.Native.Nat.{ℕ, ◌+◌, ◌<◌, ◌≤◌}
use native.Mathlib.Omega.{arith}
use lib.ListN.{length, get_or, set, get_or-eq_default}
use lib.Seq.{get_or-set_same, get_or-set_other}
use Rattle.slots.specs.Words.{null, Colour, Side, leftward, rightward}
use Rattle.slots.proofs.Laws.{pick_ne}
use Rattle.redblack.specs.Links.{Links, size_at}
use Rattle.slots.specs.Words.{sum}
use Rattle.tree_rules.specs.Tree.{slots}
use Rattle.tree_rules.proofs.Reaching.{length_node, rooted_most}
use Rattle.redblack.specs.Sided.{Sided, Way, top, plug, hit, count, count_way, Site, bare, fork, frame}
use Rattle.redblack.specs.Holding.{plain}
use Rattle.redblack.specs.Sizes.{weight, weight_way, size_by, size_along, Sized}
use Rattle.tree_rules.specs.Sizes.{only}
use Rattle.redblack.proofs.Frames.{hit_same, apart, whole}
use Rattle.redblack.proofs.Bridge.{site_holds}
use Rattle.tree_rules.proofs.Weighing.{only_same}

pub only_ne : {k i : ℕ} (v : ℕ) → k ≢ i → only k i v ≡ 0
unfolding only
only_ne v h = pick_ne v 0 h

pub only_miss : (k i v : ℕ) → hit k i ≡ 0 → only k i v ≡ 0
only_miss k i v e = only_ne v (apart e)

-- A slot that stands nowhere has nothing below it.
pub below_none : (k : ℕ) (t : Sided) → count k t ≡ 0 → size_by k t ≡ 0
unfolding size_by count
below_none k bare e = refl
below_none k (fork σ c a i b) e =
    omega (arith, only_miss k i (1 + weight a + weight b) (omega arith), below_none k a (omega arith), below_none k b (omega arith))

pub below_way_none : (k w : ℕ) (C : Way) → count_way k C ≡ 0 → size_along k w C ≡ 0
unfolding size_along count_way
below_way_none k w [] e = refl
below_way_none k w (frame σ c i b ∷ C) e =
    omega (
      arith,
      only_miss k i (1 + w + weight b) (omega arith),
      below_none k b (omega arith),
      below_way_none k (1 + w + weight b) C (omega arith),
    )

-- The whole by its parts.
pub weight-plug : (C : Way) (t : Sided) → weight (plug C t) ≡ weight_way C + weight t
unfolding plug weight weight_way
weight-plug [] t = omega arith
weight-plug (frame σ c i b ∷ C) t = omega (arith, weight-plug C (fork σ c t i b))

pub below-plug : (k : ℕ) (C : Way) (t : Sided) → size_by k (plug C t) ≡ size_along k (weight t) C + size_by k t
unfolding plug size_by size_along weight
below-plug k [] t = omega arith
below-plug k (frame σ c i b ∷ C) t = omega (arith, below-plug k C (fork σ c t i b))

-- The part in view counts in the whole only by its weight and by what it says of the slot.
pub below_swap : (k : ℕ) (C : Way) (t u : Sided) → weight t ≡ weight u → size_by k t ≡ size_by k u
    → size_by k (plug C t) ≡ size_by k (plug C u)
below_swap k C t u e f = omega (arith, below-plug k C t, below-plug k C u, ap (λ (w : ℕ). size_along k w C) e)

-- A tree weighs as much as it has slots, and it has no more than there are.
pub weight-plain : (t : Sided) → weight t ≡ length (slots (plain t))
unfolding weight plain slots
weight-plain bare = refl
weight-plain (fork leftward c a i b) = omega (arith, weight-plain a, weight-plain b, length_node c (plain a) i (plain b))
weight-plain (fork rightward c a i b) = omega (arith, weight-plain a, weight-plain b, length_node c (plain b) i (plain a))

pub weight_cap : {n : ℕ} {s : Links} (C : Way) {t : Sided} → Site n s C t → weight (plug C t) ≤ n
weight_cap {n} {s} C {t} h =
    omega (arith, weight-plain (plug C t), rooted_most n s.cells h.cap.small s.root (site_holds (plug C t) (whole C h)).rooted)

-- A sum that stays below 2^32 is the sum.
pub sum_is : (m n : ℕ) → m + n ≤ null → sum m n ≡ m + n
unfolding sum
sum_is m n l = omega arith

-- The sizes after a write.
pub size_same : {n : ℕ} (l : List ℕ) (i v : ℕ) → length l ≡ n → i < n → get_or (set l i v) i 0 ≡ v
size_same l i v e h = get_or-set_same l i v 0 (omega arith)

pub size_other : (l : List ℕ) (i v k : ℕ) → k ≢ i → get_or (set l i v) k 0 ≡ get_or l k 0
size_other l i v k d = get_or-set_other l i k v 0 d

-- The slot in view has the weight of the part in view, if it stands nowhere else.
pub below_view : (C : Way) (σ : Side) (c : Colour) (a : Sided) (i : ℕ) (b : Sided) → count_way i C + count i a + count i b ≡ 0
    → size_by i (plug C (fork σ c a i b)) ≡ 1 + weight a + weight b
unfolding size_by
below_view C σ c a i b o =
    omega (
      arith,
      below-plug i C (fork σ c a i b),
      only_same i (1 + weight a + weight b),
      below_none i a (omega arith),
      below_none i b (omega arith),
      below_way_none i (weight (fork σ c a i b)) C (omega arith),
    )

-- At a place of the tree: what is stored at the top of the part in view is its weight, also where it is bare.
pub size_top : {n : ℕ} {s : Links} (C : Way) (t : Sided) → Site n s C t → Sized n s (plug C t) → size_at s (top t) ≡ weight t
unfolding weight count
size_top {n} {s} C bare h z = get_or-eq_default s.sizes 0 (omega (arith, z.long, h.cap.small))
size_top C (fork σ c a i b) h z = z.same i ∙ below_view C σ c a i b (omega (arith, h.once i, hit_same i))
