-- The laws of the sizes said of the plain tree: the links hold one tree, so each law may look at it from where it likes.
use mathlib.Core.Path.{◌≡◌, refl, ap}
use mathlib.Core.List.{List, []}
use Prim.Native.Nat.{ℕ, ◌<◌, ◌≤◌}
use native.Mathlib.Omega.{arith}
use Rattle.slots.specs.Words.{left, Side, other, toward, red, leftward}
use Rattle.redblack.specs.Links.{Links, painted}
use Rattle.tree_rules.specs.Tree.{Tree, leaf, node, slots, times, Rising}
use Rattle.redblack.specs.Sided.{Sided, Way, plug, count, count_way, Site, fork}
use Rattle.redblack.specs.Rotate.{rotated}
use Rattle.redblack.specs.Insertion.{balanced_insertion}
use Rattle.redblack.specs.Deletion.{balanced_deletion}
use Rattle.redblack.specs.Hanging.{spotted, inserted}
use Rattle.redblack.specs.Removal.{removed}
use Rattle.redblack.specs.Holding.{Holds, RedBlackTree, Has, Stands, Fresh, plain}
use Rattle.redblack.specs.Sizes.{Sized, SizedTree}
use Rattle.redblack.proofs.Frames.{count-plug, inward, whole}
use Rattle.redblack.proofs.Whole.{reached, counted, open_at}
use Rattle.redblack.proofs.Bridge.{sided, plain_sided, plain-count, sited, outcome_of_lem}
use Rattle.redblack.proofs.Spotting.{spotted-empty, spotted_in}
use Rattle.redblack.proofs.Steady.{Steady, slot, steady_rotated, steady_insertion_turns, steady_deletion}
use Rattle.redblack.proofs.Rounds.{sides}
use Rattle.redblack.proofs.Stored.{sized_plain, plain_sized, sized_any}
use Rattle.redblack.proofs.Joining.{inserting_sized, planting_sized}
use Rattle.redblack.proofs.Leaving.{removal_sized}

-- From the plain tree to any place of it, and back.
there : {n : ℕ} {s : Links} (t : Tree) (C : Way) (u : Sided) → Holds n s t → SizedTree n s t → Site n s C u → Sized n s (plug C u)
there t C u h z k = sized_any (sided t) (plug C u) (sited t h) (whole C k) (plain_sized (sided t) (rw (plain_sided t) z))

back : {n : ℕ} {s : Links} (u : Tree) → Holds n s u → ((v : Sided) → Site n s [] v → Sized n s v) → SizedTree n s u
back u h f = rw (plain_sided u) at (sized_plain (f (sided u) (sited u h)))

-- A step that keeps a tree and its sizes.
stepped : {n : ℕ} {o : Sided} {s : Links} (u : Tree) → Steady n o s → Holds n s u → SizedTree n s u
stepped u w h = back u h (λ v k. sized_any w.tree v w.site k w.sized)

begun : {n : ℕ} {s : Links} (t : Tree) → Holds n s t → SizedTree n s t → Steady n (sided t) s
begun t h z = record { tree = sided t; site = sited t h; sized = plain_sized (sided t) (rw (plain_sided t) z); same = λ k. refl }

stands : (p : ℕ) (t : Tree) → Stands p t → 1 ≤ count p (sided t)
stands p t c =
    let e : times p (slots (plain (sided t))) ≡ times p (slots t) = ap (λ (u : Tree). times p (slots u)) (plain_sided t) in
    omega (arith, plain-count p (sided t))

pub rotation_tree : {n : ℕ} {s : Links} (t : Tree) (σ : Side) (p : ℕ) → Holds n s t → SizedTree n s t → Stands p t → (u : Tree)
    → Holds n (rotated (toward σ) (toward (other σ)) s p) u → SizedTree n (rotated (toward σ) (toward (other σ)) s p) u
rotation_tree t σ p h z c u k = stepped u (steady_rotated p (sides σ) (slot (stands p t c)) (begun t h z)) k

pub insertion_tree : {n : ℕ} {s : Links} (t : Tree) (m x : ℕ) → Holds n (painted s x red) t → SizedTree n s t → Stands x t → (u : Tree)
    → Holds n (balanced_insertion m s x) u → SizedTree n (balanced_insertion m s x) u
unfolding balanced_insertion
insertion_tree t m x h z c u k =
    stepped u (steady_insertion_turns m x (stands x t c) (begun t h (record { long = z.long; same = z.same }))) k

pub deletion_tree : {n : ℕ} {s : Links} (t : Tree) (m x : ℕ) → Holds n s t → SizedTree n s t → Stands x t → (u : Tree)
    → Holds n (balanced_deletion m s x) u → SizedTree n (balanced_deletion m s x) u
deletion_tree t m x h z c u k = stepped u (steady_deletion m x (slot (stands x t c)) (begun t h z)) k

pub removal_tree : {n : ℕ} {s : Links} (t : Tree) (m p : ℕ) → Holds n s t → RedBlackTree t → SizedTree n s t → Stands p t → n ≤ m
    → (u : Tree) → Holds n (removed m s p) u → SizedTree n (removed m s p) u
removal_tree t m p h v z c l u k =
    let r = reached leftward p c (outcome_of_lem t h v) in
    back u k (removal_sized m l r.part r.site (there t r.path _ h z r.site))

pub hanging_tree : {n : ℕ} {s : Links} (t : Tree) (m : ℕ) (names : List ℕ) (x hash key : ℕ) → Holds n s t → RedBlackTree t → SizedTree n s t
    → Rising names (slots t) → (Has names t hash key → ⊥) → x < n → Fresh x t → n ≤ m
    → (u : Tree) → Holds n (inserted m s x (spotted m names s hash key)) u → SizedTree n (inserted m s x (spotted m names s hash key)) u
unfolding plug count count_way plain sided
hanging_tree leaf m names x hash key h v z up none wx f l u k =
    back u k
    (rw (spotted-empty m names hash key h)
    (planting_sized m x left refl l wx (record { long = h.long; small = h.small }) (plain_sized Sided.bare z)))
hanging_tree (node c a i b) m names x hash key h v z up none wx f l u k =
    let t : Tree = node c a i b in
    let g = spotted_in m names hash key c a i b h up none l in
    let r = open_at g.side g.slot g.stands g.free (outcome_of_lem t h v) in
    let y : Sided = fork g.side r.colour Sided.bare g.slot r.far in
    back u k
    (rw g.is
    (inserting_sized m x l wx (omega (arith, counted x (plug r.path y) r.same, count-plug x r.path y)) (inward r.site)
    (there t r.path y h z r.site)))
