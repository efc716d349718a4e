-- The laws of the theory said of the plain tree: each goes over the bridge, holds there, and comes back.
use mathlib.Core.Path.{◌≡◌, refl, ◌∙◌, sym}
use mathlib.Core.Logic.{◌≢◌}
use mathlib.Core.List.{List, [], ◌∷◌, ◌++◌, append_assoc}
use Prim.Native.Nat.{ℕ, ◌+◌, ◌<◌, ◌≤◌}
use native.Mathlib.Omega.{arith}
use native.Mathlib.Decide.{ℕ_discrete}
use lib.ListN.{length}
use Rattle.slots.specs.Words.{null, left, red, Side, leftward, rightward}
use Rattle.slots.specs.Pairs.{pair, pair_of}
use Rattle.slots.proofs.Laws.{cell-null}
use Rattle.redblack.specs.Links.{Links, painted}
use Rattle.tree_rules.specs.Tree.{Tree, leaf, node, slots, Rising, empty, rise, last}
use Rattle.redblack.specs.Sided
use Rattle.redblack.specs.Sided.{Way, plug, Site, Cap, frame}
use Rattle.redblack.specs.Balance.{OneFewer, void, atop}
use Rattle.redblack.specs.Insertion.{balanced_insertion}
use Rattle.redblack.specs.Hanging.{spot, spotted, inserted}
use Rattle.redblack.specs.Removal.{removed}
use Rattle.redblack.specs.Kept.{Agree}
use Rattle.redblack.specs.Holding.{Holds, RedBlackTree, Hung, Has, Stands, Fresh, on_null, on_left, on_right, depth}
use Rattle.redblack.proofs.Ends.{Part, Outcome, Beside, With, black_part, red_part}
use Rattle.redblack.proofs.Frames.{inward, turn}
use Rattle.redblack.proofs.Order.{slots_turn}
use Rattle.redblack.proofs.Parts.{part_in, part_turn}
use Rattle.redblack.proofs.Insertion.{insertion}
use Rattle.redblack.proofs.Hanging.{planting}
use Rattle.redblack.proofs.Whole.{leaving, leaving_spares, joining, joining_spares}
use Rattle.redblack.proofs.Outside.{planting_spares}
use Rattle.redblack.proofs.Kept.{place_aside, removed_keeps, inserted_keeps}
use Rattle.redblack.proofs.Bridge.{sided, plain_sided, sided_slots, sited, plain-sound, outcome_of_lem, plain-outcome}
use Rattle.redblack.proofs.Spotting.{spotted-empty, spotted_in, spotted_link}

-- The slots of an outcome written another way.
relist : {n : ℕ} {s : Links} {l k : List ℕ} → l ≡ k → Outcome n s l → Outcome n s k
relist e o = record { tree = o.tree; height = o.height; site = o.site; sound = o.sound; same = o.same ∙ e }

-- The way down to the place of x is read off where it hangs.
hung-outcome : {n x : ℕ} {C : Way} {t u : Tree} (m : ℕ) (s : Links) → Hung x t u → Part C (sided t) → Site n (painted s x red) C (sided u)
    → length C + depth u ≤ m → Outcome n (balanced_insertion m s x) (Sided.slots (plug C (sided u)))
unfolding sided depth plug
hung-outcome m s on_null (black_part w void) h l = insertion m s w h (omega arith)
hung-outcome m s on_null (red_part _ z) h l = elim z [ ]
hung-outcome {C = C} m s (on_left {c} {l = a} {m = b} {i} {r} k) o h l =
    hung-outcome {C = frame leftward c i (sided r) ∷ C} m s k (part_in o) (inward h) (omega arith)
hung-outcome {C = C} m s (on_right {c} {l = a} {i} {r} {m = b} k) o h l =
    relist (slots_turn leftward C c (sided a) i (sided b))
    (hung-outcome {C = frame rightward c i (sided a) ∷ C} m s k (part_in (part_turn rightward i o)) (inward (turn h)) (omega arith))

pub hung_balanced : {n x : ℕ} {t u : Tree} (m : ℕ) (s : Links) → RedBlackTree t → Hung x t u → Holds n (painted s x red) u → depth u ≤ m
    → (v : Tree) × Holds n (balanced_insertion m s x) v × RedBlackTree v × (slots v ≡ slots u)
unfolding plug
hung_balanced {t = t} {u} m s v k h l =
    let x = plain-sound (sided t) (rw (plain_sided t) v) in
    plain-outcome (relist (sided_slots u) (hung-outcome {C = []} m s k (black_part atop x.1) (sited u h) (omega arith)))

-- Null has no words: where the number of cells stays, it has none after.
spared : {n : ℕ} {s t : Links} {u : Tree} (j : ℕ) → Holds n s u → length t.cells ≡ length s.cells
    → (j ≢ null → Agree s t j) → Agree s t j
spared {s = s} {t} j h e f = go (ℕ_discrete j null)
  where
    go : Dec (j ≡ null) → Agree s t j
    go (no d) = f d
    go (yes z) =
        rw z (record {
          same = λ f l. cell-null t.cells f (omega (arith, h.long, h.small))
              ∙ sym (cell-null s.cells f (omega (arith, h.long, h.small)));
        })

-- A slot of the tree leaves it.
pub slot_removed : {n : ℕ} {t : Tree} (m : ℕ) (s : Links) (p : ℕ) → Holds n s t → RedBlackTree t → Stands p t → n ≤ m
    → (u : Tree) × Holds n (removed m s p) u × RedBlackTree u × OneFewer p (slots t) (slots u)
slot_removed {t = t} m s p h v c l =
    let w = leaving m p l (omega (arith)) (outcome_of_lem t h v) in
    let o = plain-outcome w.outcome in
    (o.0, o.1, o.2, record { before = w.less.before; after = w.less.after; whole = w.less.whole; rest = o.3 ∙ w.less.rest })

pub removed_spares : {n : ℕ} {t : Tree} (m : ℕ) (s : Links) (p j : ℕ) → Holds n s t → RedBlackTree t → Stands p t → Fresh j t
    → Agree s (removed m s p) j
removed_spares {t = t} m s p j h v c z =
    spared j h (removed_keeps place_aside m s p).long (λ d. leaving_spares m p j (omega (arith)) d (omega (arith)) (outcome_of_lem t h v))

-- A slot next to another is one slot more.
beside_less : {l k : List ℕ} {q x : ℕ} (σ : Side) → Beside σ q x l k → OneFewer x k l
beside_less {q = q} leftward b = record { before = b.before; after = q ∷ b.after; whole = b.now; rest = b.was }
beside_less {q = q} {x} rightward b =
    record {
      before = b.before ++ (q ∷ []);
      after = b.after;
      whole = b.now ∙ sym (append_assoc b.before (q ∷ []) (x ∷ b.after));
      rest = b.was ∙ sym (append_assoc b.before (q ∷ []) b.after);
    }

-- The tree with x in it, at its place.
abbrev Grown : ℕ → List ℕ → Links → Tree → ℕ → Type 0
Grown n names s t x = (u : Tree) × Holds n s u × RedBlackTree u × Rising names (slots u) × OneFewer x (slots u) (slots t)

capped : {n : ℕ} {s : Links} {t : Tree} → Holds n s t → Cap n s
capped h = record { long = h.long; small = h.small }

planted : {n : ℕ} (m : ℕ) (names : List ℕ) (s : Links) (x : ℕ) → Holds n s leaf → x < n → n ≤ m
    → Grown n names (inserted m s x (spot null left)) leaf x
unfolding slots
planted m names s x h wx l =
    let o = plain-outcome (planting m x left refl l wx (capped h)) in
    (o.0, o.1, o.2, rw o.3 (rise last empty), record { before = []; after = []; whole = o.3; rest = refl })

grown : {n : ℕ} {s : Links} {σ : Side} {q x : ℕ} (names : List ℕ) (t : Tree) → ((k : List ℕ) → Beside σ q x (slots t) k → Rising names k)
    → With n s σ q x (slots t) → Grown n names s t x
grown {σ = σ} names t f w =
    let o = plain-outcome w.outcome in
    let b = w.beside in
    (o.0, o.1, o.2, rw o.3 (f w.all b), rw o.3 (beside_less σ b))

pub slot_hung : {n : ℕ} (t : Tree) (m : ℕ) (names : List ℕ) (s : Links) (x hash key : ℕ) → Holds n s t → RedBlackTree t
    → Rising names (slots t) → (Has names t hash key → ⊥) → x < n → Fresh x t → pair_of names x ≡ pair hash key → n ≤ m
    → Grown n names (inserted m s x (spotted m names s hash key)) t x
slot_hung leaf m names s x hash key h v up none wx z e l = rw (spotted-empty m names hash key h) (planted m names s x h wx l)
slot_hung (node c a i b) m names s x hash key h v up none wx z e l =
    let t : Tree = node c a i b in
    let g = spotted_in m names hash key c a i b h up none l in
    rw g.is
    (grown names t (λ k. g.rises x k e)
    (joining m x g.slot g.side l wx (omega (arith)) (omega (arith, g.stands)) g.free (outcome_of_lem t h v)))

pub hung_spares : {n : ℕ} (t : Tree) (m : ℕ) (names : List ℕ) (s : Links) (x hash key j : ℕ) → Holds n s t → RedBlackTree t
    → Rising names (slots t) → (Has names t hash key → ⊥) → x < n → Fresh x t → n ≤ m → j ≢ x → Fresh j t
    → Agree s (inserted m s x (spotted m names s hash key)) j
hung_spares leaf m names s x hash key j h v up none wx z l d y =
    spared j h (inserted_keeps place_aside m s x (spotted m names s hash key) (spotted_link m names s hash key)).long
    (λ k. rw (spotted-empty m names hash key h) (planting_spares m x left j refl l wx (capped h) k d))
hung_spares (node c a i b) m names s x hash key j h v up none wx z l d y =
    let t : Tree = node c a i b in
    let g = spotted_in m names hash key c a i b h up none l in
    spared j h (inserted_keeps place_aside m s x (spotted m names s hash key) (spotted_link m names s hash key)).long
    (λ k. rw g.is
    (joining_spares m x g.slot j g.side wx (omega (arith)) (omega (arith, g.stands)) g.free k d (omega (arith))
    (outcome_of_lem t h v)))
