-- Colours and names are no matter of sizes, and a rotation changes two: r has in p's place the weight that p had there,
-- and p is counted anew. All else keeps its subtree.
use mathlib.Core.Path.{◌≡◌, refl, ap, ◌∙◌, sym}
use mathlib.Core.Logic.{◌≢◌}
use mathlib.Core.List.{List, ◌∷◌}
use mathlib.Core.Bool.{Bool, true, false}
use Prim.Native.Nat.{ℕ, ◌+◌, ◌<◌}
use native.Mathlib.Omega.{arith}
use native.Mathlib.Decide.{ℕ_discrete}
use lib.ListN.{length, get_or, set, length-set}
use lib.Dec.{eqb}
use Rattle.slots.specs.Words.{null, pick, parent, Colour, Side, other, toward}
use Rattle.slots.proofs.Laws.{pick_ne}
use Rattle.redblack.specs.Links.{Links, read, stored, size_at}
use Rattle.slots.specs.Words.{sum}
use Rattle.redblack.specs.Sided.{Sided, Way, top, plug, hit, count, count_way, Site, fork, frame}
use Rattle.redblack.specs.Balance.{crown}
use Rattle.redblack.specs.Rotate.{hung, recounted, turned, rotated}
use Rattle.redblack.specs.Sizes.{weight, size_by, Sized}
use Rattle.tree_rules.specs.Sizes.{only}
use Rattle.redblack.proofs.Frames.{hit_same, apart, count-top, cell_of, this_of, that_of, inward, turn}
use Rattle.redblack.proofs.Rotation.{rotation}
use Rattle.redblack.proofs.Weights.{only_ne, below_swap, below_view, weight-plug, weight_cap, sum_is, size_same, size_other}
use Rattle.redblack.proofs.Weights.{size_top}

-- Another tree that says the same of every slot.
pub resaid : {n : ℕ} {s : Links} {t u : Sided} → ((k : ℕ) → size_by k t ≡ size_by k u) → Sized n s t → Sized n s u
resaid f z = record { long = z.long; same = λ k. z.same k ∙ f k }

-- The slot in view takes another colour, or another name.
pub sized_hue : {n : ℕ} {s : Links} (C : Way) (σ : Side) (c d : Colour) (a : Sided) (i : ℕ) (b : Sided)
    → Sized n s (plug C (fork σ c a i b)) → Sized n s (plug C (fork σ d a i b))
unfolding weight size_by
sized_hue C σ c d a i b z = resaid (λ k. below_swap k C (fork σ c a i b) (fork σ d a i b) refl refl) z

below_turn : (k : ℕ) (σ τ : Side) (c : Colour) (a : Sided) (i : ℕ) (b : Sided) → size_by k (fork σ c a i b) ≡ size_by k (fork τ c b i a)
unfolding size_by
below_turn k σ τ c a i b = omega (arith, ap (only k i) (weights a b))
  where
    weights : (a b : Sided) → 1 + weight a + weight b ≡ 1 + weight b + weight a
    weights a b = omega arith

pub sized_turn : {n : ℕ} {s : Links} (C : Way) (σ τ : Side) (c : Colour) (a : Sided) (i : ℕ) (b : Sided)
    → Sized n s (plug C (fork σ c a i b)) → Sized n s (plug C (fork τ c b i a))
unfolding weight
sized_turn C σ τ c a i b z = resaid (λ k. below_swap k C (fork σ c a i b) (fork τ c b i a) (omega arith) (below_turn k σ τ c a i b)) z

-- What is stored for the two children of the slot in view.
pub size_this : {n : ℕ} {s : Links} {σ : Side} {c : Colour} {i : ℕ} {b : Sided} (C : Way) (a : Sided) → Site n s C (fork σ c a i b)
    → Sized n s (plug C (fork σ c a i b)) → size_at s (top a) ≡ weight a
unfolding plug
size_this C a h z = size_top _ a (inward h) z

pub size_that : {n : ℕ} {s : Links} {σ : Side} {c : Colour} {a : Sided} {i : ℕ} (C : Way) (b : Sided) → Site n s C (fork σ c a i b)
    → Sized n s (plug C (fork σ c a i b)) → size_at s (top b) ≡ weight b
size_that {σ = σ} {c} {a} {i} C b h z = size_this C b (turn h) (sized_turn C σ (other σ) c a i b z)

-- The sizes of links that a test chooses.
pub sizes_pick : {l : List ℕ} (b : Bool) (s t : Links) → s.sizes ≡ l → t.sizes ≡ l → (pick b s t).sizes ≡ l
sizes_pick true s t e f = e
sizes_pick false s t e f = f

hung_sizes : (near far : ℕ) (s : Links) (pp p r : ℕ) → (hung near far s pp p r).sizes ≡ s.sizes
unfolding hung
hung_sizes near far s pp p r =
    sizes_pick (eqb pp null) _ _ refl (sizes_pick (eqb (read s pp near) p) (stored s pp near r) (stored s pp far r) refl refl)

-- What a rotation stores, by the children that p has in the links that it leaves.
turned_sizes : (near far : ℕ) (s : Links) (p r : ℕ)
    → (turned near far s p r).sizes ≡ recounted s.sizes p r (read (turned near far s p r) p near) (read (turned near far s p r) p far)
unfolding turned
turned_sizes near far s p r =
    let inner = read s r near in
    let s1 = stored (stored s p far inner) inner parent p in
    let pp = read s1 p parent in
    let s2 = hung near far (stored s1 r parent pp) pp p r in
    let w = stored (stored s2 r near p) p parent r in
    ap (λ (l : List ℕ). recounted l p r (read w p near) (read w p far)) (hung_sizes near far (stored s1 r parent pp) pp p r)

rotated_sizes : (near far : ℕ) (s : Links) (p r : ℕ) → p ≢ null → r ≢ null → read s p far ≡ r
    → (rotated near far s p).sizes ≡ recounted s.sizes p r (read (rotated near far s p) p near) (read (rotated near far s p) p far)
unfolding rotated
rotated_sizes near far s p r hp hr e =
    let i : rotated near far s p ≡ turned near far s p r = rw e (pick_ne _ _ hp ∙ pick_ne _ _ hr) in
    rw i (turned_sizes near far s p r)

-- What is stored for the inner subtree.
below_size : {n : ℕ} {s : Links} {σ : Side} (C : Way) (a b d : Sided) (p r : ℕ) (cp cr : Colour)
    → Site n s C (fork σ cp a p (fork σ cr b r d)) → Sized n s (plug C (fork σ cp a p (fork σ cr b r d))) → size_at s (top b) ≡ weight b
unfolding plug
below_size {σ = σ} C a b d p r cp cr h z =
    size_this (frame (other σ) cp p a ∷ C) b (inward (turn h)) (sized_turn C σ (other σ) cp a p (fork σ cr b r d) z)

-- What a rotation changes in what the slots are to have.
module _ (σ : Side) (C : Way) (cp cr cr' : Colour) (a b d : Sided) (p r : ℕ) where
  spun_down : count_way p C + hit p r + count p a + count p b + count p d ≡ 0
      → size_by p (plug C (fork σ cr' (fork σ cp a p b) r d)) ≡ 1 + weight a + weight b
  unfolding plug count_way
  spun_down o = below_view (frame σ cr' r d ∷ C) σ cp a p b (omega arith)

  spun_up : count_way r C + hit r p + count r a + count r b + count r d ≡ 0
      → size_by r (plug C (fork σ cr' (fork σ cp a p b) r d)) ≡ 2 + weight a + weight b + weight d
  unfolding weight count
  spun_up o = below_view C σ cr' (fork σ cp a p b) r d (omega arith) ∙ omega arith

  spun_else : (k : ℕ) → k ≢ p → k ≢ r
      → size_by k (plug C (fork σ cp a p (fork σ cr b r d))) ≡ size_by k (plug C (fork σ cr' (fork σ cp a p b) r d))
  unfolding weight size_by
  spun_else k kp kr =
      let was : Sided = fork σ cp a p (fork σ cr b r d) in
      let is : Sided = fork σ cr' (fork σ cp a p b) r d in
      let e : weight was ≡ weight is = omega arith in
      below_swap k C was is e
      (omega (
        arith,
        only_ne {i = p} (1 + weight a + (1 + weight b + weight d)) kp,
        only_ne {i = r} (1 + weight b + weight d) kr,
        only_ne {i = r} (1 + (1 + weight a + weight b) + weight d) kr,
        only_ne {i = p} (1 + weight a + weight b) kp,
      ))

-- By two slots and the rest.
pub by_two : (P : ℕ → Type 0) (p r : ℕ) → P p → P r → ((k : ℕ) → k ≢ p → k ≢ r → P k) → (k : ℕ) → P k
by_two P p r at_p at-r rest k = go (ℕ_discrete k p) (ℕ_discrete k r)
  where
    go : Dec (k ≡ p) → Dec (k ≡ r) → P k
    go (yes e) d = rw e at_p
    go (no c) (yes e) = rw e at-r
    go (no c) (no d) = rest k c d

-- A rotation keeps the sizes right.
pub sized_rotation : {n : ℕ} {s : Links} {σ : Side} (C : Way) (cp cr : Colour) (a b d : Sided) (p r : ℕ)
    → Site n s C (fork σ cp a p (fork σ cr b r d)) → Sized n s (plug C (fork σ cp a p (fork σ cr b r d)))
    → Sized n (rotated (toward σ) (toward (other σ)) s p) (plug C (fork σ (crown C cr) (fork σ cp a p b) r d))
unfolding count weight size_by recounted
sized_rotation {n} {s} {σ} C cp cr a b d p r h z =
    let kp = cell_of h.tree in
    let kr = cell_of (that_of h.tree) in
    let small = h.cap.small in
    let lp : p < null = omega (arith, kp.inside, small) in
    let lr : r < null = omega (arith, kr.inside, small) in
    let w = rotated (toward σ) (toward (other σ)) s p in
    let was : Sided = fork σ cp a p (fork σ cr b r d) in
    let is : Sided = fork σ (crown C cr) (fork σ cp a p b) r d in
    let v = cell_of (this_of (rotation h).tree) in
    let l : List ℕ = s.sizes in
    let m : List ℕ = set l r (get_or l p 0) in
    let ra : r ≢ top a = apart (omega (arith, h.once r, hit_same r, count-top r a lr)) in
    let rb : r ≢ top b = apart (omega (arith, h.once r, hit_same r, count-top r b lr)) in
    let pr : p ≢ r = apart (omega (arith, h.once p, hit_same p)) in
    let cap = weight_cap C h in
    let wt = weight-plug C was in
    let wa : get_or m (top a) 0 ≡ weight a = size_other l r (get_or l p 0) (top a) (λ e. ra (sym e)) ∙ size_this C a h z in
    let wb : get_or m (top b) 0 ≡ weight b = size_other l r (get_or l p 0) (top b) (λ e. rb (sym e)) ∙ below_size C a b d p r cp cr h z in
    let fresh : sum 1 (sum (get_or m (top a) 0) (get_or m (top b) 0)) ≡ 1 + weight a + weight b =
    rw (wa, wb, sum_is (weight a) (weight b) (omega arith), sum_is 1 (weight a + weight b) (omega arith)) (omega arith) in
    let e : w.sizes ≡ set m p (1 + weight a + weight b) =
    rotated_sizes (toward σ) (toward (other σ)) s p r (omega arith) (omega arith) kp.that ∙ rw (v.this, v.that, fresh) refl in
    let rp : r ≢ p = λ e. pr (sym e) in
    let lm : length m ≡ n = simp length-set z.long in
    let at_p : get_or (set m p (1 + weight a + weight b)) p 0 ≡ size_by p (plug C is) =
    size_same m p (1 + weight a + weight b) lm kp.inside
    ∙ sym (spun_down σ C cp cr (crown C cr) a b d p r (omega (arith, h.once p, hit_same p))) in
    let old : get_or l p 0 ≡ 2 + weight a + weight b + weight d = size_top C was h z ∙ omega arith in
    let at-r : get_or (set m p (1 + weight a + weight b)) r 0 ≡ size_by r (plug C is) =
    size_other m p (1 + weight a + weight b) r rp ∙ size_same l r (get_or l p 0) z.long kr.inside ∙ old
    ∙ sym (spun_up σ C cp cr (crown C cr) a b d p r (omega (arith, h.once r, hit_same r))) in
    let apart_from : (k : ℕ) → k ≢ p → k ≢ r → get_or (set m p (1 + weight a + weight b)) k 0 ≡ size_by k (plug C is) =
    λ k kp kr. size_other m p (1 + weight a + weight b) k kp ∙ size_other l r (get_or l p 0) k kr ∙ z.same k
    ∙ spun_else σ C cp cr (crown C cr) a b d p r k kp kr in
    record {
      long = ap length e ∙ simp length-set z.long;
      same = λ k. ap (λ (x : List ℕ). get_or x k 0) e
          ∙ by_two (λ (k : ℕ). get_or (set m p (1 + weight a + weight b)) k 0 ≡ size_by k (plug C is)) p r at_p at-r apart_from k;
    }
