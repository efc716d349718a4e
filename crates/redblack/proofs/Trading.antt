-- The slot p and its successor t change places, and so do their sizes: each place keeps its weight,
-- and no other slot has another subtree size.
use mathlib.Core.Path.{◌≡◌, refl, ap, ◌∙◌, sym}
use mathlib.Core.Logic.{◌≢◌}
use mathlib.Core.List.{List, [], ◌∷◌, ◌++◌}
use Prim.Native.Nat.{ℕ, ◌+◌, ◌≤◌}
use native.Mathlib.Omega.{arith}
use lib.ListN.{length, get_or, set, length-set}
use lib.Dec.{eqb}
use Rattle.slots.specs.Words.{null, parent, left, right, Colour, rightward, leftward}
use Rattle.redblack.specs.Links.{Links, read, stored, rooted, painted, colour_of}
use Rattle.redblack.specs.Sided.{Sided, Way, plug, hit, count, count_way, Site, bare, fork, frame}
use Rattle.redblack.specs.Climbing.{swapped}
use Rattle.redblack.specs.Removal.{replaced, lowered, traded}
use Rattle.redblack.specs.Sizes.{weight, weight_way, size_by, size_along, Sized}
use Rattle.tree_rules.specs.Sizes.{only}
use Rattle.redblack.proofs.Frames.{hit_same, apart, cell_of, way_cell}
use Rattle.tree_rules.proofs.Weighing.{only_same}
use Rattle.redblack.proofs.Weights.{only_ne, below_none, below_way_none, below-plug, size_same, size_other}
use Rattle.redblack.proofs.Sizing.{sizes_pick, by_two}
use Rattle.redblack.proofs.Trade.{count_way_append, leads_on}

-- The links of a trade keep the sizes, which are exchanged at the end.
pub replaced_sizes : (s : Links) (q p x : ℕ) → (replaced s q p x).sizes ≡ s.sizes
unfolding replaced
replaced_sizes s q p x =
    sizes_pick (eqb q null) (rooted s x) _ refl (sizes_pick (eqb (read s q left) p) (stored s q left x) (stored s q right x) refl refl)

lowered_sizes : (s : Links) (p t pr tp : ℕ) → (lowered s p t pr tp).sizes ≡ s.sizes
unfolding lowered
lowered_sizes s p t pr tp =
    let a = stored s p parent tp in
    sizes_pick (eqb t pr) (stored (stored s p parent t) t right p) _ refl
    (sizes_pick (eqb (read a tp left) t) (stored a tp left p) (stored a tp right p) refl refl)

traded_sizes : (s : Links) (p t : ℕ) → (traded s p t).sizes ≡ swapped s.sizes p t
unfolding traded
traded_sizes s p t =
    let s1 = painted (painted s t (colour_of s p)) p (colour_of s t) in
    let tr = read s t right in
    let pl = read s p left in
    let pp = read s p parent in
    let s2 = lowered s1 p t (read s p right) (read s t parent) in
    let s3 = stored (stored (stored s2 p left null) p right tr) tr parent p in
    ap (λ (l : List ℕ). swapped l p t)
    (replaced_sizes (stored (stored (stored s3 t left pl) pl parent t) t parent pp) pp p t
    ∙ lowered_sizes s1 p t (read s p right) (read s t parent))

-- Along two ways, one above the other.
below_way_append : (k w : ℕ) (D E : Way) → size_along k w (D ++ E) ≡ size_along k w D + size_along k (w + weight_way D) E
unfolding size_along weight_way
below_way_append k w [] E = let e : w ≡ w + 0 = omega arith in omega (arith, ap (λ (v : ℕ). size_along k v E) e)
below_way_append k w (frame σ c i b ∷ D) E =
    omega (arith, below_way_append k (1 + w + weight b) D E, ap (λ (v : ℕ). size_along k v E) (weights w (weight b) (weight_way D)))
  where
    weights : (w b d : ℕ) → 1 + w + b + d ≡ w + (1 + b + d)
    weights w b d = omega arith

-- The weight of the upper place: pl on its left, and on its right the way D down to a slot over tr.
high : Way → Sided → Sided → ℕ
high D pl tr = 1 + (1 + 0 + weight tr + weight_way D) + weight pl

-- What the slot k is to have where i stands above and j below, each in its place.
module _ (k : ℕ) (C D : Way) (c d : Colour) (pl tr : Sided) where
  places : (i j : ℕ) → size_by k (plug (D ++ (frame rightward c i pl ∷ C)) (fork leftward d bare j tr))
      ≡ size_along k (1 + 0 + weight tr) D + (only k i (high D pl tr) + size_by k pl + size_along k (high D pl tr) C)
      + (only k j (1 + 0 + weight tr) + size_by k tr)
  unfolding high size_by size_along weight
  places i j =
      let u : Sided = fork leftward d bare j tr in
      let E : Way = frame rightward c i pl ∷ C in
      omega (arith, below-plug k (D ++ E) u, below_way_append k (1 + 0 + weight tr) D E)

  nowhere : count_way k D + count k pl + count_way k C + count k tr ≡ 0
      → size_along k (1 + 0 + weight tr) D + size_by k pl + size_along k (high D pl tr) C + size_by k tr ≡ 0
  nowhere o =
      omega (
        arith,
        below_way_none k (1 + 0 + weight tr) D (omega arith),
        below_none k pl (omega arith),
        below_way_none k (high D pl tr) C (omega arith),
        below_none k tr (omega arith),
      )

  above : (j : ℕ) → count_way k D + count k pl + count_way k C + count k tr ≡ 0 → k ≢ j
      → size_by k (plug (D ++ (frame rightward c k pl ∷ C)) (fork leftward d bare j tr)) ≡ high D pl tr
  above j o e = omega (arith, places k j, nowhere o, only_same k (high D pl tr), only_ne {i = j} (1 + 0 + weight tr) e)

  beneath : (i : ℕ) → count_way k D + count k pl + count_way k C + count k tr ≡ 0 → k ≢ i
      → size_by k (plug (D ++ (frame rightward c i pl ∷ C)) (fork leftward d bare k tr)) ≡ 1 + 0 + weight tr
  beneath i o e = omega (arith, places i k, nowhere o, only_same k (1 + 0 + weight tr), only_ne {i = i} (high D pl tr) e)

  beside : (i j : ℕ) → k ≢ i → k ≢ j
      → size_by k (plug (D ++ (frame rightward c i pl ∷ C)) (fork leftward d bare j tr))
      ≡ size_by k (plug (D ++ (frame rightward c j pl ∷ C)) (fork leftward d bare i tr))
  beside i j e f =
      omega (
        arith,
        places i j,
        places j i,
        only_ne {i = i} (high D pl tr) e,
        only_ne {i = j} (high D pl tr) f,
        only_ne {i = j} (1 + 0 + weight tr) f,
        only_ne {i = i} (1 + 0 + weight tr) e,
      )

-- The trade.
pub sized_trade : {n : ℕ} {s : Links} {ct : Colour} {tr : Sided} {t : ℕ} (cp : Colour) (p : ℕ) (pl : Sided) (C D : Way)
    → Site n s (D ++ (frame rightward cp p pl ∷ C)) (fork leftward ct bare t tr)
    → Sized n s (plug (D ++ (frame rightward cp p pl ∷ C)) (fork leftward ct bare t tr))
    → Sized n (traded s p t) (plug (D ++ (frame rightward cp t pl ∷ C)) (fork leftward ct bare p tr))
unfolding swapped count count_way
sized_trade {n} {s} {ct} {tr} {t} cp p pl C D h z =
    let kp = way_cell (leads_on D h.way) in
    let kt = cell_of h.tree in
    let l : List ℕ = s.sizes in
    let o : (k : ℕ) → count_way k D + (hit k p + count k pl + count_way k C) + (hit k t + count k tr) ≤ 1 =
    λ k. omega (arith, h.once k, count_way_append k D (frame rightward cp p pl ∷ C)) in
    let pt : p ≢ t = apart (omega (arith, o p, hit_same p)) in
    let tp : t ≢ p = λ e. pt (sym e) in
    let m : List ℕ = set l p (get_or l t 0) in
    let lm : length m ≡ n = simp length-set z.long in
    let was : (k : ℕ) → get_or l k 0 ≡ size_by k (plug (D ++ (frame rightward cp p pl ∷ C)) (fork leftward ct bare t tr)) = z.same in
    let is : ℕ → ℕ = λ k. size_by k (plug (D ++ (frame rightward cp t pl ∷ C)) (fork leftward ct bare p tr)) in
    let np : count_way p D + count p pl + count_way p C + count p tr ≡ 0 = omega (arith, o p, hit_same p) in
    let nt : count_way t D + count t pl + count_way t C + count t tr ≡ 0 = omega (arith, o t, hit_same t) in
    let at_p : get_or (swapped l p t) p 0 ≡ is p =
    size_other m t (get_or l p 0) p pt ∙ size_same l p (get_or l t 0) z.long kp.inside ∙ was t ∙ beneath t C D cp ct pl tr p nt tp
    ∙ sym (beneath p C D cp ct pl tr t np pt) in
    let at-t : get_or (swapped l p t) t 0 ≡ is t =
    size_same m t (get_or l p 0) lm kt.inside ∙ was p ∙ above p C D cp ct pl tr t np pt ∙ sym (above t C D cp ct pl tr p nt tp) in
    let rest : (k : ℕ) → k ≢ p → k ≢ t → get_or (swapped l p t) k 0 ≡ is k =
    λ k d e. size_other m t (get_or l p 0) k e ∙ size_other l p (get_or l t 0) k d ∙ was k ∙ beside k C D cp ct pl tr p t d e in
    record {
      long = ap length (traded_sizes s p t) ∙ simp length-set z.long;
      same = λ k. ap (λ (x : List ℕ). get_or x k 0) (traded_sizes s p t)
          ∙ by_two (λ (k : ℕ). get_or (swapped l p t) k 0 ≡ is k) p t at_p at-t rest k;
    }
