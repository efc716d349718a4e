-- The way up adds to the slots of the way, once each, and to no other: what stands at its end weighs one more, or one less.
use mathlib.Core.Path.{◌≡◌, refl, ap, ◌∙◌, sym}
use mathlib.Core.Logic.{◌≢◌}
use mathlib.Core.List.{List}
use Prim.Native.Nat.{ℕ, suc, zero, ◌+◌, ◌<◌, ◌≤◌}
use native.Mathlib.Omega.{arith}
use native.Mathlib.Decide.{ℕ_discrete}
use lib.ListN.{length, get_or, set, length-set}
use Rattle.slots.specs.Words.{null, parent, Colour, Side}
use Rattle.redblack.specs.Links.{Links, read, resized}
use Rattle.slots.specs.Words.{sum}
use Rattle.redblack.specs.Sided.{Sided, Way, upper, plug, hit, count, count_way, Leads, Site, bare, fork, home, via}
use Rattle.redblack.specs.Climbing.{climbed, weighed_in, weighed_out, one_more, one_less}
use Rattle.redblack.specs.Sizes.{weight, weight_way, size_by, size_along, Sized, SizedAlong}
use Rattle.tree_rules.specs.Sizes.{only}
use Rattle.redblack.proofs.Reading.{solid}
use Rattle.redblack.proofs.Frames.{hit_same, cell_of}
use Rattle.tree_rules.proofs.Weighing.{only_same}
use Rattle.redblack.proofs.Weights.{only_ne, only_miss, below_none, below_way_none, below-plug, weight-plug, weight_cap, size_same}
use Rattle.redblack.proofs.Weights.{size_other}

-- What d makes of a weight: one more, or one less.
pub data Shift (d w v : ℕ) : Type 0 where
  up : d ≡ one_more → v ≡ w + 1 → Shift d w v
  down : d ≡ one_less → w ≡ v + 1 → Shift d w v

shift_sum : {d w v : ℕ} → Shift d w v → w ≤ null → v ≤ null → sum w d ≡ v
unfolding sum
shift_sum (up e f) l k = omega arith
shift_sum (down e f) l k = omega arith

shift_on : {d w v : ℕ} (b : ℕ) → Shift d w v → Shift d (1 + w + b) (1 + v + b)
shift_on b (up e f) = up e (omega arith)
shift_on b (down e f) = down e (omega arith)

pub climbed_end : (m : ℕ) (cells l : List ℕ) (d : ℕ) → climbed m cells l null d ≡ l
unfolding climbed
climbed_end zero cells l d = refl
climbed_end (suc m) cells l d = refl

-- By one slot and the rest.
pub by_one : (P : ℕ → Type 0) (i : ℕ) → P i → ((k : ℕ) → k ≢ i → P k) → (k : ℕ) → P k
by_one P i at_i rest k = go (ℕ_discrete k i)
  where
    go : Dec (k ≡ i) → P k
    go (yes e) = rw e at_i
    go (no d) = rest k d

-- Up the way C the sizes know a weight w at its end, and v when all is counted. e is what they have for the slots that are not of the way.
along : {n d : ℕ} {s : Links} {x : ℕ} {C : Way} (m w v : ℕ) (e : ℕ → ℕ) (l : List ℕ) → n ≤ null → Leads n s x C → length C ≤ m → Shift d w v
    → w + weight_way C ≤ null → v + weight_way C ≤ null → ((k : ℕ) → count_way k C ≤ 1) → ((k : ℕ) → 1 ≤ count_way k C → e k ≡ 0)
    → length l ≡ n → ((k : ℕ) → get_or l k 0 ≡ size_along k w C + e k)
    → (length (climbed m s.cells l (upper C) d) ≡ n) × ((k : ℕ) → get_or (climbed m s.cells l (upper C) d) k 0 ≡ size_along k v C + e k)
unfolding size_along count_way weight_way climbed
along {d = d} {s} m w v e l small (home h) lm sh lw lv o z long same = rw (climbed_end m s.cells l d) (long, same)
along zero w v e l small (via k y h) lm sh lw lv o z long same = absurd (omega arith)
along {n} {d = d} {s} (suc m) w v e l small (via {i = i} {b = b} {C = C} k y h) lm sh lw lv o z long same =
    let i1 = hit_same i in
    let oi = o i in
    let zi = z i (omega arith) in
    let nb = below_none i b (omega arith) in
    let n_c = below_way_none i (1 + w + weight b) C (omega arith) in
    let here : get_or l i 0 ≡ 1 + w + weight b = omega (arith, same i, only_same i (1 + w + weight b)) in
    let f : sum (get_or l i 0) d ≡ 1 + v + weight b =
    ap (λ (j : ℕ). sum j d) here ∙ shift_sum (shift_on (weight b) sh) (omega arith) (omega arith) in
    let t = set l i (sum (get_or l i 0) d) in
    let e' : ℕ → ℕ = λ k. only k i (1 + v + weight b) + size_by k b + e k in
    let at_i : get_or t i 0 ≡ size_along i (1 + w + weight b) C + e' i =
    omega (arith, size_same l i (sum (get_or l i 0) d) long k.inside, only_same i (1 + v + weight b)) in
    let off-i : (j : ℕ) → j ≢ i → get_or t j 0 ≡ size_along j (1 + w + weight b) C + e' j =
    λ j q. omega (
      arith,
      size_other l i (sum (get_or l i 0) d) j q,
      same j,
      only_ne {i = i} (1 + w + weight b) q,
      only_ne {i = i} (1 + v + weight b) q,
    ) in
    let r =
    along m (1 + w + weight b) (1 + v + weight b) e' t small h (omega arith) (shift_on (weight b) sh) (omega arith) (omega arith)
    (λ j. omega (arith, o j))
    (λ j u.
    omega (arith, o j, z j (omega arith), only_miss j i (1 + v + weight b) (omega (arith, o j)), below_none j b (omega (arith, o j))))
    (simp length-set long) (by_one (λ (j : ℕ). get_or t j 0 ≡ size_along j (1 + w + weight b) C + e' j) i at_i off-i) in
    rw (solid k.inside small, k.above) (r.0, λ j. r.1 j ∙ omega arith)

-- A place and the whole.
pub counts_of : {n : ℕ} {s : Links} (C : Way) (t : Sided) → Sized n s (plug C t) → SizedAlong n s C (weight t) t
counts_of C t z = record { long = z.long; same = λ k. z.same k ∙ below-plug k C t }

pub sized_at : {n : ℕ} {s : Links} (C : Way) (t : Sided) → SizedAlong n s C (weight t) t → Sized n s (plug C t)
sized_at C t z = record { long = z.long; same = λ k. z.same k ∙ sym (below-plug k C t) }

-- The way up from the end of C: t, which counted as w, counts as v.
pub climbed_way : {n x d : ℕ} {s : Links} {C : Way} {t : Sided} (m w v : ℕ) (l : List ℕ) → n ≤ null → Leads n s x C → length C ≤ m
    → Shift d w v → w + weight_way C ≤ null → v + weight_way C ≤ null → ((k : ℕ) → count_way k C + count k t ≤ 1)
    → SizedAlong n (resized s l) C w t → SizedAlong n (resized s (climbed m s.cells l (upper C) d)) C v t
climbed_way {t = t} m w v l small h lm sh lw lv o z =
    let r =
    along m w v (λ (k : ℕ). size_by k t) l small h lm sh lw lv (λ k. omega (arith, o k)) (λ k u. below_none k t (omega (arith, o k)))
    z.long z.same in
    record { long = r.0; same = r.1 }

-- A slot x that stands nowhere joins at the end of C, where nothing stood.
pub joined_counts : {n x y : ℕ} {s : Links} {C : Way} (σ : Side) (c : Colour) (m : ℕ) → n ≤ null → x < n → Leads n s y C
    → read s x parent ≡ upper C → length C ≤ m → ((k : ℕ) → count_way k C + hit k x ≤ 1) → 1 + weight_way C ≤ null
    → SizedAlong n s C 0 bare → SizedAlong n (weighed_in m s x) C 1 (fork σ c bare x bare)
unfolding weight size_by count
joined_counts {n} {x} {s = s} {C} σ c m small wx h e lm o lw z =
    let l : List ℕ = set s.sizes x 1 in
    let at_x : get_or l x 0 ≡ size_along x 0 C + size_by x (fork σ c bare x bare) =
    omega (arith, size_same s.sizes x 1 z.long wx, only_same x 1, below_way_none x 0 C (omega (arith, o x, hit_same x))) in
    let off : (k : ℕ) → k ≢ x → get_or l k 0 ≡ size_along k 0 C + size_by k (fork σ c bare x bare) =
    λ k d. omega (arith, size_other s.sizes x 1 k d, z.same k, only_ne {i = x} 1 d) in
    let w : SizedAlong n (resized s l) C 0 (fork σ c bare x bare) =
    record {
      long = simp length-set z.long;
      same = by_one (λ (k : ℕ). get_or l k 0 ≡ size_along k 0 C + size_by k (fork σ c bare x bare)) x at_x off;
    } in
    rw e (climbed_way m 0 1 l small h lm (up refl refl) (omega arith) lw (λ k. omega (arith, o k)) w)

-- The slot p over one child at most leaves the sizes: they are those of the tree with the child in its place.
pub parted_counts : {n p : ℕ} {s : Links} {ρ : Side} {d : Colour} {a : Sided} {C : Way} (m : ℕ) → length C ≤ m
    → Site n s C (fork ρ d a p bare) → Sized n s (plug C (fork ρ d a p bare)) → SizedAlong n (weighed_out m s p) C (weight a) a
unfolding weight size_by count
parted_counts {n} {p} {s} {ρ} {d} {a} {C} m lm h z =
    let k = cell_of h.tree in
    let w = counts_of C (fork ρ d a p bare) z in
    let l : List ℕ = set s.sizes p 0 in
    let lw : 1 + weight a + weight_way C ≤ null = omega (arith, weight_cap C h, weight-plug C (fork ρ d a p bare), h.cap.small) in
    let o = h.once p in
    let at_p : get_or l p 0 ≡ size_along p (1 + weight a + 0) C + size_by p a =
    omega (
      arith,
      size_same s.sizes p 0 z.long k.inside,
      hit_same p,
      below_way_none p (1 + weight a + 0) C (omega (arith, hit_same p)),
      below_none p a (omega (arith, hit_same p)),
    ) in
    let off : (j : ℕ) → j ≢ p → get_or l j 0 ≡ size_along j (1 + weight a + 0) C + size_by j a =
    λ j q. omega (arith, size_other s.sizes p 0 j q, w.same j, only_ne {i = p} (1 + weight a + 0) q) in
    let v : SizedAlong n (resized s l) C (1 + weight a + 0) a =
    record {
      long = simp length-set z.long;
      same = by_one (λ (j : ℕ). get_or l j 0 ≡ size_along j (1 + weight a + 0) C + size_by j a) p at_p off;
    } in
    rw k.above
    (climbed_way m (1 + weight a + 0) (weight a) l h.cap.small h.way lm (down refl (omega arith)) (omega arith) (omega arith)
    (λ j. omega (arith, h.once j)) v)
