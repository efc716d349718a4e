-- A slot joins a tree: its links are written, it and the way above it are counted, and the balancing keeps the sizes right.
use mathlib.Core.Path.{◌≡◌, refl, ap, ◌∙◌, sym}
use mathlib.Core.Logic.{◌≢◌}
use mathlib.Core.List.{List, [], ◌∷◌}
use mathlib.Core.Bool.{true}
use Prim.Native.Nat.{ℕ, ◌<◌, ◌≤◌}
use native.Mathlib.Omega.{arith}
use lib.ListN.{length, get_or, set, length-set}
use lib.Dec.{ltb}
use Rattle.slots.specs.Words.{null, parent, Colour, Side, toward, fields, roomy, black, red, leftward}
use Rattle.redblack.specs.Links.{Links, read, rooted, painted}
use Rattle.redblack.specs.Sided.{Sided, Way, plug, count, count_way, Cap, Leads, Site, bare, fork, frame}
use Rattle.redblack.specs.Insertion.{balanced_insertion}
use Rattle.redblack.specs.Hanging.{spot, hooked, inserted}
use Rattle.redblack.specs.Climbing.{weighed_in, climbed, one_more}
use Rattle.redblack.specs.Kept.{Agree}
use Rattle.redblack.specs.Sizes.{weight, size_by, Sized, SizedAlong}
use Rattle.redblack.proofs.Reading.{reads, roomy_cap}
use Rattle.redblack.proofs.Frames.{hit_same, apart, count-plug, cell_of, way_frame, site_of, whole}
use Rattle.redblack.proofs.Depth.{depth}
use Rattle.tree_rules.proofs.Weighing.{only_same}
use Rattle.redblack.proofs.Weights.{only_ne, weight-plug, weight_cap, size_same, size_other}
use Rattle.redblack.proofs.Hanging.{hooked_site, turns_first, planted}
use Rattle.redblack.proofs.Steady.{Steady, sized_of, steady_insertion_turns}
use Rattle.redblack.proofs.Rounds.{still_links}
use Rattle.redblack.proofs.Stored.{sized_any}
use Rattle.redblack.proofs.Climbing.{by_one, climbed_end, counts_of, sized_at, joined_counts}

-- x is hung under xp: counted, and painted red.
hooked_sized : {n : ℕ} {s : Links} {σ : Side} {c : Colour} {xp : ℕ} {b : Sided} {C : Way} (m x : ℕ) → n ≤ m → x < n
    → count_way x (frame σ c xp b ∷ C) ≡ 0 → Site n s (frame σ c xp b ∷ C) bare → Sized n s (plug (frame σ c xp b ∷ C) bare)
    → Sized n (weighed_in m (hooked s x (spot xp (toward σ))) x) (plug (frame σ c xp b ∷ C) (fork σ red bare x bare))
unfolding weight count hooked
hooked_sized {n} {s} {σ} {c} {xp} {b} {C} m x l wx fresh h z =
    let D : Way = frame σ c xp b ∷ C in
    let s0 = hooked s x (spot xp (toward σ)) in
    let v = hooked_site x wx fresh h in
    let back : (i : ℕ) → i ≢ x → Agree (painted s0 x red) s0 i = λ i d. record { same = λ f k. simp reads } in
    let way : Leads n s0 x D = way_frame (λ i k u. back i (apart (omega (arith, v.once i)))) refl v.way in
    let up : read s0 x parent ≡ xp = sym (still_links s0 x red x) ∙ (cell_of v.tree).above in
    let z0 : SizedAlong n s0 D 0 bare = counts_of D bare (sized_of s0 refl z) in
    sized_at D (fork σ red bare x bare)
    (joined_counts σ red m h.cap.small wx way up (omega (arith, depth v)) (λ k. omega (arith, v.once k))
    (omega (arith, weight_cap D v, weight-plug D (fork σ red bare x bare), h.cap.small)) z0)

-- The slot joins at the null link on the side σ of xp: whatever tree the links hold then, the sizes are right for it.
pub inserting_sized : {n : ℕ} {s : Links} {σ : Side} {c : Colour} {xp : ℕ} {b : Sided} {C : Way} (m x : ℕ) → n ≤ m → x < n
    → count_way x (frame σ c xp b ∷ C) ≡ 0 → Site n s (frame σ c xp b ∷ C) bare → Sized n s (plug (frame σ c xp b ∷ C) bare)
    → (u : Sided) → Site n (inserted m s x (spot xp (toward σ))) [] u → Sized n (inserted m s x (spot xp (toward σ))) u
unfolding inserted balanced_insertion count
inserting_sized {n} {s} {σ} {c} {xp} {b} {C} m x l wx fresh h z u k =
    let D : Way = frame σ c xp b ∷ C in
    let T : Sided = plug D (fork σ red bare x bare) in
    let t = painted (weighed_in m (hooked s x (spot xp (toward σ))) x) x red in
    let v : Site n t D (fork σ red bare x bare) = site_of t refl refl (hooked_site x wx fresh h) in
    let begin : Steady n T t =
    record { tree = T; site = whole D v; sized = sized_of t refl (hooked_sized m x l wx fresh h z); same = λ j. refl } in
    let w = steady_insertion_turns m x (omega (arith, count-plug x D (fork σ red bare x bare), hit_same x)) begin in
    sized_any w.tree u w.site k w.sized

-- The first slot: every size was 0.
pub planting_sized : {n : ℕ} {s : Links} (m x f : ℕ) → ltb f fields ≡ true → n ≤ m → x < n → Cap n s → Sized n s bare → (u : Sided)
    → Site n (inserted m s x (spot null f)) [] u → Sized n (inserted m s x (spot null f)) u
unfolding inserted balanced_insertion hooked weight size_by
planting_sized {n} {s} m x f lf l wx k z u h =
    let hx : roomy fields s.cells x ≡ true = roomy_cap x k wx in
    let xn : x ≢ null = omega (arith, k.small) in
    let s0 = hooked s x (spot null f) in
    let s1 = painted (weighed_in m s0 x) x red in
    let t = rooted (painted s1 x black) x in
    let e : inserted m s x (spot null f) ≡ t = turns_first m s1 x (omega arith) (simp (reads, hx)) in
    let up : read s0 x parent ≡ null = simp (reads, hx) in
    let f : t.sizes ≡ set s.sizes x 1 =
    ap (λ (p : ℕ). climbed m s0.cells (set s.sizes x 1) p one_more) up ∙ climbed_end m s0.cells (set s.sizes x 1) one_more in
    let T : Sided = fork leftward black bare x bare in
    let at_x : get_or (set s.sizes x 1) x 0 ≡ size_by x T = omega (arith, size_same s.sizes x 1 z.long wx, only_same x 1) in
    let off : (j : ℕ) → j ≢ x → get_or (set s.sizes x 1) j 0 ≡ size_by j T =
    λ j d. omega (arith, size_other s.sizes x 1 j d, z.same j, only_ne {i = x} 1 d) in
    let w : Sized n t T =
    record {
      long = ap length f ∙ simp length-set z.long;
      same = λ j. ap (λ (l : List ℕ). get_or l j 0) f ∙ by_one (λ (j : ℕ). get_or (set s.sizes x 1) j 0 ≡ size_by j T) x at_x off j;
    } in
    sized_any T u (planted m x _ lf l wx k) h (rw e w)
