-- A slot that stands nowhere is hung at a null link: the tree has it once more, and the order only there.
use mathlib.Core.Path.{◌≡◌, refl, sym}
use mathlib.Core.Logic.{◌≢◌}
use mathlib.Core.List.{List, [], ◌∷◌}
use mathlib.Core.Bool.{true}
use Prim.Native.Nat.{ℕ, suc, zero, ◌+◌, ◌<◌, ◌≤◌}
use native.Mathlib.Omega.{arith}
use native.Mathlib.Decide.{ℕ_discrete}
use lib.Dec.{ltb}
use Rattle.slots.specs.Words.{null, parent, left, right, Colour, Side, toward, fields, cell, write, roomy, black, red, leftward, rightward}
use Rattle.slots.proofs.Laws.{length-write}
use Rattle.redblack.specs.Links.{Links, read, rooted, painted}
use Rattle.redblack.specs.Sided.{Sided, Way, top, upper, plug, slots, hit, count, count_way, Cap, Cell, Site, bare, fork, frame, none}
use Rattle.redblack.specs.Sided.{some, home, via}
use Rattle.redblack.specs.Balance.{RedBlack, void, dark}
use Rattle.redblack.specs.Insertion.{insertion_turn, insertion_turns, balanced_insertion}
use Rattle.redblack.specs.Hanging.{spot, hooked, inserted}
use Rattle.redblack.specs.Climbing.{weighed_in}
use Rattle.redblack.specs.Kept.{Agree}
use Rattle.redblack.proofs.Ends.{Part, Outcome, black_part, red_part}
use Rattle.redblack.proofs.Reading.{reads, roomy_cap, recap}
use Rattle.redblack.proofs.Frames.{hit_same, hit_ne, apart, way_cell, way_tree, way_on_lem, tree_frame, way_frame, site_of}
use Rattle.redblack.proofs.Depth.{depth}
use Rattle.redblack.proofs.Parts.{part_of}
use Rattle.redblack.proofs.Insertion.{insertion}

-- A slot that stands nowhere may be added once.
added : (f : ℕ → ℕ) (x j : ℕ) → f x ≡ 0 → f j ≤ 1 → f j + hit j x ≤ 1
added f x j e l = go (ℕ_discrete j x)
  where
    go : Dec (j ≡ x) → f j + hit j x ≤ 1
    go (yes p) = let z : f j ≡ f x = cc in let y : hit j x ≡ hit x x = cc in omega (arith, hit_same x)
    go (no d) = omega (arith, hit_ne d)

-- Both children are written null.
emptied : (l : List ℕ) (x : ℕ) (σ : Side) → roomy fields l x ≡ true → cell (write (write l x left null) x right null) x (toward σ) ≡ null
emptied l x leftward h = simp (reads, h)
emptied l x rightward h = simp (reads, h)

-- The new slot hangs under xp on the side σ, and is red.
pub hooked_site : {n : ℕ} {s : Links} {σ : Side} {c : Colour} {xp : ℕ} {b : Sided} {C : Way} (x : ℕ) → x < n
    → count_way x (frame σ c xp b ∷ C) ≡ 0 → Site n s (frame σ c xp b ∷ C) bare
    → Site n (painted (hooked s x (spot xp (toward σ))) x red) (frame σ c xp b ∷ C) (fork σ red bare x bare)
unfolding hooked count count_way
hooked_site {n} {s} {σ} {c} {xp} {b} {C} x wx fresh h =
    let k = way_cell h.way in
    let hx : roomy fields s.cells x ≡ true = roomy_cap x h.cap wx in
    let hq : roomy fields s.cells xp ≡ true = roomy_cap xp h.cap k.inside in
    let xq : x ≢ xp = apart (omega arith) in
    let qx : xp ≢ x = λ e. xq (sym e) in
    let t = painted (hooked s x (spot xp (toward σ))) x red in
    let off : (j : ℕ) → j ≢ x → j ≢ xp → Agree s t j = λ j e f. record { same = λ g l. simp reads } in
    let stay : (j : ℕ) → 1 ≤ count j b + count_way j C → Agree s t j =
    λ j m. off j (λ (e : j ≡ x). let y : count j b ≡ count x b = cc in let z : count_way j C ≡ count_way x C = cc in omega arith)
    (apart (omega (arith, h.once j))) in
    let k' : Cell n t (upper C) σ c x xp (top b) =
    record {
      inside = k.inside;
      above = simp reads k.above;
      this = simp (reads, hq);
      that = simp reads k.that;
      hued = simp reads k.hued;
    } in
    let m : Cell n t xp σ red null x null =
    record {
      inside = wx;
      above = simp (reads, hx);
      this = simp (reads, emptied, hx);
      that = simp (reads, emptied, hx);
      hued = simp (reads, hx);
    } in
    record {
      cap = recap h.cap (simp length-write);
      way = via k' (tree_frame (λ j l e. stay j (omega arith)) (way_tree h.way))
          (way_frame (λ j l e. stay j (omega arith)) refl (way_on_lem h.way));
      tree = some m none none;
      once = λ j. (let z = added (λ (i : ℕ). count_way i (frame σ c xp b ∷ C)) x j fresh (omega (arith, h.once j)) in omega arith);
    }

-- A red-black tree, and a slot x that stands nowhere in it, hung at the null link on the side σ of xp and balanced.
pub inserting_part : {n : ℕ} {s : Links} {σ : Side} {c : Colour} {xp : ℕ} {b : Sided} {C : Way} (m x : ℕ) → n ≤ m → x < n
    → count_way x (frame σ c xp b ∷ C) ≡ 0 → Part (frame σ c xp b ∷ C) bare
    → Site n s (frame σ c xp b ∷ C) bare
    → Outcome n (inserted m s x (spot xp (toward σ))) (slots (plug (frame σ c xp b ∷ C) (fork σ red bare x bare)))
unfolding inserted
inserting_part m x l wx fresh (black_part w void) h =
    let v = hooked_site x wx fresh h in insertion m _ w (site_of _ refl refl v) (omega (arith, depth v))
inserting_part m x l wx fresh (red_part _ z) h = elim z [ ]

pub inserting : {n : ℕ} {s : Links} {σ : Side} {c : Colour} {xp k : ℕ} {b : Sided} {C : Way} (m x : ℕ) → n ≤ m → x < n
    → count_way x (frame σ c xp b ∷ C) ≡ 0 → RedBlack black k (plug (frame σ c xp b ∷ C) bare)
    → Site n s (frame σ c xp b ∷ C) bare
    → Outcome n (inserted m s x (spot xp (toward σ))) (slots (plug (frame σ c xp b ∷ C) (fork σ red bare x bare)))
inserting {σ = σ} {c} {xp} {b = b} {C} m x l wx fresh v h = inserting_part m x l wx fresh (part_of (frame σ c xp b ∷ C) v) h

-- The first slot: with no slot above it is the root and black.
pub turns_first : (m : ℕ) (s : Links) (x : ℕ) → 0 < m → read s x parent ≡ null → insertion_turns m s x ≡ rooted (painted s x black) x
unfolding insertion_turns insertion_turn
turns_first zero s x l e = absurd (omega arith)
turns_first (suc m) s x l e = rw (e, insertion_turns)

pub planted : {n : ℕ} {s : Links} (m x f : ℕ) → ltb f fields ≡ true → n ≤ m → x < n → Cap n s
    → Site n (inserted m s x (spot null f)) [] (fork leftward black bare x bare)
unfolding inserted balanced_insertion hooked count count_way
planted {n} {s} m x f lf l wx k =
    let hx : roomy fields s.cells x ≡ true = roomy_cap x k wx in
    let xn : x ≢ null = omega (arith, k.small) in
    let s1 = painted (weighed_in m (hooked s x (spot null f)) x) x red in
    let t = rooted (painted s1 x black) x in
    let e : inserted m s x (spot null f) ≡ t = turns_first m s1 x (omega arith) (simp (reads, hx)) in
    let c : Cell n t null leftward black null x null =
    record { inside = wx; above = simp (reads, hx); this = simp (reads, hx); that = simp (reads, hx); hued = simp (reads, hx) } in
    let v : Site n t [] (fork leftward black bare x bare) =
    record {
      cap = recap k (simp length-write);
      way = home {x = x} refl;
      tree = some {a = bare} {b = bare} c none none;
      once = λ j. (let z = added (λ (i : ℕ). 0) x j refl (omega arith) in omega arith);
    } in
    rw e v

pub planting : {n : ℕ} {s : Links} (m x f : ℕ) → ltb f fields ≡ true → n ≤ m → x < n → Cap n s
    → Outcome n (inserted m s x (spot null f)) (x ∷ [])
unfolding slots
planting m x f lf l wx k =
    record { tree = fork leftward black bare x bare; height = 1; site = planted m x f lf l wx k; sound = dark void void; same = refl }
