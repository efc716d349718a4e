-- The links of a tree do not lead out of it, so the routines write only at its slots: a slot that stands nowhere in it keeps all its words.
use mathlib.Core.Path.{◌≡◌, refl, ◌∙◌}
use mathlib.Core.Logic.{◌≢◌, ◌⊎◌, inl, inr}
use mathlib.Core.List.{List, ◌∷◌}
use mathlib.Core.Bool.{true}
use Prim.Native.Nat.{ℕ, ◌<◌, ◌≤◌}
use native.Mathlib.Omega.{arith}
use native.Mathlib.Decide.{ℕ_discrete, dec_le}
use lib.Dec.{ltb}
use Rattle.slots.specs.Words.{null, state, Colour, Side, toward, fields, cell, write, roomy, black, red, leftward, rightward}
use Rattle.slots.proofs.Laws.{cell_else, length-write, cell-null}
use Rattle.redblack.specs.Links.{Links, read, rooted, painted}
use Rattle.redblack.specs.Sided.{Sided, Way, top, plug, count, count_way, Cap, Cell, Hangs, Site, bare, fork, frame, none, some, home}
use Rattle.redblack.specs.Rotate.{rotated}
use Rattle.redblack.specs.Insertion.{balanced_insertion}
use Rattle.redblack.specs.Hanging.{spot, hooked, inserted}
use Rattle.redblack.specs.Climbing.{weighed_in}
use Rattle.redblack.specs.Deletion.{balanced_deletion}
use Rattle.redblack.specs.Removal.{removed}
use Rattle.redblack.specs.Kept.{Agree, Absent}
use Rattle.redblack.proofs.Ends.{Link, up, on}
use Rattle.redblack.proofs.Reading.{reads, roomy_cap}
use Rattle.redblack.proofs.Frames.{hit_same, hit_ne, apart, count-plug, whole, site_of}
use Rattle.redblack.proofs.Hanging.{hooked_site, turns_first}
use Rattle.redblack.proofs.Kept.{link_small, Closed, Held, held_rotated, held_insertion_turns, held_insertion, held_deletion}
use Rattle.redblack.proofs.Kept.{held_removed}

-- The slots of a tree, and null.
unfoldable pub In : Sided → ℕ → Type 0
In t i = (i ≡ null) ⊎ (1 ≤ count i t)

-- The words of a slot of the tree hold null or slots of the tree.
top_in : (P : ℕ → Type 0) (t : Sided) → P null → ((i : ℕ) → 1 ≤ count i t → P i) → P (top t)
unfolding count
top_in P bare pn sub = pn
top_in P (fork σ c a i b) pn sub = sub i (omega (arith, hit_same i))

cell_side : (P : ℕ → Type 0) {n q : ℕ} {s : Links} {σ : Side} {c : Colour} {a i b : ℕ} → Cell n s q σ c a i b → P a → P b → (τ : Side)
    → P (read s i (toward τ))
cell_side P {σ = leftward} k pa pb leftward = rw k.this pa
cell_side P {σ = leftward} k pa pb rightward = rw k.that pb
cell_side P {σ = rightward} k pa pb leftward = rw k.that pb
cell_side P {σ = rightward} k pa pb rightward = rw k.this pa

cell_link : (P : ℕ → Type 0) {n q : ℕ} {s : Links} {σ : Side} {c : Colour} {a i b g : ℕ} → Cell n s q σ c a i b → P q → P a → P b → Link g
    → P (read s i g)
cell_link P k pq pa pb up = rw k.above pq
cell_link P k pq pa pb (on τ) = cell_side P k pa pb τ

hangs_in : (P : ℕ → Type 0) {n : ℕ} {s : Links} {q : ℕ} {t : Sided} → P null → P q → ((i : ℕ) → 1 ≤ count i t → P i) → Hangs n s q t
    → (i g : ℕ) → Link g → 1 ≤ count i t → P (read s i g)
unfolding count
hangs_in P pn pq sub none i g lg l = absurd (omega arith)
hangs_in P {s = s} pn pq sub (some {a = a} {b} {i = k} c x y) i g lg l =
    go (ℕ_discrete i k) (dec_le 1 (count i a))
    (hangs_in P pn (sub k (omega (arith, hit_same k))) (λ j z. sub j (omega arith)) x i g lg)
    (hangs_in P pn (sub k (omega (arith, hit_same k))) (λ j z. sub j (omega arith)) y i g lg)
  where
    go : Dec (i ≡ k) → Dec (1 ≤ count i a) → (1 ≤ count i a → P (read s i g)) → (1 ≤ count i b → P (read s i g)) → P (read s i g)
    go (yes e) d f h = rw e (cell_link P c pq (top_in P a pn (λ j z. sub j (omega arith))) (top_in P b pn (λ j z. sub j (omega arith))) lg)
    go (no d) (yes u) f h = f u
    go (no d) (no u) f h = h (omega (arith, hit_ne d))

-- So the tree is a set of slots that its links do not lead out of.
pub closed_site : {n : ℕ} {s : Links} (C : Way) {t : Sided} → Site n s C t → Closed (In (plug C t)) s
unfolding In
closed_site {n} {s} C {t} h =
    let T = plug C t in
    let w = whole C h in
    record {
      none = inl refl;
      root = elim w.way [ home e ↦ rw e (top_in (In T) T (inl refl) (λ i z. inr z)) ];
      links = λ i g k. elim [
        | inl e ↦ inl (rw e (cell-null s.cells g (omega (arith, h.cap.long, h.cap.small))))
        | inr z ↦ hangs_in (In T) (inl refl) (inl refl) (λ j y. inr y) w.tree i g k z
      ];
    }

-- A write at a slot of the tree, or at null, leaves the words of a slot that is none.
module _ {T : Sided} {j : ℕ} (a : Absent j T) where
  other_slot : (i : ℕ) → In T i → j ≢ i
  unfolding In
  other_slot i (inl e) z = a.solid (z ∙ e)
  other_slot i (inr l) z = let y : count j T ≡ count i T = cc in omega (arith, a.nowhere)

  out_off : (f : ℕ) → ltb f fields ≡ true → (l : List ℕ) (i g v : ℕ) → In T i → Link g → cell (write l i g v) j f ≡ cell l j f
  out_off f k l i g v u lg = cell_else l i g v j f (other_slot i u) (link_small lg) k

  out_pale : (f : ℕ) → ltb f fields ≡ true → (l : List ℕ) (i v : ℕ) → In T i → cell (write l i state v) j f ≡ cell l j f
  out_pale f k l i v u = cell_else l i state v j f (other_slot i u) refl k

-- The slot in view is one of the tree.
view_in : (C : Way) (σ : Side) (c : Colour) (a : Sided) (i : ℕ) (b : Sided) → In (plug C (fork σ c a i b)) i
unfolding In count
view_in C σ c a i b = inr (omega (arith, count-plug i C (fork σ c a i b), hit_same i))

begin : {n : ℕ} {s : Links} (C : Way) {t : Sided} (j f : ℕ) → Site n s C t → Held (In (plug C t)) j f s s
begin C j f h = record { closed = closed_site C h; long = refl; same = refl }

-- The routines at a slot i of the tree, for a slot j that is none of it.
module _ {n : ℕ} {s : Links} {σ : Side} {c : Colour} {a b : Sided} {i j : ℕ} {C : Way} (h : Site n s C (fork σ c a i b))
    (k : Absent j (plug C (fork σ c a i b))) where
  pub rotation_spares : {near far : ℕ} → Link near → Link far → Agree s (rotated near far s i) j
  rotation_spares ln lf =
      record { same = λ f l. (held_rotated (out_off k f l) (out_pale k f l) i ln lf (view_in C σ c a i b) (begin C j f h)).same }

  pub insertion_spares : (m : ℕ) → Agree s (balanced_insertion m s i) j
  insertion_spares m =
      record { same = λ f l. (held_insertion (out_off k f l) (out_pale k f l) m i (view_in C σ c a i b) (begin C j f h)).same }

  pub deletion_spares : (m : ℕ) → Agree s (balanced_deletion m s i) j
  deletion_spares m =
      record { same = λ f l. (held_deletion (out_off k f l) (out_pale k f l) m i (view_in C σ c a i b) (begin C j f h)).same }

  pub removal_spares : (m : ℕ) → Agree s (removed m s i) j
  removal_spares m = record { same = λ f l. (held_removed (out_off k f l) (out_pale k f l) m i (view_in C σ c a i b) (begin C j f h)).same }

-- Insertion begins with a slot that is not yet in the tree: j is another, and no slot of the tree with x in it.
pub inserting_spares : {n : ℕ} {s : Links} {σ : Side} {c : Colour} {xp j : ℕ} {b : Sided} {C : Way} (m x : ℕ) → x < n
    → count_way x (frame σ c xp b ∷ C) ≡ 0 → Site n s (frame σ c xp b ∷ C) bare
    → Absent j (plug (frame σ c xp b ∷ C) (fork σ red bare x bare)) → Agree s (inserted m s x (spot xp (toward σ))) j
unfolding inserted balanced_insertion hooked count count_way
inserting_spares {n} {s} {σ} {c} {xp} {j} {b} {C} m x wx fresh h k =
    let D : Way = frame σ c xp b ∷ C in
    let v = site_of (painted (weighed_in m (hooked s x (spot xp (toward σ))) x) x red) refl refl (hooked_site x wx fresh h) in
    let e = count-plug j D (fork σ red bare x bare) in
    let jx : j ≢ x = apart (omega (arith, k.nowhere)) in
    let jq : j ≢ xp = apart (omega (arith, k.nowhere)) in
    record {
      same = λ f l. (held_insertion_turns {o = s} (out_off k f l) (out_pale k f l) m x (view_in D σ red bare x bare)
          (record { closed = closed_site D v; long = simp length-write; same = simp reads })).same;
    }

pub planting_spares : {n : ℕ} {s : Links} (m x f j : ℕ) → ltb f fields ≡ true → n ≤ m → x < n → Cap n s → j ≢ null → j ≢ x
    → Agree s (inserted m s x (spot null f)) j
unfolding inserted balanced_insertion hooked
planting_spares {n} {s} m x f j lf l wx k jn jx =
    let hx : roomy fields s.cells x ≡ true = roomy_cap x k wx in
    let xn : x ≢ null = omega (arith, k.small) in
    let s1 = painted (weighed_in m (hooked s x (spot null f)) x) x red in
    let e : inserted m s x (spot null f) ≡ rooted (painted s1 x black) x = turns_first m s1 x (omega arith) (simp (reads, hx)) in
    rw e (record { same = λ g h. simp reads })
