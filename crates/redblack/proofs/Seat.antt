-- A slot takes another's place at the end of a way: one child's link is written, or the root, and the way leads there as before.
use mathlib.Core.Path.{◌≡◌, refl, ◌∙◌, sym}
use mathlib.Core.Logic.{◌≢◌}
use mathlib.Core.List.{[], ◌∷◌}
use mathlib.Core.Bool.{true, false}
use Prim.Native.Nat.{ℕ, ◌<◌, ◌≤◌}
use native.Mathlib.Omega.{arith}
use lib.Dec.{eqb, ltb}
use borrow.Author.Tests.{eq-eqb, ne_eqb}
use Rattle.slots.specs.Words.{null, state, parent, left, Side, other, toward, fields, roomy, leftward, rightward}
use Rattle.slots.proofs.Laws.{length-write, toward-small, toward-other}
use Rattle.redblack.specs.Links.{Links, read, stored}
use Rattle.redblack.specs.Sided.{Way, top, upper, count_way, Cap, Cell, Leads, frame, home, via}
use Rattle.redblack.specs.Removal.{replaced}
use Rattle.redblack.specs.Kept.{Agree}
use Rattle.redblack.proofs.Reading.{side_state, side_parent, reads, roomy_cap, recap, solid}
use Rattle.redblack.proofs.Frames.{apart, count-top, tree_frame, way_frame}

-- The links t are s but for what stands at the end of the way, which is x now.
abbrev pub Heads : Way → Links → Links → ℕ → Type 0
Heads [] s t x = t.root ≡ x
Heads (frame τ c q y ∷ C) s t x =
    record {
      root : t.root ≡ s.root;
      this : read t q (toward τ) ≡ x;
      same : (f : ℕ) → ltb f fields ≡ true → eqb (toward τ) f ≡ false → read t q f ≡ read s q f;
    }

-- A way whose last child is another.
pub rewire : {n x x' : ℕ} {s t : Links} {C : Way} → ((k : ℕ) → count_way k C ≤ 1)
    → ((i : ℕ) → i < n → 1 ≤ count_way i C → i ≢ upper C → Agree s t i) → Heads C s t x' → Leads n s x C → Leads n t x' C
unfolding count_way
rewire u g e (home h) = home e
rewire {n} {x' = x'} {t = t} u g e (via {σ = τ} {c} {i} {b} {C} k y w) =
    let k' : Cell n t (upper C) τ c x' i (top b) =
    record {
      inside = k.inside;
      above = e.same parent refl (side_parent τ) ∙ k.above;
      this = e.this;
      that = e.same (toward (other τ)) (toward-small (other τ)) (toward-other τ) ∙ k.that;
      hued = e.same state refl (side_state τ) ∙ k.hued;
    } in
    via k' (tree_frame (λ j l z. g j l (omega arith) (apart (omega (arith, u j)))) y)
    (way_frame (λ j l z. g j l (omega arith) (apart (omega (arith, u j)))) e.root w)

-- Later writes elsewhere change nothing in that.
pub heads_on : {n p : ℕ} {s t : Links} {C : Way} (v : Links) (x : ℕ) → Leads n s p C → v.root ≡ t.root
    → (upper C < n → Agree t v (upper C)) → Heads C s t x → Heads C s v x
heads_on v x (home h) e a k = e ∙ k
heads_on v x (via {σ = τ} c b w) e a k =
    let g = a c.inside in
    record { root = e ∙ k.root; this = g.same (toward τ) (toward-small τ) ∙ k.this; same = λ f l z. g.same f l ∙ k.same f l z }

-- In s the way leads to p; t differs from s elsewhere; v is t with x in p's place.
pub record Seat (n : ℕ) (s t v : Links) (C : Way) (x : ℕ) : Type 0 where
  pub cap : Cap n v
  pub off : (i : ℕ) → i ≢ upper C → Agree t v i
  pub heads : Heads C s v x

pub replaced_kid : (s : Links) (τ : Side) (q p x : ℕ) → eqb q null ≡ false → read s q (toward τ) ≡ p → read s q (toward (other τ)) ≢ p
    → replaced s q p x ≡ stored s q (toward τ) x
unfolding replaced
replaced_kid s leftward q p x f k d = rw (f, eq-eqb (read s q left) p k)
replaced_kid s rightward q p x f k d = rw (f, ne_eqb (read s q left) p d)

pub seat : {n p : ℕ} {s t : Links} {C : Way} (x : ℕ) → n ≤ null → p < n → count_way p C ≡ 0 → Cap n t → t.root ≡ s.root
    → (upper C < n → Agree s t (upper C)) → Leads n s p C → Seat n s t (replaced t (upper C) p x) C x
unfolding replaced count_way
seat x small wp z k e a (home h) = record { cap = recap k refl; off = λ i d. record { same = λ f l. refl }; heads = refl }
seat {n} {p} {s} {t} x small wp z k e a (via {σ = τ} {c = d} {i = q} {b = y} {C = C} c b w) =
    let g = a c.inside in
    let py : p ≢ top y = apart (omega (arith, count-top p y (omega arith))) in
    let hq : roomy fields t.cells q ≡ true = roomy_cap q k c.inside in
    let v : Seat n s t (stored t q (toward τ) x) (frame τ d q y ∷ C) x =
    record {
      cap = recap k (simp length-write);
      off = λ i d. record { same = λ f l. simp reads };
      heads = record { root = e; this = simp (reads, hq); same = λ f l d. simp reads (g.same f l) };
    } in
    rw (replaced_kid t τ q p x (solid c.inside small) (g.same (toward τ) (toward-small τ) ∙ c.this)
    (λ h. py (sym h ∙ g.same (toward (other τ)) (toward-small (other τ)) ∙ c.that))) v
