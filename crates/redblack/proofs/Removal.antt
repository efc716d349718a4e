-- A slot with at most one child goes. In a red-black tree it is bare below, or black over one red child, so its removal takes away no
-- more than one black; a bare black slot stays in place while the way above it is mended for nothing in its place.
use mathlib.Core.Path.{◌≡◌, refl, ap, ◌∙◌, sym}
use mathlib.Core.Logic.{◌≢◌}
use mathlib.Core.List.{[], ◌∷◌}
use mathlib.Core.Bool.{true, false}
use Prim.Native.Nat.{ℕ, ◌<◌, ◌≤◌}
use native.Mathlib.Omega.{arith}
use lib.ListN.{length}
use lib.Dec.{eqb}
use borrow.Author.Tests.{eq-eqb, ne_eqb}
use Rattle.slots.specs.Words.{null, state, parent, left, right, code, Colour, Side, other, toward, black, red, leftward, rightward}
use Rattle.slots.proofs.Laws.{length-write}
use Rattle.redblack.specs.Links.{Links, read, stored, is_red}
use Rattle.redblack.specs.Sided.{Sided, Way, upper, plug, slots, count, Cap, Site, bare, fork, none, home}
use Rattle.redblack.specs.Balance.{Wants, void, dark, rosy}
use Rattle.redblack.specs.Climbing.{weighed_out}
use Rattle.redblack.specs.Deletion.{balanced_deletion}
use Rattle.redblack.specs.Removal.{replaced, replacement, spliced, detached, dropped}
use Rattle.redblack.specs.Kept.{Agree}
use Rattle.redblack.proofs.Ends.{Part, Outcome, black_part, red_part}
use Rattle.redblack.proofs.Reading.{reads, roomy_cap, recap, solid}
use Rattle.redblack.proofs.Frames.{hit_same, apart, count-upper, upper-count, cell_of, this_of, agree_trans, Moved, site_of, whole}
use Rattle.redblack.proofs.Frames.{rehang, root_else, not_root}
use Rattle.redblack.proofs.Paint.{Repaints, one_painted, painting}
use Rattle.redblack.proofs.Order.{slots-plug}
use Rattle.redblack.proofs.Depth.{depth}
use Rattle.redblack.proofs.Looks.{red_top, dark_top}
use Rattle.redblack.proofs.Parts.{plug_black, plug_any}
use Rattle.redblack.proofs.Seat.{rewire, heads_on, Seat, seat}
use Rattle.redblack.proofs.Deletion.{turn_red, deletion_root, deletion_done, deletion}

-- The slot in view, which is bare, leaves the tree.
pub detached_site : {n : ℕ} {s : Links} {ρ : Side} {d : Colour} {p : ℕ} {C : Way} → Site n s C (fork ρ d bare p bare)
    → Site n (detached s p) C bare
unfolding detached count
detached_site {n} {s} {p = p} {C} h =
    let k = cell_of h.tree in
    let small = h.cap.small in
    let S : Seat n s s (replaced s (upper C) p null) C null =
    seat null small k.inside (omega (arith, h.once p, hit_same p)) h.cap refl (λ l. record { same = λ f e. refl }) h.way in
    let t = stored (replaced s (upper C) p null) p parent null in
    let off : (j : ℕ) → j ≢ p → Agree (replaced s (upper C) p null) t j = λ j e. record { same = λ f l. simp reads } in
    let v : Site n t C bare =
    record {
      cap = recap S.cap (simp length-write);
      way = rewire (λ j. omega (arith, h.once j)) (λ j l z e. agree_trans (S.off j e) (off j (apart (omega (arith, h.once j)))))
          (heads_on t null h.way refl (λ l. off (upper C) (apart (omega (arith, h.once (upper C), upper-count C (omega arith)))))
          S.heads) h.way;
      tree = none;
      once = λ j. omega (arith, h.once j);
    } in
    rw (ap (λ (q : ℕ). stored (replaced s q p null) p parent null) k.above) v

-- The slot p in view has one child, which takes its place.
spliced_by : Links → ℕ → ℕ → ℕ → Links
spliced_by s p x q = stored (stored (stored (replaced (stored s x parent q) q p x) p left null) p right null) p parent null

pub spliced_site : {n : ℕ} {s : Links} {ρ σ : Side} {d e : Colour} {a b : Sided} {x p : ℕ} {C : Way}
    → Site n s C (fork ρ d (fork σ e a x b) p bare) → Site n (spliced s p x) C (fork σ e a x b)
unfolding spliced spliced_by count
spliced_site {n} {s} {ρ} {σ} {d} {e} {a} {b} {x} {p} {C} h =
    let k = cell_of h.tree in
    let kx = cell_of (this_of h.tree) in
    let small = h.cap.small in
    let xp : x ≢ p = apart (omega (arith, h.once x, hit_same x)) in
    let xC : x ≢ upper C = apart (omega (arith, h.once x, hit_same x, count-upper x C (omega (arith, kx.inside)))) in
    let s1 = stored s x parent (upper C) in
    let up : (j : ℕ) → j ≢ x → Agree s s1 j = λ j z. record { same = λ f l. simp reads } in
    let end : upper C < n → (upper C ≢ x) × (upper C ≢ p) =
    λ l. (λ z. xC (sym z), apart (omega (arith, h.once (upper C), upper-count C (omega arith)))) in
    let S : Seat n s s1 (replaced s1 (upper C) p x) C x =
    seat x small k.inside (omega (arith, h.once p, hit_same p)) (recap h.cap (simp length-write)) refl
    (λ l. up (upper C) (end l).0) h.way in
    let t = spliced_by s p x (upper C) in
    let off : (j : ℕ) → j ≢ p → Agree (replaced s1 (upper C) p x) t j = λ j z. record { same = λ f l. simp reads } in
    let far : (j : ℕ) → j ≢ p → j ≢ upper C → j ≢ x → Agree s t j = λ j z f g. agree_trans (up j g) (agree_trans (S.off j f) (off j z)) in
    let near : Agree s1 t x = agree_trans (S.off x xC) (off x xp) in
    let moved : Moved s t x (upper C) =
    record { up = near.same parent refl ∙ simp (reads, roomy_cap x h.cap kx.inside); same = λ f l z. near.same f l ∙ simp reads } in
    let v : Site n t C (fork σ e a x b) =
    record {
      cap = recap S.cap (simp length-write);
      way =
          rewire (λ j. omega (arith, h.once j)) (λ j l z f. far j (apart (omega (arith, h.once j))) f (apart (omega (arith, h.once j))))
          (heads_on t x h.way refl (λ l. off (upper C) (end l).1) S.heads) h.way;
      tree =
          rehang (λ j l z f. far j (apart (omega (arith, h.once j))) (apart (omega (arith, h.once j, count-upper j C (omega arith)))) f)
          (λ l. moved) (λ j. omega (arith, h.once j)) (this_of h.tree);
      once = λ j. omega (arith, h.once j);
    } in
    rw (ap (spliced_by s p x) k.above) v

-- Which slot stands in for p.
replacement_none : (s : Links) (ρ : Side) (p : ℕ) → read s p (toward ρ) ≡ null → read s p (toward (other ρ)) ≡ null → replacement s p ≡ p
unfolding replacement
replacement_none s leftward p e f = rw (e, f)
replacement_none s rightward p e f = rw (e, f)

replacement_one : (s : Links) (ρ : Side) (p x : ℕ) → read s p (toward ρ) ≡ x → read s p (toward (other ρ)) ≡ null → eqb x null ≡ false
    → replacement s p ≡ x
unfolding replacement
replacement_one s leftward p x e f z = rw (e, z)
replacement_one s rightward p x e f z = rw (f, e, z)

-- A leaf is its own replacement and goes; a replacement that is not the root is as the loop leaves it.
dropped_red : (m : ℕ) (s : Links) (p : ℕ) → replacement s p ≡ p → is_red s p ≡ true → (detached (weighed_out m s p) p).root ≢ p
    → dropped m s p ≡ detached (weighed_out m s p) p
unfolding dropped
dropped_red m s p r f d = rw (r, eq-eqb p p refl, f, ne_eqb _ _ d)

dropped_black : (m : ℕ) (s : Links) (p : ℕ) {t : Links} → replacement s p ≡ p → is_red s p ≡ false → balanced_deletion m s p ≡ t
    → (detached (weighed_out m t p) p).root ≢ p → dropped m s p ≡ detached (weighed_out m t p) p
unfolding dropped
dropped_black m s p r f e d = rw (r, eq-eqb p p refl, f, e, ne_eqb _ _ d)

dropped_one : (m : ℕ) (s : Links) (p x : ℕ) {t : Links} → replacement s p ≡ x → x ≢ p → is_red s p ≡ false
    → balanced_deletion m (spliced (weighed_out m s p) p x) x ≡ t → t.root ≢ x → dropped m s p ≡ t
unfolding dropped
dropped_one m s p x {t} r d f e g = rw (r, ne_eqb x p d, f, e, ne_eqb _ _ g)

-- A replacement x that became the root is black, and no other word is written.
record Crowns (t u : Links) (x : ℕ) : Type 0 where
  crown : read u x state ≡ code black
  paints : Repaints t u x x x
  sizes : u.sizes ≡ t.sizes

dropped-top : {n : ℕ} (m : ℕ) (s : Links) (p x : ℕ) {t : Links} → Cap n t → x < n → replacement s p ≡ x → x ≢ p → is_red s p ≡ false
    → balanced_deletion m (spliced (weighed_out m s p) p x) x ≡ t → t.root ≡ x → Crowns t (dropped m s p) x
unfolding dropped
dropped-top m s p x {t} k w r d f e g =
    rw (r, ne_eqb x p d, f, e, eq-eqb _ _ g)
    (record {
      crown = simp (reads, roomy_cap x k w);
      paints = record { long = simp length-write; root = refl; links = λ l h i z. simp reads; states = λ l a b c. simp reads };
      sizes = refl;
    })

-- What was detached is not the root.
detached_root : {n : ℕ} {s : Links} {ρ : Side} {d : Colour} {p : ℕ} {C : Way} → Site n s C (fork ρ d bare p bare) → (detached s p).root ≢ p
unfolding count
detached_root {p = p} h =
    root_else (detached_site h).way (omega (arith, (cell_of h.tree).inside, h.cap.small)) (omega (arith, h.once p, hit_same p))

-- What the removal of p comes to: p is bare and red, or bare and black, or black over one red child.
pub red_is : {n : ℕ} {s : Links} {ρ : Side} {p : ℕ} {C : Way} (m : ℕ) → Site n s C (fork ρ red bare p bare)
    → dropped m s p ≡ detached (weighed_out m s p) p
red_is {s = s} {ρ} {p} m h =
    let k = cell_of h.tree in
    dropped_red m s p (replacement_none s ρ p k.this k.that) (red_top h.tree)
    (detached_root (site_of (weighed_out m s p) refl refl h))

pub black_is : {n : ℕ} {s : Links} {ρ : Side} {p : ℕ} {C D : Way} (m : ℕ) → Site n s C (fork ρ black bare p bare)
    → Site n (balanced_deletion m s p) D (fork ρ black bare p bare) → dropped m s p ≡ detached (weighed_out m (balanced_deletion m s p) p) p
black_is {s = s} {ρ} {p} m h v =
    let k = cell_of h.tree in
    let f = dark_top h.cap (dark {σ = ρ} {i = p} void void) h.tree in
    dropped_black m s p (replacement_none s ρ p k.this k.that) f refl
    (detached_root (site_of (weighed_out m (balanced_deletion m s p) p) refl refl v))

-- The red child takes the place and the black: by the loop's first turn, or as the root, where the loop does not look.
pub record OneLeft (n : ℕ) (s u : Links) (σ : Side) (x : ℕ) (C : Way) : Type 0 where
  pub site : Site n u C (fork σ black bare x bare)
  pub sizes : u.sizes ≡ s.sizes

pub one_black : {n : ℕ} {s : Links} {ρ σ : Side} {p x : ℕ} (C : Way) (m : ℕ) → 0 < m
    → Site n s C (fork ρ black (fork σ red bare x bare) p bare)
    → OneLeft n (spliced (weighed_out m s p) p x) (dropped m s p) σ x C
unfolding count
one_black {s = s} {ρ} {σ} {p} {x} [] m l h =
    let k = cell_of h.tree in
    let s1 = spliced (weighed_out m s p) p x in
    let v = spliced_site (site_of (weighed_out m s p) refl refl h) in
    let xp : x ≢ p = apart (omega (arith, h.once x, hit_same x)) in
    let top : s1.root ≡ x = elim v.way [ home e ↦ e ] in
    let w = (cell_of v.tree).inside in
    let e = dropped-top m s p x v.cap w (replacement_one s ρ p x k.this k.that (solid w h.cap.small))
    xp (rw k.hued) (ap (balanced_deletion m s1) (sym top) ∙ deletion_root m s1) top in
    record { site = one_painted black v.cap w e.paints e.crown (painting black v); sizes = e.sizes }
one_black {s = s} {ρ} {σ} {p} {x} (f ∷ C) m l h =
    let k = cell_of h.tree in
    let s1 = spliced (weighed_out m s p) p x in
    let v = spliced_site (site_of (weighed_out m s p) refl refl h) in
    let xp : x ≢ p = apart (omega (arith, h.once x, hit_same x)) in
    let r = replacement_one s ρ p x k.this k.that (solid (cell_of (this_of h.tree)).inside h.cap.small) in
    let e = dropped_one m s p x r xp (rw k.hued) (deletion_done m s1 x l (turn_red v)) (λ z. not_root v (sym z)) in
    record { site = rw e (painting black v); sizes = ap (λ (u : Links). u.sizes) e }

module _ {n : ℕ} {s : Links} {ρ : Side} {p : ℕ} {C : Way} (m : ℕ) (l : length C < m) where
  bare_red : Wants 0 black C → Site n s C (fork ρ red bare p bare) → Outcome n (dropped m s p) (slots (plug C bare))
  bare_red w h =
      let z = plug_any w void in
      record {
        tree = plug C bare;
        height = z.0;
        site = rw (red_is m h) (whole C (detached_site (site_of (weighed_out m s p) refl refl h)));
        sound = z.1;
        same = refl;
      }

  bare_black : {e : Colour} → Wants 1 e C → Site n s C (fork ρ black bare p bare) → Outcome n (dropped m s p) (slots (plug C bare))
  bare_black w h =
      let o = deletion m w void h l in
      let v : Site n (weighed_out m (balanced_deletion m s p) p) o.path (fork ρ black bare p bare) = site_of _ refl refl o.site in
      record {
        tree = plug o.path bare;
        height = o.height;
        site = rw (black_is m h o.site) (whole o.path (detached_site v));
        sound = o.sound;
        same = o.same bare;
      }

-- The cases are all that a red-black tree leaves.
pub dropping_part : {n : ℕ} {s : Links} {ρ : Side} {d : Colour} {a : Sided} {p : ℕ} {C : Way} (m : ℕ) → n ≤ m → Part C (fork ρ d a p bare)
    → Site n s C (fork ρ d a p bare) → Outcome n (dropped m s p) (slots (plug C a))
unfolding slots
dropping_part m l (black_part w (dark void void)) h = bare_black m (omega (arith, depth h)) w h
dropping_part {s = s} {p = p} {C} m l (black_part w (dark (rosy {σ = σ} {i = x} void void) void)) h =
    let z = plug_black w (dark {σ = σ} {i = x} void void) in
    record {
      tree = plug C (fork σ black bare x bare);
      height = z.0;
      site = whole C (one_black C m (omega (arith, depth h)) h).site;
      sound = z.1;
      same = slots-plug C (fork σ black bare x bare) (fork σ red bare x bare) refl;
    }
dropping_part m l (red_part w (rosy void void)) h = bare_red m (omega (arith, depth h)) w h
dropping_part m l (black_part w (dark (dark _ _) x)) h = elim x [ ]
dropping_part m l (black_part w (dark (rosy (dark _ _) _) x)) h = elim x [ ]
dropping_part m l (red_part w (rosy (dark _ _) x)) h = elim x [ ]
