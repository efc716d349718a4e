-- The part in view is one black short. A turn ends the loop with a rotation or a colour, or it moves the want up to the parent,
-- where the law is used again with both the part and its stand-in wrapped alike.
-- Parts: what a turn reads and writes; the tree in view after each rotation; what comes up to the end of the way; the outer nephew red, the
-- inner one red, neither red; a black sibling, under a red parent and under a black one; a red sibling; the loop by its budget.
use mathlib.Core.Path.{◌≡◌, refl, ap, ◌∙◌, sym}
use mathlib.Core.Logic.{◌≢◌}
use mathlib.Core.List.{List, [], ◌∷◌}
use mathlib.Core.Bool.{Bool, true, false}
use Prim.Native.Nat.{ℕ, suc, zero, ◌<◌}
use native.Mathlib.Omega.{arith}
use lib.ListN.{length}
use lib.Dec.{eqb}
use borrow.Author.Tests.{eq-eqb, ne_eqb}
use Rattle.slots.specs.Words.{null, state, parent, Colour, code, Side, other, toward, black, red, leftward, rightward}
use Rattle.slots.proofs.Laws.{length-write}
use Rattle.redblack.specs.Links.{Links, read, painted, is_red, Turn, done, more}
use Rattle.redblack.specs.Sided.{Sided, Frame, Way, top, plug, around, slots, count, count_way, Cap, Site, fork, frame, home}
use Rattle.redblack.specs.Balance.{RedBlack, Wants, crown, Mended, void, dark, rosy, atop, below, under}
use Rattle.redblack.specs.Rotate.{rotated}
use Rattle.redblack.specs.Deletion.{capped, outer_red, inner_red, dark_sib, by_sib, deletion_turn, balanced_deletion}
use Rattle.redblack.proofs.Reading.{reads, roomy_cap, solid}
use Rattle.redblack.proofs.Frames.{hit_same, apart, count-top, cell_of, this_of, that_of, way_cell, way_tree, outward, inward, turn}
use Rattle.redblack.proofs.Frames.{turn', not_root}
use Rattle.redblack.proofs.Paint.{Repaints, three-painted, painting, painting_this, painting_that, turn_this}
use Rattle.redblack.proofs.Order.{slots-plug, around_turn, around_spin}
use Rattle.redblack.proofs.Looks.{pick_side, red_top, dark_top, colour-is}
use Rattle.redblack.proofs.Parts.{crown_black, plug_black, plug_any}
use Rattle.redblack.proofs.Rotation.{rotation, rotation'}

-- What a turn leaves to do.
resumed : ℕ → Turn → Links
resumed m (done t) = t
resumed m (more t y) = balanced_deletion m t y

-- What a turn reads.
pub turn_root : (s : Links) → deletion_turn s s.root ≡ done s
unfolding deletion_turn
turn_root s = go (eqb s.root null) refl
  where
    go : (t : Bool) → eqb s.root null ≡ t → deletion_turn s s.root ≡ done s
    go true e = rw e
    go false e = rw (e, eq-eqb s.root s.root refl)

pub turn_red : {n : ℕ} {s : Links} {σ : Side} {f : Frame} {C : Way} {a b : Sided} {x : ℕ} → Site n s (f ∷ C) (fork σ red a x b)
    → deletion_turn s x ≡ done (painted s x black)
unfolding deletion_turn
turn_red {f = frame τ c xp y} h =
    let k = cell_of h.tree in
    rw (solid k.inside h.cap.small, ne_eqb _ _ (not_root h), k.above, solid (way_cell h.way).inside h.cap.small, k.hued)

turn_by_sib : {n : ℕ} {s : Links} {σ τ : Side} {c : Colour} {C : Way} {a b y : Sided} {x xp : ℕ}
    → Site n s (frame τ c xp y ∷ C) (fork σ black a x b) → deletion_turn s x ≡ by_sib (toward τ) (toward (other τ)) s x xp
unfolding deletion_turn count count_way
turn_by_sib {s = s} {τ = τ} {y = y} {x} {xp} h =
    let k = cell_of h.tree in
    let m = way_cell h.way in
    let ne : x ≢ top y = apart (omega (arith, h.once x, hit_same x, count-top x y (omega (arith, k.inside, h.cap.small)))) in
    rw (solid k.inside h.cap.small, ne_eqb _ _ (not_root h), k.above, solid m.inside h.cap.small, k.hued)
    (pick_side s τ x xp (λ (f g : ℕ). by_sib f g s x xp) m.this (λ e. ne (sym e ∙ m.that)))

-- The sibling i has the colour c that xp had, its outer child j and xp are black, and no other word is written.
record Caps (s t : Links) (c : Colour) (i j xp : ℕ) : Type 0 where
  paints : Repaints s t i j xp
  sibling : read t i state ≡ code c
  nephew : read t j state ≡ code black
  lower : read t xp state ≡ code black

caps : {n : ℕ} (s : Links) (τ : Side) (c : Colour) (xp i j : ℕ) → Cap n s → i < n → j < n → xp < n → i ≢ j → i ≢ xp → j ≢ xp
    → read s xp state ≡ code c → read s i (toward (other τ)) ≡ j
    → Caps s (capped (toward τ) (toward (other τ)) s xp i) c i j xp
unfolding capped
caps s τ c xp i j k wi wj wp a b d hc kj =
    let a' : j ≢ i = λ z. a (sym z) in
    let b' : xp ≢ i = λ z. b (sym z) in
    let d' : xp ≢ read s i (toward (other τ)) = λ z. d (sym (z ∙ kj)) in
    let e = colour-is s xp c hc in
    record {
      paints = record { long = simp length-write; root = refl; links = λ l g m z. simp reads; states = λ l x y z. simp (reads, kj) };
      sibling = simp (reads, kj, e, roomy_cap i k wi);
      nephew = simp (reads, kj, roomy_cap j k wj);
      lower = simp (reads, roomy_cap xp k wp);
    }

inner_red-is : (s : Links) (τ : Side) (i j : ℕ) → read s i (toward τ) ≡ j
    → inner_red (toward τ) (toward (other τ)) s i ≡ rotated (toward (other τ)) (toward τ) (painted (painted s j black) i red) i
unfolding inner_red
inner_red-is s τ i j e = ap (λ (k : ℕ). rotated (toward (other τ)) (toward τ) (painted (painted s k black) i red) i) e

dark_sib_outer : (near far : ℕ) (s : Links) (x xp i j : ℕ) → read s i far ≡ j → is_red s j ≡ true
    → dark_sib near far s x xp i ≡ outer_red near far s xp i
unfolding dark_sib
dark_sib_outer near far s x xp i j e f = rw (e, f)

dark_sib_inner : (near far : ℕ) (s : Links) (x xp i j k z : ℕ) → read s i far ≡ j → is_red s j ≡ false → read s i near ≡ k
    → is_red s k ≡ true
    → read (inner_red near far s i) x parent ≡ xp → read (inner_red near far s i) xp far ≡ z
    → dark_sib near far s x xp i ≡ outer_red near far (inner_red near far s i) xp z
unfolding dark_sib
dark_sib_inner near far s x xp i j k z e f e' f' p q = rw (e, f, e', f', p, q)

dark_sib_dark : (near far : ℕ) (s : Links) (x xp i j k : ℕ) → read s i far ≡ j → is_red s j ≡ false → read s i near ≡ k → is_red s k ≡ false
    → dark_sib near far s x xp i ≡ more (painted s i red) xp
unfolding dark_sib
dark_sib_dark near far s x xp i j k e f e' f' = rw (e, f, e', f')

by_sib_dark : (near far : ℕ) (s : Links) (x xp i : ℕ) → read s xp far ≡ i → is_red s i ≡ false
    → by_sib near far s x xp ≡ dark_sib near far s x xp i
unfolding by_sib
by_sib_dark near far s x xp i e f = rw (e, f)

by_sib_red : (near far : ℕ) (s : Links) (x xp i z : ℕ) → read s xp far ≡ i → is_red s i ≡ true
    → (let t = rotated near far (painted (painted s i black) xp red) xp in
    read t x parent ≡ xp → read t xp far ≡ z → by_sib near far s x xp ≡ dark_sib near far t x xp z)
unfolding by_sib
by_sib_red near far s x xp i z e f p q = rw (e, f, p, q)

-- The view goes over to the sibling, and back.
over : {n : ℕ} {s : Links} {τ : Side} {c : Colour} {i : ℕ} {t y : Sided} {C : Way} → Site n s (frame τ c i y ∷ C) t
    → Site n s (frame (other τ) c i t ∷ C) y
over h = inward (turn (outward h))

over' : {n : ℕ} {s : Links} {τ : Side} {c : Colour} {i : ℕ} {t y : Sided} {C : Way} → Site n s (frame (other τ) c i t ∷ C) y
    → Site n s (frame τ c i y ∷ C) t
over' h = inward (turn' (outward h))

-- The outer nephew is red.
outer_red_site : {n : ℕ} {s : Links} {τ β : Side} {c : Colour} {C : Way} {t a b d : Sided} {xp i j : ℕ} → crown C c ≡ c
    → Site n s (frame τ c xp (fork τ black a i (fork β red b j d)) ∷ C) t
    → (let u = capped (toward τ) (toward (other τ)) s xp i in
    Site n (rotated (toward τ) (toward (other τ)) u xp) (frame τ black xp a ∷ (frame τ c i (fork β black b j d) ∷ C)) t)
unfolding count count_way
outer_red_site {s = s} {τ} {c = c} {xp = xp} {i} {j} e h =
    let w = way_cell h.way in
    let y = way_tree h.way in
    let wi = (cell_of y).inside in
    let wj = (cell_of (that_of y)).inside in
    let ij : i ≢ j = apart (omega (arith, h.once i, hit_same i)) in
    let ip : i ≢ xp = apart (omega (arith, h.once i, hit_same i)) in
    let jp : j ≢ xp = apart (omega (arith, h.once j, hit_same j)) in
    let k = caps s τ c xp i j h.cap wi wj w.inside ij ip jp w.hued (cell_of y).that in
    let p = painting black (outward (over' (painting_that black (painting c (over h))))) in
    let v = rotation (three-painted c black black h.cap wi wj w.inside k.paints k.sibling k.nephew k.lower p) in
    inward (inward (rw e at v))

-- The inner one.
inner_red_site : {n : ℕ} {s : Links} {τ : Side} {c : Colour} {C : Way} {t p q b : Sided} {xp i j : ℕ}
    → Site n s (frame τ c xp (fork τ black (fork (other τ) red p j q) i b) ∷ C) t
    → Site n (rotated (toward (other τ)) (toward τ) (painted (painted s j black) i red) i)
    (frame τ c xp (fork τ black q j (fork (other τ) red b i p)) ∷ C) t
inner_red_site {τ = τ} h = over' (turn' (rotation' τ (turn (painting red (painting_this black (over h))))))

-- The sibling is red.
by_sib_site : {n : ℕ} {s : Links} {τ : Side} {C : Way} {t a b : Sided} {xp i : ℕ} → Site n s (frame τ black xp (fork τ red a i b) ∷ C) t
    → Site n (rotated (toward τ) (toward (other τ)) (painted (painted s i black) xp red) xp) (frame τ red xp a ∷ (frame τ black i b ∷ C)) t
by_sib_site {C = C} h = let v = rotation (painting red (painting_that black (outward h))) in inward (inward (rw (crown_black C) at v))

-- The same of links that are the same, and of a way that lists the same slots.
renamed : {n : ℕ} {s s' : Links} {C D : Way} {t g : Sided} → s ≡ s' → ((v : Sided) → slots (plug D v) ≡ slots (plug C v))
    → Mended n s' D t g → Mended n s C t g
renamed e f o = record { path = o.path; height = o.height; site = rw e o.site; sound = o.sound; same = λ v. o.same v ∙ f v }

carried : {n : ℕ} {s s' : Links} {C : Way} {t g : Sided} → s ≡ s' → Mended n s' C t g → Mended n s C t g
carried e o = renamed e (λ v. refl) o

-- Another name of the sibling.
resib : (τ : Side) (c : Colour) (xp : ℕ) (y z : Sided) (C : Way) → slots y ≡ slots z → (v : Sided)
    → slots (plug (frame τ c xp y ∷ C) v) ≡ slots (plug (frame τ c xp z ∷ C) v)
unfolding plug slots
resib τ c xp y z C e v = slots-plug C (fork τ c v xp y) (fork τ c v xp z) (ap (λ (l : List ℕ). around τ (slots v) xp l) e)

-- What comes up to the end of C has the colour that xp had, and makes a red-black whole.
crown-is : {h : ℕ} {τ : Side} {c e : Colour} {xp : ℕ} {y : Sided} {C : Way} → Wants h e (frame τ c xp y ∷ C) → crown C c ≡ c
crown-is {C = C} (below w u) = crown_black C
crown-is (under (below w u) v) = refl

crowned : {h : ℕ} {τ : Side} {c e : Colour} {xp : ℕ} {y a b : Sided} {C : Way} (ρ : Side) (i : ℕ) → Wants h e (frame τ c xp y ∷ C)
    → RedBlack black h a → RedBlack black h b → (k : ℕ) × RedBlack black k (plug C (fork ρ c a i b))
crowned ρ i (below w u) a b = plug_black w (dark a b)
crowned ρ i (under w u) a b = plug_any w (rosy a b)

pub deletion_root : (m : ℕ) (s : Links) → balanced_deletion m s s.root ≡ s
unfolding balanced_deletion
deletion_root zero s = refl
deletion_root (suc m) s = rw (turn_root s, balanced_deletion)

pub deletion_done : (m : ℕ) (s : Links) (x : ℕ) {t : Links} → 0 < m → deletion_turn s x ≡ done t → balanced_deletion m s x ≡ t
unfolding balanced_deletion
deletion_done zero s x l e = absurd (omega arith)
deletion_done (suc m) s x l e = rw (e, balanced_deletion)

resumed_more : (m : ℕ) (t : Links) (y : ℕ) → resumed m (more t y) ≡ balanced_deletion m t y
unfolding resumed
resumed_more m t y = refl

deletion_resumed : (m : ℕ) (s : Links) (x : ℕ) → balanced_deletion (suc m) s x ≡ resumed m (deletion_turn s x)
unfolding balanced_deletion resumed
deletion_resumed m s x = go (deletion_turn s x) refl
  where
    go : (g : Turn) → deletion_turn s x ≡ g → balanced_deletion (suc m) s x ≡ resumed m (deletion_turn s x)
    go (done t) e = rw (e, balanced_deletion, resumed)
    go (more t y) e = rw (e, balanced_deletion, resumed)

-- The outer nephew is red: the end.
ending : {n h : ℕ} {s : Links} {τ β : Side} {c ca e : Colour} {C : Way} {t g a b d : Sided} {xp i j : ℕ} (m : ℕ)
    → Wants (suc h) e (frame τ c xp (fork τ black a i (fork β red b j d)) ∷ C) → RedBlack black h g → RedBlack ca h a → RedBlack black h b
    → RedBlack black h d
    → Site n s (frame τ c xp (fork τ black a i (fork β red b j d)) ∷ C) t
    → Mended n (resumed m (outer_red (toward τ) (toward (other τ)) s xp i)) (frame τ c xp (fork τ black a i (fork β red b j d)) ∷ C) t g
unfolding plug slots outer_red
ending {s = s} {τ} {β} {c} {C = C} {g = g} {a} {b} {d} {xp} {i} {j} m w sg sa sb sd h =
    let s2 = rotated (toward τ) (toward (other τ)) (capped (toward τ) (toward (other τ)) s xp i) xp in
    let z = crowned τ i w (dark sg sa) (dark sb sd) in
    carried (resumed_more m s2 s2.root ∙ deletion_root m s2)
    (record {
      path = frame τ black xp a ∷ (frame τ c i (fork β black b j d) ∷ C);
      height = z.0;
      site = outer_red_site (crown-is w) h;
      sound = z.1;
      same = λ v. slots-plug C (fork τ c (fork τ black v xp a) i (fork β black b j d)) (fork τ c v xp (fork τ black a i (fork β red b j d)))
          (around_spin τ (slots v) xp (slots a) i (around β (slots b) j (slots d)));
    })

outer : {n h : ℕ} {s : Links} {τ β : Side} {c ca e : Colour} {C : Way} {t g a b d : Sided} {xp i j : ℕ} (m x : ℕ)
    → Wants (suc h) e (frame τ c xp (fork τ black a i (fork β red b j d)) ∷ C) → RedBlack black h g → RedBlack ca h a → RedBlack black h b
    → RedBlack black h d
    → Site n s (frame τ c xp (fork τ black a i (fork β red b j d)) ∷ C) t
    → Mended n (resumed m (dark_sib (toward τ) (toward (other τ)) s x xp i)) (frame τ c xp (fork τ black a i (fork β red b j d)) ∷ C) t g
outer {s = s} {τ} {xp = xp} {i} {j} m x w sg sa sb sd h =
    let y = way_tree h.way in
    carried (ap (resumed m) (dark_sib_outer (toward τ) (toward (other τ)) s x xp i j (cell_of y).that (red_top (that_of y))))
    (ending m w sg sa sb sd h)

-- The inner one is red, and the outer one is not.
rewant : {h : ℕ} {τ : Side} {c e : Colour} {xp : ℕ} {y z : Sided} {C : Way} → Wants (suc h) e (frame τ c xp y ∷ C)
    → RedBlack black (suc h) z → Wants (suc h) e (frame τ c xp z ∷ C)
rewant (below w u) z = below w z
rewant (under w u) z = under w z

inner : {n h : ℕ} {s : Links} {τ ρ : Side} {c e : Colour} {C : Way} {g p q b t₁ t₂ : Sided} {x xp i j : ℕ} (m : ℕ)
    → Wants (suc h) e (frame τ c xp (fork τ black (fork (other τ) red p j q) i b) ∷ C) → RedBlack black h g → RedBlack black h p
    → RedBlack black h q → RedBlack black h b
    → Site n s (frame τ c xp (fork τ black (fork (other τ) red p j q) i b) ∷ C) (fork ρ black t₁ x t₂)
    → Mended n (resumed m (dark_sib (toward τ) (toward (other τ)) s x xp i))
    (frame τ c xp (fork τ black (fork (other τ) red p j q) i b) ∷ C)
    (fork ρ black t₁ x t₂) g
unfolding slots
inner {s = s} {τ} {c = c} {C = C} {p = p} {q} {b} {x = x} {xp} {i} {j} m w sg sp sq sb h =
    let y = way_tree h.way in
    let v = inner_red_site h in
    let f = inner_red-is s τ i j (cell_of y).this in
    let e =
    dark_sib_inner (toward τ) (toward (other τ)) s x xp i (top b) j j (cell_of y).that (dark_top h.cap sb (that_of y)) (cell_of y).this
    (red_top (this_of y))
    (rw f (cell_of v.tree).above) (rw f (way_cell v.way).that) in
    renamed (ap (resumed m) (e ∙ rw f))
    (resib τ c xp (fork τ black q j (fork (other τ) red b i p)) (fork τ black (fork (other τ) red p j q) i b) C
    (rw (around_turn τ (slots p) i (slots b), around_turn τ (slots q) j (slots p)) (sym (around_spin τ (slots q) j (slots p) i (slots b)))))
    (ending m (rewant w (dark sq (rosy sb sp))) sg sq sb sp v)

-- Neither is red: the sibling turns red. A red xp turns black at the next turn, and a black one is short itself.
flat : {n h : ℕ} {s : Links} {τ : Side} {c : Colour} {C : Way} {t a b : Sided} {xp i : ℕ} (m x : ℕ) → RedBlack black h a
    → RedBlack black h b
    → Site n s (frame τ c xp (fork τ black a i b) ∷ C) t
    → resumed m (dark_sib (toward τ) (toward (other τ)) s x xp i) ≡ balanced_deletion m (painted s i red) xp
flat {s = s} {τ} {a = a} {b} {xp} {i} m x sa sb h =
    let y = way_tree h.way in
    ap (resumed m) (dark_sib_dark (toward τ) (toward (other τ)) s x xp i (top b) (top a) (cell_of y).that (dark_top h.cap sb (that_of y))
    (cell_of y).this (dark_top h.cap sa (this_of y)))
    ∙ resumed_more m (painted s i red) xp

flat_red : {n h : ℕ} {s : Links} {τ : Side} {C : Way} {t g a b : Sided} {xp i : ℕ} (m x : ℕ) → 0 < m → Wants (suc h) black C
    → RedBlack black h g → RedBlack black h a → RedBlack black h b
    → Site n s (frame τ red xp (fork τ black a i b) ∷ C) t
    → Mended n (resumed m (dark_sib (toward τ) (toward (other τ)) s x xp i)) (frame τ red xp (fork τ black a i b) ∷ C) t g
unfolding plug slots
flat_red {s = s} {τ} {C} {a = a} {b} {xp} {i} m x l (below w u) sg sa sb h =
    let v = painting_that red (outward h) in
    let z = plug_black (below w u) (dark sg (rosy sa sb)) in
    carried (flat m x sa sb h ∙ deletion_done m (painted s i red) xp l (turn_red v))
    (record {
      path = frame τ black xp (fork τ red a i b) ∷ C;
      height = z.0;
      site = inward (painting black v);
      sound = z.1;
      same = λ v. slots-plug C (fork τ black v xp (fork τ red a i b)) (fork τ red v xp (fork τ black a i b)) refl;
    })

-- What the loop does from any place with the budget m.
record Restores (m : ℕ) : Type 0 where
  mend : {n : ℕ} {s : Links} {σ : Side} {C : Way} {h : ℕ} {c : Colour} {a b g : Sided} {x : ℕ} → Wants (suc h) c C → RedBlack black h g
      → Site n s C (fork σ black a x b) → length C < m → Mended n (balanced_deletion m s x) C (fork σ black a x b) g

flat_black : {n h : ℕ} {s : Links} {τ : Side} {c : Colour} {C : Way} {t g a b : Sided} {xp i : ℕ} (m x : ℕ) → Restores m → length C < m
    → Wants (suc (suc h)) c C → RedBlack black h g → RedBlack black h a → RedBlack black h b
    → Site n s (frame τ black xp (fork τ black a i b) ∷ C) t
    → Mended n (resumed m (dark_sib (toward τ) (toward (other τ)) s x xp i)) (frame τ black xp (fork τ black a i b) ∷ C) t g
unfolding plug slots
flat_black {s = s} {τ} {C = C} {a = a} {b} {xp} {i} m x again l w sg sa sb h =
    let v = painting_that red (outward h) in
    let o = again.mend w (dark {σ = τ} {i = xp} sg (rosy {σ = τ} {i = i} sa sb)) v l in
    carried (flat m x sa sb h)
    (record {
      path = frame τ black xp (fork τ red a i b) ∷ o.path;
      height = o.height;
      site = inward o.site;
      sound = o.sound;
      same = λ v. o.same (fork τ black v xp (fork τ red a i b))
          ∙ slots-plug C (fork τ black v xp (fork τ red a i b)) (fork τ black v xp (fork τ black a i b)) refl;
    })

-- The inner nephew by either name.
turn_nephew : {n : ℕ} {s : Links} {τ ρ α : Side} {c d e : Colour} {xp i j : ℕ} {t p q b : Sided} {C : Way}
    → Site n s (frame τ c xp (fork ρ d (fork α e p j q) i b) ∷ C) t → Site n s (frame τ c xp (fork ρ d (fork (other α) e q j p) i b) ∷ C) t
turn_nephew h = over' (turn_this (over h))

nephew_slots : (ρ : Side) (d e : Colour) (α : Side) (p : Sided) (j : ℕ) (q : Sided) (i : ℕ) (b : Sided)
    → slots (fork ρ d (fork (other α) e q j p) i b) ≡ slots (fork ρ d (fork α e p j q) i b)
unfolding slots
nephew_slots ρ d e α p j q i b = rw (around_turn α (slots p) j (slots q))

inner_same : {n h : ℕ} {s : Links} {τ ρ : Side} {c e : Colour} {C : Way} {g p q b t₁ t₂ : Sided} {x xp i j : ℕ} (m : ℕ)
    → Wants (suc h) e (frame τ c xp (fork τ black (fork τ red p j q) i b) ∷ C) → RedBlack black h g → RedBlack black h p
    → RedBlack black h q → RedBlack black h b
    → Site n s (frame τ c xp (fork τ black (fork τ red p j q) i b) ∷ C) (fork ρ black t₁ x t₂)
    → Mended n (resumed m (dark_sib (toward τ) (toward (other τ)) s x xp i)) (frame τ c xp (fork τ black (fork τ red p j q) i b) ∷ C)
    (fork ρ black t₁ x t₂) g
inner_same {τ = τ} {c = c} {C = C} {p = p} {q} {b} {xp = xp} {i} {j} m w sg sp sq sb h =
    renamed refl
    (resib τ c xp (fork τ black (fork (other τ) red q j p) i b) (fork τ black (fork τ red p j q) i b) C
    (nephew_slots τ black red τ p j q i b))
    (inner m (rewant w (dark (rosy sq sp) sb)) sg sq sp sb (turn_nephew h))

inner_any : {n h : ℕ} {s : Links} {ρ : Side} {c e : Colour} {C : Way} {g p q b t₁ t₂ : Sided} {x xp i j : ℕ} (τ α : Side) (m : ℕ)
    → Wants (suc h) e (frame τ c xp (fork τ black (fork α red p j q) i b) ∷ C) → RedBlack black h g → RedBlack black h p
    → RedBlack black h q → RedBlack black h b
    → Site n s (frame τ c xp (fork τ black (fork α red p j q) i b) ∷ C) (fork ρ black t₁ x t₂)
    → Mended n (resumed m (dark_sib (toward τ) (toward (other τ)) s x xp i)) (frame τ c xp (fork τ black (fork α red p j q) i b) ∷ C)
    (fork ρ black t₁ x t₂) g
inner_any leftward rightward m w sg sp sq sb h = inner m w sg sp sq sb h
inner_any rightward leftward m w sg sp sq sb h = inner m w sg sp sq sb h
inner_any leftward leftward m w sg sp sq sb h = inner_same m w sg sp sq sb h
inner_any rightward rightward m w sg sp sq sb h = inner_same m w sg sp sq sb h

-- The sibling is black.
dimmed : {n h : ℕ} {s : Links} {τ ρ : Side} {c ca e : Colour} {C : Way} {g a b t₁ t₂ : Sided} {x xp i : ℕ} (m : ℕ)
    → Wants (suc h) e (frame τ c xp (fork τ black a i b) ∷ C) → RedBlack black h g → RedBlack ca h a → RedBlack black h b
    → Site n s (frame τ c xp (fork τ black a i b) ∷ C) (fork ρ black t₁ x t₂)
    → (RedBlack black h a → RedBlack black h b
    → Mended n (resumed m (dark_sib (toward τ) (toward (other τ)) s x xp i)) (frame τ c xp (fork τ black a i b) ∷ C)
    (fork ρ black t₁ x t₂) g)
    → Mended n (resumed m (dark_sib (toward τ) (toward (other τ)) s x xp i)) (frame τ c xp (fork τ black a i b) ∷ C)
    (fork ρ black t₁ x t₂) g
dimmed m w sg void sb h k = k void sb
dimmed m w sg (dark u v) sb h k = k (dark u v) sb
dimmed m w sg (rosy u v) sb h k = inner_any _ _ m w sg u v sb h

eases : {n h : ℕ} {s : Links} {τ ρ : Side} {c ca cb e : Colour} {C : Way} {g a b t₁ t₂ : Sided} {x xp i : ℕ} (m : ℕ)
    → Wants (suc h) e (frame τ c xp (fork τ black a i b) ∷ C) → RedBlack black h g → RedBlack ca h a → RedBlack cb h b
    → Site n s (frame τ c xp (fork τ black a i b) ∷ C) (fork ρ black t₁ x t₂)
    → (RedBlack black h a → RedBlack black h b
    → Mended n (resumed m (dark_sib (toward τ) (toward (other τ)) s x xp i)) (frame τ c xp (fork τ black a i b) ∷ C)
    (fork ρ black t₁ x t₂) g)
    → Mended n (resumed m (dark_sib (toward τ) (toward (other τ)) s x xp i)) (frame τ c xp (fork τ black a i b) ∷ C)
    (fork ρ black t₁ x t₂) g
eases m w sg sa void h k = dimmed m w sg sa void h k
eases m w sg sa (dark u v) h k = dimmed m w sg sa (dark u v) h k
eases {x = x} m w sg sa (rosy u v) h k = outer m x w sg sa u v h

-- Under a red xp, and under a black one.
eases_red : {n h : ℕ} {s : Links} {τ ρ : Side} {ca cb : Colour} {C : Way} {g a b t₁ t₂ : Sided} {x xp i : ℕ} (m : ℕ) → 0 < m
    → Wants (suc h) black C → RedBlack black h g → RedBlack ca h a → RedBlack cb h b
    → Site n s (frame τ red xp (fork τ black a i b) ∷ C) (fork ρ black t₁ x t₂)
    → Mended n (resumed m (dark_sib (toward τ) (toward (other τ)) s x xp i)) (frame τ red xp (fork τ black a i b) ∷ C)
    (fork ρ black t₁ x t₂) g
eases_red {x = x} m l w sg sa sb h = eases m (under w (dark sa sb)) sg sa sb h (λ ra rb. flat_red m x l w sg ra rb h)

eases_black : {n h : ℕ} {s : Links} {τ ρ : Side} {c ca cb : Colour} {C : Way} {g a b t₁ t₂ : Sided} {x xp i : ℕ} (m : ℕ) → Restores m
    → length C < m → Wants (suc (suc h)) c C → RedBlack black h g → RedBlack ca h a → RedBlack cb h b
    → Site n s (frame τ black xp (fork τ black a i b) ∷ C) (fork ρ black t₁ x t₂)
    → Mended n (resumed m (dark_sib (toward τ) (toward (other τ)) s x xp i)) (frame τ black xp (fork τ black a i b) ∷ C)
    (fork ρ black t₁ x t₂) g
eases_black {x = x} m again l w sg sa sb h = eases m (below w (dark sa sb)) sg sa sb h (λ ra rb. flat_black m x again l w sg ra rb h)

-- The sibling by either name.
faced_other : {n : ℕ} {s S : Links} {τ : Side} {c d : Colour} {C : Way} {t g a b : Sided} {xp i : ℕ}
    → Site n s (frame τ c xp (fork (other τ) d a i b) ∷ C) t
    → (Site n s (frame τ c xp (fork τ d b i a) ∷ C) t → Mended n S (frame τ c xp (fork τ d b i a) ∷ C) t g)
    → Mended n S (frame τ c xp (fork (other τ) d a i b) ∷ C) t g
unfolding slots
faced_other {τ = τ} {c} {d} {C} {a = a} {b} {xp} {i} h k =
    renamed refl (resib τ c xp (fork τ d b i a) (fork (other τ) d a i b) C (sym (around_turn τ (slots b) i (slots a))))
    (k (over' (turn' (over h))))

faced : {n : ℕ} {s S : Links} {c d : Colour} {C : Way} {t g a b : Sided} {xp i : ℕ} (τ ω : Side)
    → Site n s (frame τ c xp (fork ω d a i b) ∷ C) t
    → (Site n s (frame τ c xp (fork τ d a i b) ∷ C) t → Mended n S (frame τ c xp (fork τ d a i b) ∷ C) t g)
    → (Site n s (frame τ c xp (fork τ d b i a) ∷ C) t → Mended n S (frame τ c xp (fork τ d b i a) ∷ C) t g)
    → Mended n S (frame τ c xp (fork ω d a i b) ∷ C) t g
faced leftward leftward h f k = f h
faced rightward rightward h f k = f h
faced leftward rightward h f k = faced_other h k
faced rightward leftward h f k = faced_other h k

-- A turn where the sibling is black.
sinks_dark : {n h : ℕ} {s : Links} {τ : Side} {c ca cb : Colour} {C : Way} {a b t : Sided} {xp i : ℕ} (m x : ℕ) → RedBlack ca h a
    → RedBlack cb h b → Site n s (frame τ c xp (fork τ black a i b) ∷ C) t
    → resumed m (by_sib (toward τ) (toward (other τ)) s x xp) ≡ resumed m (dark_sib (toward τ) (toward (other τ)) s x xp i)
sinks_dark {s = s} {τ} {xp = xp} {i} m x sa sb h =
    ap (resumed m)
    (by_sib_dark (toward τ) (toward (other τ)) s x xp i (way_cell h.way).that (dark_top h.cap (dark sa sb) (way_tree h.way)))

sinks_black : {n h : ℕ} {s : Links} {τ ω ρ : Side} {c ca cb : Colour} {C : Way} {g a b t₁ t₂ : Sided} {x xp i : ℕ} (m : ℕ) → Restores m
    → length C < m → Wants (suc (suc h)) c C → RedBlack black h g → RedBlack ca h a → RedBlack cb h b
    → Site n s (frame τ black xp (fork ω black a i b) ∷ C) (fork ρ black t₁ x t₂)
    → Mended n (resumed m (by_sib (toward τ) (toward (other τ)) s x xp)) (frame τ black xp (fork ω black a i b) ∷ C)
    (fork ρ black t₁ x t₂) g
sinks_black {τ = τ} {ω} {x = x} m again l w sg sa sb h =
    faced τ ω h (λ k. carried (sinks_dark m x sa sb k) (eases_black m again l w sg sa sb k))
    (λ k. carried (sinks_dark m x sb sa k) (eases_black m again l w sg sb sa k))

sinks_under : {n h : ℕ} {s : Links} {τ ω ρ : Side} {ca cb : Colour} {C : Way} {g a b t₁ t₂ : Sided} {x xp i : ℕ} (m : ℕ) → 0 < m
    → Wants (suc h) black C → RedBlack black h g → RedBlack ca h a → RedBlack cb h b
    → Site n s (frame τ red xp (fork ω black a i b) ∷ C) (fork ρ black t₁ x t₂)
    → Mended n (resumed m (by_sib (toward τ) (toward (other τ)) s x xp)) (frame τ red xp (fork ω black a i b) ∷ C) (fork ρ black t₁ x t₂) g
sinks_under {τ = τ} {ω} {x = x} m l w sg sa sb h =
    faced τ ω h (λ k. carried (sinks_dark m x sa sb k) (eases_red m l w sg sa sb k))
    (λ k. carried (sinks_dark m x sb sa k) (eases_red m l w sg sb sa k))

-- A turn where it is red: it goes up, and the new sibling is black under a red xp.
reds : {n h : ℕ} {s : Links} {τ ρ : Side} {c : Colour} {C : Way} {g a b t₁ t₂ : Sided} {x xp i : ℕ} (m : ℕ) → 0 < m
    → Wants (suc (suc h)) c C → RedBlack black h g → RedBlack black (suc h) a → RedBlack black (suc h) b
    → Site n s (frame τ black xp (fork τ red a i b) ∷ C) (fork ρ black t₁ x t₂)
    → Mended n (resumed m (by_sib (toward τ) (toward (other τ)) s x xp)) (frame τ black xp (fork τ red a i b) ∷ C) (fork ρ black t₁ x t₂) g
unfolding plug slots
reds {s = s} {τ} {C = C} {b = b} {x = x} {xp} {i} m l w sg (dark {σ = α} {a = a₁} {b = a₂} {i = j} u v) sb h =
    let q = by_sib_site h in
    let e =
    by_sib_red (toward τ) (toward (other τ)) s x xp i j (way_cell h.way).that (red_top (way_tree h.way)) (cell_of q.tree).above
    (way_cell q.way).that in
    renamed (ap (resumed m) e)
    (λ v. slots-plug C (fork τ black (fork τ red v xp (fork α black a₁ j a₂)) i b)
    (fork τ black v xp (fork τ red (fork α black a₁ j a₂) i b)) (around_spin τ (slots v) xp (around α (slots a₁) j (slots a₂)) i (slots b)))
    (faced τ α q (λ k. eases_red m l (below w sb) sg u v k) (λ k. eases_red m l (below w sb) sg v u k))

sinks_red : {n h : ℕ} {s : Links} {τ ω ρ : Side} {c : Colour} {C : Way} {g a b t₁ t₂ : Sided} {x xp i : ℕ} (m : ℕ) → 0 < m
    → Wants (suc (suc h)) c C → RedBlack black h g → RedBlack black (suc h) a → RedBlack black (suc h) b
    → Site n s (frame τ black xp (fork ω red a i b) ∷ C) (fork ρ black t₁ x t₂)
    → Mended n (resumed m (by_sib (toward τ) (toward (other τ)) s x xp)) (frame τ black xp (fork ω red a i b) ∷ C) (fork ρ black t₁ x t₂) g
sinks_red {τ = τ} {ω} m l w sg sa sb h = faced τ ω h (λ k. reds m l w sg sa sb k) (λ k. reds m l w sg sb sa k)

sinks : {n : ℕ} {s : Links} {τ ρ : Side} {c : Colour} {y : Sided} {C : Way} {t₁ t₂ : Sided} {x xp : ℕ} (m : ℕ)
    → Site n s (frame τ c xp y ∷ C) (fork ρ black t₁ x t₂)
    → balanced_deletion (suc m) s x ≡ resumed m (by_sib (toward τ) (toward (other τ)) s x xp)
sinks {s = s} {x = x} m h = deletion_resumed m s x ∙ ap (resumed m) (turn_by_sib h)

rises : (m : ℕ) → Restores m → Restores (suc m)
unfolding plug
rises m again = record { mend = go }
  where
    go : {n : ℕ} {s : Links} {σ : Side} {C : Way} {h : ℕ} {c : Colour} {a b g : Sided} {x : ℕ} → Wants (suc h) c C → RedBlack black h g
        → Site n s C (fork σ black a x b) → length C < suc m → Mended n (balanced_deletion (suc m) s x) C (fork σ black a x b) g
    go {s = s} {h = h} {x = x} atop sg k l =
        elim k.way [
          | home e ↦ carried (ap (balanced_deletion (suc m) s) (sym e) ∙ deletion_root (suc m) s)
              (record { path = []; height = h; site = k; sound = sg; same = λ v. refl })
        ]
    go (below w (dark u v)) sg k l = carried (sinks m k) (sinks_black m again (omega arith) w sg u v k)
    go (below w (rosy u v)) sg k l = carried (sinks m k) (sinks_red m (omega arith) w sg u v k)
    go (under w (dark u v)) sg k l = carried (sinks m k) (sinks_under m (omega arith) w sg u v k)

restores : (m : ℕ) → Restores m
restores zero = record { mend = λ w sg k l. absurd (omega arith) }
restores (suc m) = rises m (restores m)

-- balance_deletion: the black slot x in view is one black short and counts as g. The way is mended.
pub deletion : {n : ℕ} {s : Links} {σ : Side} {C : Way} {h : ℕ} {c : Colour} {a b g : Sided} {x : ℕ} (m : ℕ) → Wants (suc h) c C
    → RedBlack black h g → Site n s C (fork σ black a x b) → length C < m → Mended n (balanced_deletion m s x) C (fork σ black a x b) g
deletion m w sg h l = (restores m).mend w sg h l
