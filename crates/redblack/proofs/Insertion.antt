-- Every turn of the loop is a move of the view in a tree that is red-black but for the red slot in view under a red parent.
-- The case is read off the derivation of what the way wants, and the view goes up two slots or the loop ends.
use mathlib.Core.Path.{◌≡◌, refl, ◌∙◌, sym}
use mathlib.Core.Logic.{◌≢◌}
use mathlib.Core.List.{List, [], ◌∷◌}
use mathlib.Core.Bool.{true, false}
use Prim.Native.Nat.{ℕ, suc, zero, ◌<◌}
use native.Mathlib.Omega.{arith}
use lib.ListN.{length}
use borrow.Author.Tests.{eq-eqb, ne_eqb}
use Rattle.slots.specs.Words.{null, state, parent, Colour, code, Side, other, toward, black, red, leftward, rightward}
use Rattle.slots.proofs.Laws.{length-write}
use Rattle.redblack.specs.Links.{Links, read, rooted, painted, is_red, Turn, done, more}
use Rattle.redblack.specs.Sided.{Sided, Way, top, plug, around, slots, count, count_way, Cap, Site, bare, fork, frame}
use Rattle.redblack.specs.Balance.{RedBlack, Wants, void, dark, rosy, atop, below, under}
use Rattle.redblack.specs.Rotate.{rotated}
use Rattle.redblack.specs.Insertion.{raised, straightened, lifted, insertion_turn, insertion_turns, balanced_insertion}
use Rattle.redblack.proofs.Ends.{Outcome}
use Rattle.redblack.proofs.Reading.{reads, roomy_cap, solid}
use Rattle.redblack.proofs.Frames.{hit_same, apart, count-top, cell_of, way_cell, way_tree, way_on_lem, outward, inward, turn, turn'}
use Rattle.redblack.proofs.Frames.{whole}
use Rattle.redblack.proofs.Paint.{Repaints, three-painted, painting, painting_this, painting_that, turn_this, rooting}
use Rattle.redblack.proofs.Order.{slots-plug, around_turn, around_spin, slots_turn}
use Rattle.redblack.proofs.Looks.{pick_side, red_top, dark_top}
use Rattle.redblack.proofs.Parts.{crown_black, plug_any}
use Rattle.redblack.proofs.Rotation.{rotation, rotation'}

-- What a turn reads: x is the root, or its parent is black, or there is a grandparent.
turn_root : {n : ℕ} {s : Links} {σ : Side} {c : Colour} {a b : Sided} {x : ℕ} → Site n s [] (fork σ c a x b)
    → insertion_turn s x ≡ done (rooted (painted s x black) x)
unfolding insertion_turn
turn_root h = rw (cell_of h.tree).above

turn_calm : {n : ℕ} {s : Links} {σ τ : Side} {c : Colour} {a b y : Sided} {x i : ℕ} {C : Way}
    → Site n s (frame τ black i y ∷ C) (fork σ c a x b) → insertion_turn s x ≡ done s
unfolding insertion_turn
turn_calm h = let k = way_cell h.way in rw ((cell_of h.tree).above, solid k.inside h.cap.small, k.hued)

turn_up : {n : ℕ} {s : Links} {σ τ υ : Side} {c d : Colour} {a b y u : Sided} {x xp xpp : ℕ} {C : Way}
    → Site n s (frame τ red xp y ∷ (frame υ d xpp u ∷ C)) (fork σ c a x b)
    → insertion_turn s x ≡ lifted (toward υ) (toward (other υ)) s x xp xpp
unfolding insertion_turn count count_way
turn_up {s = s} {υ = υ} {u = u} {x = x} {xp = xp} {xpp = xpp} h =
    let k = way_cell h.way in
    let m = way_cell (way_on_lem h.way) in
    let ne : xp ≢ top u = apart (omega (arith, h.once xp, hit_same xp, count-top xp u (omega (arith, k.inside, h.cap.small)))) in
    rw ((cell_of h.tree).above, k.above, solid k.inside h.cap.small, k.hued, solid m.inside h.cap.small)
    (pick_side s υ xp xpp (λ (f g : ℕ). lifted f g s x xp xpp) m.this (λ e. ne (sym e ∙ m.that)))

-- The links that a turn leaves.
abbrev links_of : Turn → Links
links_of (done t) = t
links_of (more t y) = t

-- A red uncle u and the parent are black after, the grandparent is red, and no other word is written.
record Flushes (s t : Links) (u xp xpp : ℕ) : Type 0 where
  paints : Repaints s t u xp xpp
  uncle : read t u state ≡ code black
  lower : read t xp state ≡ code black
  higher : read t xpp state ≡ code red

-- The uncle is red, or it is not; x stands on the outer side of xp, or on the inner.
lifted_red : (near far : ℕ) (s : Links) (x xp xpp u : ℕ) → read s xpp far ≡ u → is_red s u ≡ true
    → lifted near far s x xp xpp ≡ more (links_of (lifted near far s x xp xpp)) xpp
unfolding lifted
lifted_red near far s x xp xpp u e f = rw (e, f)

flushes : {n : ℕ} (near far : ℕ) (s : Links) (x xp xpp u : ℕ) → Cap n s → u < n → xp < n → xpp < n → u ≢ xp → u ≢ xpp → xp ≢ xpp
    → read s xpp far ≡ u → is_red s u ≡ true → Flushes s (links_of (lifted near far s x xp xpp)) u xp xpp
unfolding lifted
flushes near far s x xp xpp u k wu wp wg a b c e f =
    let a' : xp ≢ u = λ z. a (sym z) in
    let b' : xpp ≢ u = λ z. b (sym z) in
    let c' : xpp ≢ xp = λ z. c (sym z) in
    rw (e, f)
    (record {
      paints = record { long = simp length-write; root = refl; links = λ l g m z. simp reads; states = λ l d d' d''. simp reads };
      uncle = simp (reads, roomy_cap u k wu);
      lower = simp (reads, roomy_cap xp k wp);
      higher = simp (reads, roomy_cap xpp k wg);
    })

lifted_dark : (near far : ℕ) (s : Links) (x xp xpp u : ℕ) → read s xpp far ≡ u → is_red s u ≡ false
    → lifted near far s x xp xpp ≡ straightened near far s x xp xpp
unfolding lifted
lifted_dark near far s x xp xpp u e f = rw (e, f)

straightened_outer : (near far : ℕ) (s : Links) (x xp xpp y : ℕ) → read s xp far ≡ y → x ≢ y
    → straightened near far s x xp xpp ≡ more (raised near far s xp xpp) x
unfolding straightened
straightened_outer near far s x xp xpp y e f = rw (e, ne_eqb x y f)

straightened_inner : (near far : ℕ) (s : Links) (x xp xpp : ℕ) → read s xp far ≡ x → read (rotated near far s xp) xp parent ≡ x
    → read (rotated near far s xp) x parent ≡ xpp
    → straightened near far s x xp xpp ≡ more (raised near far (rotated near far s xp) x xpp) xp
unfolding straightened
straightened_inner near far s x xp xpp e f g = rw (e, eq-eqb x x refl, f, g)

-- x, xp and xpp in a line: xp goes up and is black, xpp comes down and is red.
raised_site : {n : ℕ} {s : Links} {τ : Side} {C : Way} {t y u : Sided} {xp xpp : ℕ}
    → Site n s (frame τ red xp y ∷ (frame τ black xpp u ∷ C)) t
    → Site n (raised (toward τ) (toward (other τ)) s xp xpp) (frame τ black xp (fork (other τ) red u xpp y) ∷ C) t
unfolding raised
raised_site {τ = τ} {C} h =
    let v = rotation' τ (turn (turn_this (painting red (painting_this black (outward (outward h)))))) in
    inward (turn' (rw (crown_black C) at v))

raised-slots : (τ : Side) (C : Way) (t y u : Sided) (xp xpp : ℕ)
    → slots (plug (frame τ black xp (fork (other τ) red u xpp y) ∷ C) t) ≡ slots (plug (frame τ red xp y ∷ (frame τ black xpp u ∷ C)) t)
unfolding plug slots
raised-slots τ C t y u xp xpp =
    slots-plug C (fork τ black t xp (fork (other τ) red u xpp y)) (fork τ black (fork τ red t xp y) xpp u)
    (rw (around_turn τ (slots y) xpp (slots u)) (sym (around_spin τ (slots t) xp (slots y) xpp (slots u))))

-- x on the inner side: xp comes down to x's place.
bent_site : {n : ℕ} {s : Links} {τ : Side} {C : Way} {a b y u : Sided} {x xp xpp : ℕ}
    → Site n s (frame (other τ) red xp y ∷ (frame τ black xpp u ∷ C)) (fork τ red a x b)
    → Site n (rotated (toward τ) (toward (other τ)) s xp) (frame τ red x b ∷ (frame τ black xpp u ∷ C)) (fork τ red y xp a)
bent_site h = inward (rotation (turn' (outward h)))

bent_slots : (τ : Side) (C : Way) (a b y u : Sided) (x xp xpp : ℕ)
    → slots (plug (frame τ red x b ∷ (frame τ black xpp u ∷ C)) (fork τ red y xp a))
    ≡ slots (plug (frame (other τ) red xp y ∷ (frame τ black xpp u ∷ C)) (fork τ red a x b))
unfolding plug slots
bent_slots τ C a b y u x xp xpp =
    slots-plug (frame τ black xpp u ∷ C) (fork τ red (fork τ red y xp a) x b) (fork (other τ) red (fork τ red a x b) xp y)
    (around_spin τ (slots y) xp (slots a) x (slots b) ∙ sym (around_turn τ (slots y) xp (around τ (slots a) x (slots b))))

-- What the loop does from any place with the budget m.
record Mends (m : ℕ) : Type 0 where
  mend : {n : ℕ} {s : Links} {σ : Side} {C : Way} {h : ℕ} {c : Colour} {a b : Sided} {x : ℕ} → Wants h c C → RedBlack black h a
      → RedBlack black h b → Site n s C (fork σ red a x b) → length C < m
      → Outcome n (insertion_turns m s x) (slots (plug C (fork σ red a x b)))

turns_done : (m : ℕ) (s : Links) (x : ℕ) {t : Links} → insertion_turn s x ≡ done t → insertion_turns (suc m) s x ≡ t
unfolding insertion_turns
turns_done m s x e = rw (e, insertion_turns)

turns_more : (m : ℕ) (s : Links) (x : ℕ) {t : Links} {y : ℕ} → insertion_turn s x ≡ more t y
    → insertion_turns (suc m) s x ≡ insertion_turns m t y
unfolding insertion_turns
turns_more m s x e = rw (e, insertion_turns)

-- The same outcome of links that are the same, with the slots written another way.
renamed : {n : ℕ} {s t : Links} {l k : List ℕ} → s ≡ t → l ≡ k → Outcome n t l → Outcome n s k
renamed e f o = record { tree = o.tree; height = o.height; site = rw e o.site; sound = o.sound; same = o.same ∙ f }

-- The uncle is black, and x, xp and xpp stand in a line: one rotation.
line : {n m : ℕ} {s : Links} {σ τ : Side} {C : Way} {h : ℕ} {c : Colour} {a b y u : Sided} {x xp xpp : ℕ} → Mends m → Wants (suc h) c C
    → RedBlack black h u → RedBlack black h y → RedBlack black h a → RedBlack black h b
    → Site n s (frame τ red xp y ∷ (frame τ black xpp u ∷ C)) (fork σ red a x b) → suc (length C) < m
    → Outcome n (insertion_turns m (raised (toward τ) (toward (other τ)) s xp xpp) x)
    (slots (plug (frame τ red xp y ∷ (frame τ black xpp u ∷ C)) (fork σ red a x b)))
line {σ = σ} {τ} {C} {a = a} {b} {y} {u} {x} {xp} {xpp} again w su sy sa sb h l =
    renamed refl (raised-slots τ C (fork σ red a x b) y u xp xpp) (again.mend (below w (rosy su sy)) sa sb (raised_site h) l)

line_turn : {n h : ℕ} {s : Links} {σ τ : Side} {C : Way} {a b y u : Sided} {x xp xpp : ℕ} → RedBlack black h u
    → Site n s (frame τ red xp y ∷ (frame τ black xpp u ∷ C)) (fork σ red a x b)
    → insertion_turn s x ≡ more (raised (toward τ) (toward (other τ)) s xp xpp) x
unfolding count count_way
line_turn {s = s} {τ = τ} {y = y} {u} {x} {xp} {xpp} su h =
    let k = way_cell h.way in
    let m = way_cell (way_on_lem h.way) in
    let lx : x < null = omega (arith, (cell_of h.tree).inside, h.cap.small) in
    turn_up h ∙ lifted_dark (toward τ) (toward (other τ)) s x xp xpp (top u) m.that (dark_top h.cap su (way_tree (way_on_lem h.way)))
    ∙ straightened_outer (toward τ) (toward (other τ)) s x xp xpp (top y) k.that
    (apart (omega (arith, h.once x, hit_same x, count-top x y lx)))

-- x on the inner side: two.
bend : {n m : ℕ} {s : Links} {τ : Side} {C : Way} {h : ℕ} {c : Colour} {a b y u : Sided} {x xp xpp : ℕ} → Mends m → Wants (suc h) c C
    → RedBlack black h u → RedBlack black h y → RedBlack black h a → RedBlack black h b
    → Site n s (frame (other τ) red xp y ∷ (frame τ black xpp u ∷ C)) (fork τ red a x b) → suc (length C) < m
    → Outcome n (insertion_turns m (raised (toward τ) (toward (other τ)) (rotated (toward τ) (toward (other τ)) s xp) x xpp) xp)
    (slots (plug (frame (other τ) red xp y ∷ (frame τ black xpp u ∷ C)) (fork τ red a x b)))
bend {τ = τ} {C} {a = a} {b} {y} {u} {x} {xp} {xpp} again w su sy sa sb h l =
    renamed refl (bent_slots τ C a b y u x xp xpp) (line again w su sb sy sa (bent_site h) l)

bend_turn : {n h : ℕ} {s : Links} {τ : Side} {C : Way} {a b y u : Sided} {x xp xpp : ℕ} → RedBlack black h u
    → Site n s (frame (other τ) red xp y ∷ (frame τ black xpp u ∷ C)) (fork τ red a x b)
    → insertion_turn s x ≡ more (raised (toward τ) (toward (other τ)) (rotated (toward τ) (toward (other τ)) s xp) x xpp) xp
bend_turn {s = s} {τ = τ} {u = u} {x} {xp} {xpp} su h =
    let v = bent_site h in
    turn_up h
    ∙ lifted_dark (toward τ) (toward (other τ)) s x xp xpp (top u) (way_cell (way_on_lem h.way)).that
    (dark_top h.cap su (way_tree (way_on_lem h.way)))
    ∙ straightened_inner (toward τ) (toward (other τ)) s x xp xpp (way_cell h.way).this (cell_of v.tree).above
    (way_cell v.way).above

-- The same with the turn that leads there.
lined : {n m : ℕ} {s : Links} {σ τ : Side} {C : Way} {h : ℕ} {c : Colour} {a b y u : Sided} {x xp xpp : ℕ} → Mends m → Wants (suc h) c C
    → RedBlack black h u → RedBlack black h y → RedBlack black h a → RedBlack black h b
    → Site n s (frame τ red xp y ∷ (frame τ black xpp u ∷ C)) (fork σ red a x b) → suc (length C) < m
    → Outcome n (insertion_turns (suc m) s x) (slots (plug (frame τ red xp y ∷ (frame τ black xpp u ∷ C)) (fork σ red a x b)))
lined {m = m} {s} {x = x} again w su sy sa sb h l = renamed (turns_more m s x (line_turn su h)) refl (line again w su sy sa sb h l)

bent : {n m : ℕ} {s : Links} {τ : Side} {C : Way} {h : ℕ} {c : Colour} {a b y u : Sided} {x xp xpp : ℕ} → Mends m → Wants (suc h) c C
    → RedBlack black h u → RedBlack black h y → RedBlack black h a → RedBlack black h b
    → Site n s (frame (other τ) red xp y ∷ (frame τ black xpp u ∷ C)) (fork τ red a x b) → suc (length C) < m
    → Outcome n (insertion_turns (suc m) s x) (slots (plug (frame (other τ) red xp y ∷ (frame τ black xpp u ∷ C)) (fork τ red a x b)))
bent {m = m} {s} {x = x} again w su sy sa sb h l = renamed (turns_more m s x (bend_turn su h)) refl (bend again w su sy sa sb h l)

bent_other : {n m : ℕ} {s : Links} (τ : Side) {C : Way} {h : ℕ} {c : Colour} {a b y u : Sided} {x xp xpp : ℕ} → Mends m → Wants (suc h) c C
    → RedBlack black h u → RedBlack black h y → RedBlack black h a → RedBlack black h b
    → Site n s (frame (other τ) red xp y ∷ (frame τ black xpp u ∷ C)) (fork (other τ) red a x b) → suc (length C) < m
    → Outcome n (insertion_turns (suc m) s x)
    (slots (plug (frame (other τ) red xp y ∷ (frame τ black xpp u ∷ C)) (fork (other τ) red a x b)))
bent_other τ {a = a} {b} {x = x} again w su sy sa sb h l =
    renamed refl (sym (slots_turn τ _ red b x a)) (bent again w su sy sb sa (turn' h) l)

-- The uncle is black: xpp stands above xp on the side υ, and x below it on the side τ.
dim : {n m : ℕ} {s : Links} (σ τ υ : Side) {C : Way} {h : ℕ} {c : Colour} {a b y u : Sided} {x xp xpp : ℕ} → Mends m → Wants (suc h) c C
    → RedBlack black h u → RedBlack black h y → RedBlack black h a → RedBlack black h b
    → Site n s (frame τ red xp y ∷ (frame υ black xpp u ∷ C)) (fork σ red a x b) → suc (length C) < m
    → Outcome n (insertion_turns (suc m) s x) (slots (plug (frame τ red xp y ∷ (frame υ black xpp u ∷ C)) (fork σ red a x b)))
dim σ leftward leftward again w su sy sa sb h l = lined again w su sy sa sb h l
dim σ rightward rightward again w su sy sa sb h l = lined again w su sy sa sb h l
dim leftward rightward leftward again w su sy sa sb h l = bent again w su sy sa sb h l
dim rightward leftward rightward again w su sy sa sb h l = bent again w su sy sa sb h l
dim rightward rightward leftward again w su sy sa sb h l = bent_other leftward again w su sy sa sb h l
dim leftward leftward rightward again w su sy sa sb h l = bent_other rightward again w su sy sa sb h l

-- The uncle is red: the black comes down to xp and the uncle, and the loop goes on at xpp.
flushed : {n m : ℕ} {s : Links} {σ τ υ ω : Side} {C : Way} {h : ℕ} {c : Colour} {a b y d e : Sided} {x xp xpp u : ℕ} → Mends m
    → Wants (suc h) c C → RedBlack black h d → RedBlack black h e → RedBlack black h y → RedBlack black h a → RedBlack black h b
    → Site n s (frame τ red xp y ∷ (frame υ black xpp (fork ω red d u e) ∷ C)) (fork σ red a x b) → length C < m
    → Outcome n (insertion_turns (suc m) s x)
    (slots (plug (frame τ red xp y ∷ (frame υ black xpp (fork ω red d u e) ∷ C)) (fork σ red a x b)))
unfolding slots plug count count_way
flushed {m = m} {s} {σ} {τ} {υ} {ω} {C} {a = a} {b} {y} {d} {e} {x} {xp} {xpp} {u} again w sd se sy sa sb h l =
    let wp = way_cell h.way in
    let wg = way_cell (way_on_lem h.way) in
    let z = way_tree (way_on_lem h.way) in
    let pu : u ≢ xp = apart (omega (arith, h.once u, hit_same u)) in
    let gu : u ≢ xpp = apart (omega (arith, h.once u, hit_same u)) in
    let gp : xp ≢ xpp = apart (omega (arith, h.once xp, hit_same xp)) in
    let wu = (cell_of z).inside in
    let f = flushes (toward υ) (toward (other υ)) s x xp xpp u h.cap wu wp.inside wg.inside pu gu gp wg.that (red_top z) in
    let p = painting red (painting_this black (painting_that black (outward (outward h)))) in
    let v = three-painted black black red h.cap wu wp.inside wg.inside f.paints f.uncle f.lower f.higher p in
    renamed
    (turns_more m s x (turn_up h ∙ lifted_red (toward υ) (toward (other υ)) s x xp xpp u wg.that (red_top z)))
    (slots-plug C (fork υ red (fork τ black (fork σ red a x b) xp y) xpp (fork ω black d u e))
    (fork υ black (fork τ red (fork σ red a x b) xp y) xpp (fork ω red d u e)) refl)
    (again.mend w (dark (rosy sa sb) sy) (dark sd se) v l)

turns : (m : ℕ) → Mends m → Mends (suc m)
unfolding slots plug
turns m again = record { mend = go }
  where
    go : {n : ℕ} {s : Links} {σ : Side} {C : Way} {h : ℕ} {c : Colour} {a b : Sided} {x : ℕ} → Wants h c C → RedBlack black h a
        → RedBlack black h b → Site n s C (fork σ red a x b) → length C < suc m
        → Outcome n (insertion_turns (suc m) s x) (slots (plug C (fork σ red a x b)))
    go {s = s} {σ} {a = a} {b} {x} atop sa sb h l =
        renamed (turns_done m s x (turn_root h)) refl
        (record { tree = fork σ black a x b; height = _; site = rooting (painting black h); sound = dark sa sb; same = refl })
    go {s = s} {C = C} {a = a} {b} {x} (below w u) sa sb h l =
        renamed (turns_done m s x (turn_calm h)) refl (record {
          tree = plug C (fork _ red a x b);
          height = _;
          site = whole C h;
          sound = (plug_any (below w u) (rosy sa sb)).1;
          same = refl;
        })
    go (under (below w void) y) sa sb h l = dim _ _ _ again w void y sa sb h (omega arith)
    go (under (below w (dark u v)) y) sa sb h l = dim _ _ _ again w (dark u v) y sa sb h (omega arith)
    go (under (below w (rosy u v)) y) sa sb h l = flushed again w u v y sa sb h (omega arith)

mends : (m : ℕ) → Mends m
mends zero = record { mend = λ w sa sb h l. absurd (omega arith) }
mends (suc m) = turns m (mends m)

-- balance_insertion: x, once it is red, is a slot without children at the end of a way that wants a tree with no black slot.
pub insertion : {n : ℕ} {σ : Side} {C : Way} {c : Colour} {x : ℕ} (m : ℕ) (s : Links) → Wants 0 c C
    → Site n (painted s x red) C (fork σ red bare x bare) → length C < m
    → Outcome n (balanced_insertion m s x) (slots (plug C (fork σ red bare x bare)))
unfolding balanced_insertion
insertion m s w h l = (mends m).mend w void void h l
