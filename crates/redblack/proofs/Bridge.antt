-- A sided tree names one plain tree, with the same slots in the same order and the same words, so what is held, and what is red-black,
-- is said of both alike.
use mathlib.Core.Path.{◌≡◌, refl, ap, ap₂, ◌∙◌, sym}
use mathlib.Core.List.{List, [], ◌∷◌, ◌++◌}
use Prim.Native.Nat.{ℕ, suc, ◌+◌}
use native.Mathlib.Omega.{arith}
use Rattle.slots.specs.Words.{Colour, black, red, Side, leftward, rightward}
use Rattle.redblack.specs.Links.{Links}
use Rattle.tree_rules.specs.Tree
use Rattle.tree_rules.specs.Tree.{leaf, node, Meets, Level, Calm, colour, blacks}
use Rattle.redblack.specs.Sided
use Rattle.redblack.specs.Sided.{Sided, bare, fork, count, Site, Way, plug}
use Rattle.redblack.specs.Balance.{RedBlack, Wants, void, dark, rosy}
use Rattle.redblack.specs.Holding.{Holds, RedBlackTree, plain}
use Rattle.redblack.proofs.Ends.{Part, Outcome, black_part, red_part}
use Rattle.redblack.proofs.Frames.{cell_of, this_of, that_of}
use Rattle.redblack.proofs.Order.{count-slots}
use Rattle.redblack.proofs.Parts.{plug_black, part_of}

-- Every plain tree is named by the left sides of its slots.
unfoldable pub sided : Tree.Tree → Sided
sided leaf = bare
sided (node c l i r) = fork leftward c (sided l) i (sided r)

pub plain_sided : (t : Tree.Tree) → plain (sided t) ≡ t
unfolding plain sided
plain_sided leaf = refl
plain_sided (node c l i r) = λ k. node c (plain_sided l k) i (plain_sided r k)

-- The same top, and the same slots in order.
pub plain_top : (t : Sided) → Tree.top (plain t) ≡ Sided.top t
unfolding plain
plain_top bare = refl
plain_top (fork leftward c a i b) = refl
plain_top (fork rightward c a i b) = refl

pub plain-slots : (t : Sided) → Tree.slots (plain t) ≡ Sided.slots t
unfolding plain Tree.slots Sided.slots
plain-slots bare = refl
plain-slots (fork leftward c a i b) = ap₂ (λ (x y : List ℕ). x ++ (i ∷ y)) (plain-slots a) (plain-slots b)
plain-slots (fork rightward c a i b) = ap₂ (λ (x y : List ℕ). x ++ (i ∷ y)) (plain-slots b) (plain-slots a)

pub sided_slots : (t : Tree.Tree) → Sided.slots (sided t) ≡ Tree.slots t
sided_slots t = sym (plain-slots (sided t)) ∙ ap Tree.slots (plain_sided t)

pub plain-count : (k : ℕ) (t : Sided) → Tree.times k (Tree.slots (plain t)) ≡ count k t
plain-count k t = ap (Tree.times k) (plain-slots t) ∙ count-slots k t

-- The same words.
hangs_plain : {n q : ℕ} {s : Links} (t : Sided) → Sided.Hangs n s q t → Tree.Hangs n s.cells q (plain t)
unfolding plain
hangs_plain bare h = Tree.none
hangs_plain (fork leftward c a i b) h =
    let k = cell_of h in
    Tree.some (record {
      inside = k.inside;
      above = k.above;
      lefts = k.this ∙ sym (plain_top a);
      rights = k.that ∙ sym (plain_top b);
      hued = k.hued;
    }) (hangs_plain a (this_of h)) (hangs_plain b (that_of h))
hangs_plain (fork rightward c a i b) h =
    let k = cell_of h in
    Tree.some (record {
      inside = k.inside;
      above = k.above;
      lefts = k.that ∙ sym (plain_top b);
      rights = k.this ∙ sym (plain_top a);
      hued = k.hued;
    }) (hangs_plain b (that_of h)) (hangs_plain a (this_of h))

cell_in : {n q : ℕ} {cells : List ℕ} {c : Colour} {l r : Tree.Tree} {i : ℕ} → Tree.Hangs n cells q (node c l i r)
    → Tree.Cell n cells q c (Tree.top l) i (Tree.top r)
cell_in (Tree.some k u v) = k

left_in_lem : {n q : ℕ} {cells : List ℕ} {c : Colour} {l r : Tree.Tree} {i : ℕ} → Tree.Hangs n cells q (node c l i r)
    → Tree.Hangs n cells i l
left_in_lem (Tree.some k u v) = u

right_in : {n q : ℕ} {cells : List ℕ} {c : Colour} {l r : Tree.Tree} {i : ℕ} → Tree.Hangs n cells q (node c l i r) → Tree.Hangs n cells i r
right_in (Tree.some k u v) = v

plain_hangs : {n q : ℕ} {s : Links} (t : Sided) → Tree.Hangs n s.cells q (plain t) → Sided.Hangs n s q t
unfolding plain
plain_hangs bare h = Sided.none
plain_hangs (fork leftward c a i b) h =
    let k = cell_in h in
    Sided.some
    (record { inside = k.inside; above = k.above; this = k.lefts ∙ plain_top a; that = k.rights ∙ plain_top b; hued = k.hued })
    (plain_hangs a (left_in_lem h)) (plain_hangs b (right_in h))
plain_hangs (fork rightward c a i b) h =
    let k = cell_in h in
    Sided.some
    (record { inside = k.inside; above = k.above; this = k.rights ∙ plain_top a; that = k.lefts ∙ plain_top b; hued = k.hued })
    (plain_hangs a (right_in h)) (plain_hangs b (left_in_lem h))

-- The links hold a sided tree exactly where they hold the plain one.
pub site_holds : {n : ℕ} {s : Links} (t : Sided) → Site n s [] t → Holds n s (plain t)
unfolding Sided.count_way
site_holds t h =
    record {
      long = h.cap.long;
      small = h.cap.small;
      rooted = record {
        from = elim h.way [ Sided.home e ↦ e ∙ sym (plain_top t) ];
        hangs = hangs_plain t h.tree;
        once = λ k. omega (arith, plain-count k t, h.once k);
      };
    }

pub holds_site : {n : ℕ} {s : Links} (t : Sided) → Holds n s (plain t) → Site n s [] t
unfolding Sided.count_way
holds_site t h =
    record {
      cap = record { long = h.long; small = h.small };
      way = Sided.home (h.rooted.from ∙ plain_top t);
      tree = plain_hangs t h.rooted.hangs;
      once = λ k. omega (arith, plain-count k t, h.rooted.once k);
    }

pub sited : {n : ℕ} {s : Links} (t : Tree.Tree) → Holds n s t → Site n s [] (sided t)
sited t h = holds_site (sided t) (rw (plain_sided t) h)

-- A red-black sided tree has a plain one that obeys T5 and T6: every way down it meets as many black slots as its height says.
plain-colour : {c : Colour} {h : ℕ} {t : Sided} → RedBlack c h t → colour (plain t) ≡ c
unfolding plain
plain-colour void = refl
plain-colour (dark {σ = leftward} u v) = refl
plain-colour (dark {σ = rightward} u v) = refl
plain-colour (rosy {σ = leftward} u v) = refl
plain-colour (rosy {σ = rightward} u v) = refl

plain_calm : {c : Colour} {h : ℕ} {t : Sided} → RedBlack c h t → Calm (plain t)
unfolding plain
plain_calm void = Tree.nothing
plain_calm (dark {σ = leftward} u v) = Tree.darkly (plain_calm u) (plain_calm v)
plain_calm (dark {σ = rightward} u v) = Tree.darkly (plain_calm v) (plain_calm u)
plain_calm (rosy {σ = leftward} u v) = Tree.redly (plain-colour u) (plain-colour v) (plain_calm u) (plain_calm v)
plain_calm (rosy {σ = rightward} u v) = Tree.redly (plain-colour v) (plain-colour u) (plain_calm v) (plain_calm u)

meets_node : {c : Colour} {l r : Tree.Tree} {i k : ℕ} (h : ℕ) → ((j : ℕ) → Meets l j → j ≡ h) → ((j : ℕ) → Meets r j → j ≡ h)
    → Meets (node c l i r) k → k ≡ blacks c + h
meets_node {c} h f g (Tree.leftward m) = ap (λ (x : ℕ). blacks c + x) (f _ m)
meets_node {c} h f g (Tree.rightward m) = ap (λ (x : ℕ). blacks c + x) (g _ m)

meets_leaf : {k : ℕ} → Meets leaf k → k ≡ 0
meets_leaf Tree.end = refl

plain_meets : {c : Colour} {h : ℕ} {t : Sided} → RedBlack c h t → (k : ℕ) → Meets (plain t) k → k ≡ h
unfolding plain
plain_meets void k m = meets_leaf m
plain_meets (dark {σ = leftward} {h = h} u v) k m = omega (arith, meets_node h (plain_meets u) (plain_meets v) m)
plain_meets (dark {σ = rightward} {h = h} u v) k m = omega (arith, meets_node h (plain_meets v) (plain_meets u) m)
plain_meets (rosy {σ = leftward} {h = h} u v) k m = omega (arith, meets_node h (plain_meets u) (plain_meets v) m)
plain_meets (rosy {σ = rightward} {h = h} u v) k m = omega (arith, meets_node h (plain_meets v) (plain_meets u) m)

pub sound-plain : {h : ℕ} {t : Sided} → RedBlack black h t → RedBlackTree (plain t)
sound-plain v =
    record {
      coloured = record { root = plain-colour v; calm = plain_calm v };
      level = λ j k m n. plain_meets v j m ∙ sym (plain_meets v k n);
    }

-- There is a way down, so equal ways give the height back.
down : {c : Colour} {h : ℕ} {t : Sided} → RedBlack c h t → Meets (plain t) h
unfolding plain
down void = Tree.end
down (dark {σ = leftward} {h = h} u v) = let e : suc h ≡ 1 + h = omega arith in rw e (Tree.leftward (down u))
down (dark {σ = rightward} {h = h} u v) = let e : suc h ≡ 1 + h = omega arith in rw e (Tree.rightward (down u))
down (rosy {σ = leftward} {h = h} u v) = let e : h ≡ 0 + h = omega arith in rw e (Tree.leftward (down u))
down (rosy {σ = rightward} {h = h} u v) = let e : h ≡ 0 + h = omega arith in rw e (Tree.rightward (down u))

level-left : {c : Colour} {l r : Tree.Tree} {i : ℕ} → Level (node c l i r) → Level l
level-left h j k m n = let e = h _ _ (Tree.leftward m) (Tree.leftward n) in omega arith

level-right : {c : Colour} {l r : Tree.Tree} {i : ℕ} → Level (node c l i r) → Level r
level-right h j k m n = let e = h _ _ (Tree.rightward m) (Tree.rightward n) in omega arith

-- Both parts of a node have one height.
joined : (σ : Side) (c : Colour) (i : ℕ) {d e : Colour} {h k : ℕ} {a b : Sided} → blacks c + h ≡ blacks c + k
    → (c ≡ red → (d ≡ black) × (e ≡ black)) → RedBlack d h a → RedBlack e k b → (m : ℕ) × RedBlack c m (fork σ c a i b)
joined σ black i {h = h} {k} e f u v = let z : k ≡ h = omega arith in (suc h, dark u (rw z at v))
joined σ red i {h = h} {k} e f u v = let z : k ≡ h = omega arith in let p = f refl in (h, rosy (rw p.0 at u) (rw (z, p.1) at v))

black_red : {A : Type 0} → black ≡ red → A
black_red e = absurd (let z : 1 ≡ 2 = ap Rattle.slots.specs.Words.code e in omega arith)

calm_left : {c : Colour} {l r : Tree.Tree} {i : ℕ} → Calm (node c l i r) → Calm l
calm_left (Tree.darkly u v) = u
calm_left (Tree.redly p q u v) = u

calm_right : {c : Colour} {l r : Tree.Tree} {i : ℕ} → Calm (node c l i r) → Calm r
calm_right (Tree.darkly u v) = v
calm_right (Tree.redly p q u v) = v

calm_red : {c : Colour} {l r : Tree.Tree} {i : ℕ} → Calm (node c l i r) → c ≡ red → (colour l ≡ black) × (colour r ≡ black)
calm_red (Tree.darkly u v) e = black_red e
calm_red (Tree.redly p q u v) e = (p, q)

balanced : (t : Sided) → Calm (plain t) → Level (plain t) → (h : ℕ) × RedBlack (colour (plain t)) h t
unfolding plain
balanced bare c l = (0, void)
balanced (fork leftward c a i b) k l =
    let x = balanced a (calm_left k) (level-left l) in
    let y = balanced b (calm_right k) (level-right l) in
    joined leftward c i (l _ _ (Tree.leftward (down x.1)) (Tree.rightward (down y.1))) (calm_red k) x.1 y.1
balanced (fork rightward c a i b) k l =
    let x = balanced a (calm_right k) (level-right l) in
    let y = balanced b (calm_left k) (level-left l) in
    joined rightward c i (l _ _ (Tree.rightward (down x.1)) (Tree.leftward (down y.1)))
    (λ e. (let p = calm_red k e in (p.1, p.0))) x.1 y.1

pub plain-sound : (t : Sided) → RedBlackTree (plain t) → (h : ℕ) × RedBlack black h t
plain-sound t v = let x = balanced t v.coloured.calm v.level in (x.0, rw v.coloured.root at x.1)

-- The height is what the ways meet, and what a way wants is what makes the whole red-black.
pub plain-height : (t : Sided) (h : ℕ) → RedBlackTree (plain t) → Meets (plain t) h → RedBlack black h t
plain-height t h v m = let x = plain-sound t v in rw (plain_meets x.1 h m) x.1

pub height-plain : {h : ℕ} {t : Sided} → RedBlack black h t → Meets (plain t) h
height-plain v = down v

part_wants : {h : ℕ} {C : Way} {t : Sided} → RedBlack black h t → Part C t → (c : Colour) × Wants h c C
part_wants v (black_part {c = c} w u) = (c, rw (plain_meets v _ (down u)) at w)
part_wants v (red_part w u) = black_red (sym (plain-colour v) ∙ plain-colour u)

pub plain_wants : {h : ℕ} (C : Way) {t : Sided} → RedBlack black h t → RedBlackTree (plain (plug C t)) → (c : Colour) × Wants h c C
plain_wants C {t} v w = part_wants v (part_of C (plain-sound (plug C t) w).1)

pub wants_plain : {h : ℕ} {c : Colour} {C : Way} {t : Sided} → RedBlack black h t → Wants h c C → RedBlackTree (plain (plug C t))
wants_plain v w = sound-plain (plug_black w v).1

-- The outcome of a routine, in plain form and in the theory's.
pub outcome_of_lem : {n : ℕ} {s : Links} (t : Tree.Tree) → Holds n s t → RedBlackTree t → Outcome n s (Tree.slots t)
outcome_of_lem t h v =
    let x = plain-sound (sided t) (rw (plain_sided t) v) in
    record { tree = sided t; height = x.0; site = sited t h; sound = x.1; same = sided_slots t }

pub plain-outcome : {n : ℕ} {s : Links} {l : List ℕ} → Outcome n s l → (u : Tree.Tree) × Holds n s u × RedBlackTree u × (Tree.slots u ≡ l)
plain-outcome o = (plain o.tree, site_holds o.tree o.site, sound-plain o.sound, plain-slots o.tree ∙ o.same)
