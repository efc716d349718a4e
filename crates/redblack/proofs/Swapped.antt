-- The trade, said of the plain tree: p and its successor have changed places, and every place has kept its colour.
use mathlib.Core.Path.{◌≡◌, refl, ap, ◌∙◌, sym}
use mathlib.Core.Logic.{◌≢◌}
use mathlib.Core.List.{[], ◌∷◌, ◌++◌}
use mathlib.Core.Bool.{false}
use Prim.Native.Nat.{ℕ, ◌+◌, ◌≤◌}
use native.Mathlib.Omega.{arith}
use lib.Dec.{eqb}
use borrow.Author.Tests.{eq-eqb, ne_eqb}
use Rattle.slots.specs.Words.{null, left, right, Colour, leftward, rightward}
use Rattle.tree_rules.specs.Tree.{Tree, node, slots as listed, NextInOrder}
use Rattle.tree_rules.proofs.Reaching.{rooted_unique}
use Rattle.redblack.specs.Links.{Links, read}
use Rattle.redblack.specs.Sided.{Sided, Way, top, plug, hit, count, count_way, Site, bare, fork, frame}
use Rattle.redblack.specs.Removal.{traded, dropped, removed}
use Rattle.redblack.specs.Holding.{Holds, RedBlackTree, Stands, instead, switched, plain}
use Rattle.redblack.proofs.Ends.{Part}
use Rattle.redblack.proofs.Reading.{solid}
use Rattle.redblack.proofs.Frames.{hit_same, apart, cell_of, this_of, way_cell, inward, turn, whole}
use Rattle.redblack.proofs.Lists.{next_two}
use Rattle.redblack.proofs.Parts.{part_in, part_turn}
use Rattle.redblack.proofs.Trade.{count_way_append, traded_site}
use Rattle.redblack.proofs.Successor.{successor}
use Rattle.redblack.proofs.Removed.{removed_two}
use Rattle.redblack.proofs.Bridge.{site_holds, plain-slots, outcome_of_lem}
use Rattle.redblack.proofs.Whole.{reached}

-- The same of a sided tree and of a way.
module _ (p q : ℕ) where
  swap : Sided → Sided
  swap bare = bare
  swap (fork σ c a i b) = fork σ c (swap a) (instead p q i) (swap b)

  swap_way : Way → Way
  swap_way [] = []
  swap_way (frame σ c i b ∷ C) = frame σ c (instead p q i) (swap b) ∷ swap_way C

  plain_swap : (t : Sided) → plain (swap t) ≡ switched p q (plain t)
  unfolding plain swap switched
  plain_swap bare = refl
  plain_swap (fork leftward c a i b) = λ k. node c (plain_swap a k) (instead p q i) (plain_swap b k)
  plain_swap (fork rightward c a i b) = λ k. node c (plain_swap b k) (instead p q i) (plain_swap a k)

  swap_plug : (C : Way) (t : Sided) → swap (plug C t) ≡ plug (swap_way C) (swap t)
  unfolding swap swap_way plug
  swap_plug [] t = refl
  swap_plug (frame σ c i b ∷ C) t = swap_plug C (fork σ c t i b)

  swap_append : (D E : Way) → swap_way (D ++ E) ≡ swap_way D ++ swap_way E
  unfolding swap_way
  swap_append [] E = refl
  swap_append (frame σ c i b ∷ D) E = ap (λ (C : Way). frame σ c (instead p q i) (swap b) ∷ C) (swap_append D E)

  -- Elsewhere nothing changes.
  instead_none : (i : ℕ) → hit p i ≡ 0 → hit q i ≡ 0 → instead p q i ≡ i
  instead_none i e f =
      let d : p ≢ i = apart e in
      let g : q ≢ i = apart f in
      rw (ne_eqb i p (λ z. d (sym z)), ne_eqb i q (λ z. g (sym z)))

  swap_none : (t : Sided) → count p t ≡ 0 → count q t ≡ 0 → swap t ≡ t
  unfolding swap count
  swap_none bare e f = refl
  swap_none (fork σ c a i b) e f =
      let x = swap_none a (omega arith) (omega arith) in
      let y = swap_none b (omega arith) (omega arith) in
      let z = instead_none i (omega arith) (omega arith) in
      λ k. fork σ c (x k) (z k) (y k)

  way_none : (C : Way) → count_way p C ≡ 0 → count_way q C ≡ 0 → swap_way C ≡ C
  unfolding swap_way count_way
  way_none [] e f = refl
  way_none (frame σ c i b ∷ C) e f =
      let x = swap_none b (omega arith) (omega arith) in
      let y = way_none C (omega arith) (omega arith) in
      let z = instead_none i (omega arith) (omega arith) in
      λ k. frame σ c (z k) (x k) ∷ y k

  -- The whole with p above and q below, each once.
  swap_two : (C D : Way) (cp ct : Colour) (pl tr : Sided)
      → ((k : ℕ) → count_way k (D ++ (frame rightward cp p pl ∷ C)) + count k (fork leftward ct bare q tr) ≤ 1)
      → swap (plug (D ++ (frame rightward cp p pl ∷ C)) (fork leftward ct bare q tr))
      ≡ plug (D ++ (frame rightward cp q pl ∷ C)) (fork leftward ct bare p tr)
  unfolding swap swap_way count count_way
  swap_two C D cp ct pl tr o =
      let E : Way = frame rightward cp p pl ∷ C in
      let a = count_way_append p D E in
      let b = count_way_append q D E in
      let d : q ≢ p = apart (omega (arith, o q, b, hit_same q)) in
      let x : swap_way D ≡ D = way_none D (omega (arith, o p, a, hit_same p)) (omega (arith, o q, b, hit_same q)) in
      let y : swap_way C ≡ C = way_none C (omega (arith, o p, a, hit_same p)) (omega (arith, o q, b, hit_same q)) in
      let z : swap pl ≡ pl = swap_none pl (omega (arith, o p, a, hit_same p)) (omega (arith, o q, b, hit_same q)) in
      let w : swap tr ≡ tr = swap_none tr (omega (arith, o p, a, hit_same p)) (omega (arith, o q, b, hit_same q)) in
      swap_plug (D ++ E) (fork leftward ct bare q tr)
      ∙ rw (swap_append D E, eq-eqb p p refl, ne_eqb q p d, eq-eqb q q refl, x, y, z, w)

-- What a removal of a slot with two children begins with: q is p's successor, and the links hold the tree with the two exchanged.
pub record Trades (n m : ℕ) (s : Links) (t : Tree) (p : ℕ) : Type 0 where
  pub heir : ℕ
  pub next : NextInOrder p heir (listed t)
  pub held : Holds n (traded s p heir) (switched p heir t)
  pub first : removed m s p ≡ dropped m (traded s p heir) p

-- The right child is in view, and there is a left one.
trade_here : {n : ℕ} {s : Links} {c d : Colour} {a x y : Sided} {p i : ℕ} {C : Way} {t : Tree} (m : ℕ) → n ≤ m → Holds n s t
    → eqb (top a) null ≡ false → Part (frame rightward c p a ∷ C) (fork leftward d x i y)
    → Site n s (frame rightward c p a ∷ C) (fork leftward d x i y) → Trades n m s t p
trade_here {n} {s} {c} {a = a} {x} {p = p} {i} {C} {t} m l g e o h =
    let k = way_cell h.way in
    let r = successor x m (omega arith) h o in
    let q = r.slot in
    let old : Sided = plug (r.path ++ (frame rightward c p a ∷ C)) (fork leftward r.colour bare q r.rest) in
    let new : Sided = plug (r.path ++ (frame rightward c q a ∷ C)) (fork leftward r.colour bare p r.rest) in
    let one : plain old ≡ t =
    rooted_unique n s.cells g.small s.root (site_holds old (whole (r.path ++ (frame rightward c p a ∷ C)) r.site)).rooted
    g.rooted in
    let v = next_two C r.path c r.colour p q a r.rest r.lefts in
    let w : plain new ≡ switched p q t =
    ap plain (sym (swap_two p q C r.path c r.colour a r.rest r.site.once)) ∙ plain_swap p q old ∙ ap (switched p q) one in
    record {
      heir = q;
      next = record { before = v.before; after = v.after; whole = sym (ap listed one) ∙ plain-slots old ∙ v.whole };
      held = rw w at (site_holds new (whole (r.path ++ (frame rightward c q a ∷ C)) (traded_site c p a C r.path r.site)));
      first = removed_two m s p (top a) i q k.that e k.this (solid (cell_of h.tree).inside h.cap.small) r.finds;
    }

trade_view : {n : ℕ} {s : Links} {c : Colour} {p : ℕ} {C : Way} {t : Tree} (a b : Sided) (m : ℕ) → n ≤ m → Holds n s t
    → read s p left ≢ null → read s p right ≢ null → Part C (fork leftward c a p b) → Site n s C (fork leftward c a p b) → Trades n m s t p
trade_view bare b m l g u v o h = absurd (u (cell_of h.tree).this)
trade_view (fork τ e x j y) bare m l g u v o h = absurd (v (cell_of h.tree).that)
trade_view {p = p} (fork τ e u j v) (fork leftward d x i y) m l g _ _ o h =
    trade_here m l g (solid (cell_of (this_of h.tree)).inside h.cap.small) (part_in (part_turn rightward p o)) (inward (turn h))
trade_view {p = p} (fork τ e u j v) (fork rightward d x i y) m l g _ _ o h =
    trade_here m l g (solid (cell_of (this_of h.tree)).inside h.cap.small)
    (part_turn leftward i (part_in (part_turn rightward p o))) (turn (inward (turn h)))

pub trade_tree : {n : ℕ} {s : Links} (t : Tree) (m p : ℕ) → Holds n s t → RedBlackTree t → Stands p t → read s p left ≢ null
    → read s p right ≢ null → n ≤ m → Trades n m s t p
trade_tree t m p h v c u w l =
    let r = reached leftward p c (outcome_of_lem t h v) in
    trade_view r.near r.far m l h u w r.part r.site
