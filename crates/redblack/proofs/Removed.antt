-- A slot anywhere in a red-black tree goes: with two children it first trades places with its successor, which has no left child.
use mathlib.Core.Path.{◌≡◌, refl, ◌∙◌, sym}
use mathlib.Core.List.{List, ◌∷◌, ◌++◌}
use mathlib.Core.Bool.{Bool, true, false}
use Prim.Native.Nat.{ℕ, ◌≤◌}
use native.Mathlib.Omega.{arith}
use lib.Dec.{eqb}
use Rattle.slots.specs.Words.{null, left, right, Colour, Side, black, leftward, rightward}
use Rattle.redblack.specs.Links.{Links, read}
use Rattle.redblack.specs.Sided.{Sided, Way, top, plug, slots, Site, bare, fork, frame}
use Rattle.redblack.specs.Balance.{RedBlack, OneFewer}
use Rattle.redblack.specs.Removal.{traded, dropped, leftmost, removed}
use Rattle.redblack.proofs.Ends.{Part, Outcome, Without}
use Rattle.redblack.proofs.Reading.{solid}
use Rattle.redblack.proofs.Frames.{cell_of, this_of, way_cell, inward, turn}
use Rattle.redblack.proofs.Order.{slots_turn}
use Rattle.redblack.proofs.Lists.{less_one, less_two}
use Rattle.redblack.proofs.Parts.{part_in, part_of, part_turn, part_reslot}
use Rattle.redblack.proofs.Removal.{dropping_part}
use Rattle.redblack.proofs.Trade.{traded_site}
use Rattle.redblack.proofs.Successor.{successor}

-- The trade with the successor, then the removal from there.
traded_dropping : {n : ℕ} {s : Links} {ct : Colour} {tr : Sided} {t : ℕ} (m : ℕ) (c : Colour) (p : ℕ) (a : Sided) (C D : Way) → n ≤ m
    → Part (D ++ (frame rightward c p a ∷ C)) (fork leftward ct bare t tr)
    → Site n s (D ++ (frame rightward c p a ∷ C)) (fork leftward ct bare t tr)
    → Outcome n (dropped m (traded s p t) p) (slots (plug (D ++ (frame rightward c t a ∷ C)) tr))
traded_dropping {t = t} m c p a C D l o h =
    let v = traded_site c p a C D h in
    dropping_part m l (part_turn rightward p (part_reslot D rightward c p t a C o)) (turn v)

-- Which way the removal takes.
pub removed-left : (m : ℕ) (s : Links) (p : ℕ) → read s p left ≡ null → removed m s p ≡ dropped m s p
unfolding removed
removed-left m s p e = rw e

pub removed-right : (m : ℕ) (s : Links) (p : ℕ) → read s p right ≡ null → removed m s p ≡ dropped m s p
unfolding removed
removed-right m s p e = go (eqb (read s p left) null) refl
  where
    go : (b : Bool) → eqb (read s p left) null ≡ b → removed m s p ≡ dropped m s p
    go true f = rw f
    go false f = rw (f, e)

pub removed_two : (m : ℕ) (s : Links) (p i j t : ℕ) → read s p left ≡ i → eqb i null ≡ false → read s p right ≡ j → eqb j null ≡ false
    → leftmost m s j ≡ t → removed m s p ≡ dropped m (traded s p t) p
unfolding removed
removed_two m s p i j t e f g h k = rw (e, f, g, h, k)

-- A removal told by its outcome and the lists.
without : {n : ℕ} {s t : Links} {p : ℕ} {l j k : List ℕ} → s ≡ t → Outcome n t k → j ≡ l → OneFewer p j k → Without n s p l
without {k = k} e o f r =
    record {
      others = k;
      outcome = rw e o;
      less = record { before = r.before; after = r.after; whole = sym f ∙ r.whole; rest = r.rest };
    }

pub relisted : {n : ℕ} {s : Links} {p : ℕ} {l k : List ℕ} → l ≡ k → Without n s p l → Without n s p k
relisted e o = without refl o.outcome e o.less

-- The right child is in view, and there is a left one.
two_children : {n : ℕ} {s : Links} {c d : Colour} {a x y : Sided} {p i : ℕ} {C : Way} (m : ℕ) → n ≤ m → eqb (top a) null ≡ false
    → Part (frame rightward c p a ∷ C) (fork leftward d x i y)
    → Site n s (frame rightward c p a ∷ C) (fork leftward d x i y)
    → Without n (removed m s p) p (slots (plug (frame rightward c p a ∷ C) (fork leftward d x i y)))
two_children {s = s} {c} {a = a} {x} {p = p} {i} {C} m l e o h =
    let k = way_cell h.way in
    let r = successor x m (omega arith) h o in
    without (removed_two m s p (top a) i r.slot k.that e k.this (solid (cell_of h.tree).inside h.cap.small) r.finds)
    (traded_dropping m c p a C r.path l r.part r.site) r.same
    (less_two C r.path c r.colour p r.slot a r.rest r.lefts)

-- The slot named by its left side, by what its children are.
removes : {n : ℕ} {s : Links} {c : Colour} {p : ℕ} {C : Way} (a b : Sided) (m : ℕ) → n ≤ m → Part C (fork leftward c a p b)
    → Site n s C (fork leftward c a p b) → Without n (removed m s p) p (slots (plug C (fork leftward c a p b)))
unfolding plug
removes {s = s} {c} {p} {C} bare b m l o h =
    without (removed-left m s p (cell_of h.tree).this) (dropping_part m l (part_turn rightward p o) (turn h))
    (slots_turn leftward C c bare p b) (less_one C rightward c b p)
removes {s = s} {c} {p} {C} (fork τ e u j v) bare m l o h =
    without (removed-right m s p (cell_of h.tree).that) (dropping_part m l o h) refl (less_one C leftward c (fork τ e u j v) p)
removes {c = c} {p} {C} (fork τ e u j v) (fork leftward d x i y) m l o h =
    relisted (slots_turn leftward C c (fork τ e u j v) p (fork leftward d x i y))
    (two_children m l (solid (cell_of (this_of h.tree)).inside h.cap.small) (part_in (part_turn rightward p o)) (inward (turn h)))
removes {c = c} {p} {C} (fork τ e u j v) (fork rightward d x i y) m l o h =
    relisted (slots_turn rightward (frame rightward c p (fork τ e u j v) ∷ C) d x i y
    ∙ slots_turn leftward C c (fork τ e u j v) p (fork rightward d x i y))
    (two_children m l (solid (cell_of (this_of h.tree)).inside h.cap.small)
    (part_turn leftward i (part_in (part_turn rightward p o))) (turn (inward (turn h))))

-- The slot p, anywhere in a red-black tree, goes.
pub removal_part : {n : ℕ} {s : Links} {ρ : Side} {c : Colour} {a b : Sided} {p : ℕ} {C : Way} (m : ℕ) → n ≤ m → Part C (fork ρ c a p b)
    → Site n s C (fork ρ c a p b)
    → Without n (removed m s p) p (slots (plug C (fork ρ c a p b)))
removal_part {ρ = leftward} {c} {a} {b} {p} {C} m l v h = removes a b m l v h
removal_part {ρ = rightward} {c} {a} {b} {p} {C} m l v h =
    relisted (slots_turn rightward C c a p b) (removes b a m l (part_turn leftward p v) (turn h))

pub removal : {n k : ℕ} {s : Links} {ρ : Side} {c : Colour} {a b : Sided} {p : ℕ} {C : Way} (m : ℕ) → n ≤ m
    → RedBlack black k (plug C (fork ρ c a p b)) → Site n s C (fork ρ c a p b)
    → Without n (removed m s p) p (slots (plug C (fork ρ c a p b)))
removal {C = C} m l v h = removal_part m l (part_of C v) h
