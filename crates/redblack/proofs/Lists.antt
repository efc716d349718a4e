-- A whole tree lists what stands before a place, the slots of the part there, and what stands after it,
-- so a slot taken out of the part is taken out of the list.
use mathlib.Core.Path.{◌≡◌, refl, ap, ◌∙◌, sym}
use mathlib.Core.List.{List, [], ◌∷◌, ◌++◌, append_assoc, append-nil}
use Prim.Native.Nat.{ℕ}
use Rattle.slots.specs.Words.{Colour, Side, leftward, rightward}
use Rattle.redblack.specs.Sided.{Sided, Way, plug, slots, bare, fork, frame}
use Rattle.redblack.specs.Balance.{OneFewer}
use Rattle.tree_rules.specs.Tree.{NextInOrder}
use Rattle.redblack.proofs.Ends.{Beside}

-- What stands left and right of a place.
record Split (C : Way) : Type 0 where
  before : List ℕ
  after : List ℕ
  eq : (t : Sided) → slots (plug C t) ≡ before ++ (slots t ++ after)

split_frame : (σ : Side) (c : Colour) (i : ℕ) (b : Sided) (C : Way) → Split C → Split (frame σ c i b ∷ C)
unfolding slots plug
split_frame leftward c i b C h =
    record { before = h.before; after = i ∷ (slots b ++ h.after); eq = λ t. h.eq (fork leftward c t i b) ∙ simp append_assoc }
split_frame rightward c i b C h =
    record { before = h.before ++ (slots b ++ (i ∷ [])); after = h.after; eq = λ t. h.eq (fork rightward c t i b) ∙ simp append_assoc }

split : (C : Way) → Split C
unfolding slots plug
split [] = record { before = []; after = []; eq = λ t. sym (append-nil (slots t)) }
split (frame σ c i b ∷ C) = split_frame σ c i b C (split C)

-- A slot p with one child at most: with it the tree lists one p more than with the child in its place.
pub less_one : (C : Way) (ρ : Side) (c : Colour) (a : Sided) (p : ℕ) → OneFewer p (slots (plug C (fork ρ c a p bare))) (slots (plug C a))
unfolding slots
less_one C leftward c a p =
    let h = split C in
    record {
      before = h.before ++ slots a;
      after = h.after;
      whole = h.eq (fork leftward c a p bare) ∙ simp append_assoc;
      rest = h.eq a ∙ simp append_assoc;
    }
less_one C rightward c a p =
    let h = split C in record { before = h.before; after = slots a ++ h.after; whole = h.eq (fork rightward c a p bare); rest = h.eq a }

-- A slot x hung at the null link on the side σ of q stands next to q.
pub beside : (C : Way) (σ : Side) (c d : Colour) (q x : ℕ) (b : Sided)
    → Beside σ q x (slots (plug C (fork σ c bare q b))) (slots (plug C (fork σ c (fork σ d bare x bare) q b)))
unfolding slots
beside C leftward c d q x b =
    let h = split C in
    record {
      before = h.before;
      after = slots b ++ h.after;
      was = h.eq (fork leftward c bare q b);
      now = h.eq (fork leftward c (fork leftward d bare x bare) q b);
    }
beside C rightward c d q x b =
    let h = split C in
    record {
      before = h.before ++ slots b;
      after = h.after;
      was = h.eq (fork rightward c bare q b) ∙ simp append_assoc;
      now = h.eq (fork rightward c (fork rightward d bare x bare) q b) ∙ simp append_assoc;
    }

-- A way of left turns only.
pub data Edge : Way → Type 0 where
  low : Edge []
  edge : {c : Colour} {i : ℕ} {b : Sided} {D : Way} → Edge D → Edge (frame leftward c i b ∷ D)

-- Below such a way all other slots stand to the right.
record Right (D : Way) : Type 0 where
  after : List ℕ
  eq : (t : Sided) → slots (plug D t) ≡ slots t ++ after

right : {D : Way} → Edge D → Right D
unfolding slots plug
right low = record { after = []; eq = λ t. sym (append-nil (slots t)) }
right (edge {c} {i} {b} e) =
    let h = right e in record { after = i ∷ (slots b ++ h.after); eq = λ t. h.eq (fork leftward c t i b) ∙ simp append_assoc }

plug_append : (D E : Way) (t : Sided) → plug (D ++ E) t ≡ plug E (plug D t)
unfolding plug
plug_append [] E t = refl
plug_append (frame σ c i b ∷ D) E t = plug_append D E (fork σ c t i b)

-- A slot p with two children and its successor t: t in p's place, and t's right child in its own, is the list without p.
pub less_two : (C D : Way) (cp ct : Colour) (p t : ℕ) (pl tr : Sided) → Edge D
    → OneFewer p (slots (plug (D ++ (frame rightward cp p pl ∷ C)) (fork leftward ct bare t tr)))
    (slots (plug (D ++ (frame rightward cp t pl ∷ C)) tr))
unfolding slots plug
less_two C D cp ct p t pl tr e =
    let h = split C in
    let g = right e in
    record {
      before = h.before ++ slots pl;
      after = t ∷ (slots tr ++ (g.after ++ h.after));
      whole = ap slots (plug_append D (frame rightward cp p pl ∷ C) (fork leftward ct bare t tr))
          ∙ h.eq (fork rightward cp (plug D (fork leftward ct bare t tr)) p pl) ∙ simp (g.eq, append_assoc);
      rest = ap slots (plug_append D (frame rightward cp t pl ∷ C) tr) ∙ h.eq (fork rightward cp (plug D tr) t pl)
          ∙ simp (g.eq, append_assoc);
    }

-- That successor is the next slot after p.
pub next_two : (C D : Way) (cp ct : Colour) (p t : ℕ) (pl tr : Sided) → Edge D
    → NextInOrder p t (slots (plug (D ++ (frame rightward cp p pl ∷ C)) (fork leftward ct bare t tr)))
unfolding slots plug
next_two C D cp ct p t pl tr e =
    let h = split C in
    let g = right e in
    record {
      before = h.before ++ slots pl;
      after = slots tr ++ (g.after ++ h.after);
      whole = ap slots (plug_append D (frame rightward cp p pl ∷ C) (fork leftward ct bare t tr))
          ∙ h.eq (fork rightward cp (plug D (fork leftward ct bare t tr)) p pl) ∙ simp (g.eq, append_assoc);
    }
