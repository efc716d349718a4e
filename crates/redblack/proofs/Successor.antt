-- The leftmost slot below a slot: a way of left turns only leads down to it, and no way is longer than there are slots,
-- so the budget lasts.
use mathlib.Core.Path.{◌≡◌, refl, ◌∙◌}
use mathlib.Core.List.{List, [], ◌∷◌, ◌++◌, append_assoc}
use mathlib.Core.Bool.{false}
use Prim.Native.Nat.{ℕ, suc, zero, ◌+◌, ◌≤◌}
use native.Mathlib.Omega.{arith}
use lib.ListN.{length}
use lib.Dec.{eqb}
use Rattle.slots.specs.Words.{null, left, Colour, leftward, rightward}
use Rattle.redblack.specs.Links.{Links, read}
use Rattle.redblack.specs.Sided.{Sided, Way, plug, slots, Site, bare, fork, frame}
use Rattle.redblack.specs.Removal.{leftmost}
use Rattle.redblack.proofs.Ends.{Part}
use Rattle.redblack.proofs.Reading.{solid}
use Rattle.redblack.proofs.Frames.{cell_of, this_of, inward, turn}
use Rattle.redblack.proofs.Order.{slots_turn}
use Rattle.redblack.proofs.Lists.{Edge, low, edge}
use Rattle.redblack.proofs.Depth.{depth}
use Rattle.redblack.proofs.Parts.{part_in, part_turn}

-- From the slot i at the end of E a path of left turns leads down to a slot with no left child, and `leftmost` finds it with m steps.
-- l are the slots of the whole tree.
pub record Found (n m : ℕ) (s : Links) (E : Way) (i : ℕ) (l : List ℕ) : Type 0 where
  pub path : Way
  pub lefts : Edge path
  pub colour : Colour
  pub slot : ℕ
  pub rest : Sided
  pub site : Site n s (path ++ E) (fork leftward colour bare slot rest)
  pub part : Part (path ++ E) (fork leftward colour bare slot rest)
  pub same : slots (plug (path ++ E) (fork leftward colour bare slot rest)) ≡ l
  pub finds : leftmost m s i ≡ slot

edge_more : {D : Way} (c : Colour) (i : ℕ) (b : Sided) → Edge D → Edge (D ++ (frame leftward c i b ∷ []))
edge_more c i b low = edge low
edge_more c i b (edge e) = edge (edge_more c i b e)

leftmost_here : (m : ℕ) (s : Links) (i : ℕ) → read s i left ≡ null → leftmost m s i ≡ i
unfolding leftmost
leftmost_here zero s i e = refl
leftmost_here (suc m) s i e = rw (e, leftmost)

leftmost_on : (m : ℕ) (s : Links) (i j : ℕ) → read s i left ≡ j → eqb j null ≡ false → leftmost (suc m) s i ≡ leftmost m s j
unfolding leftmost
leftmost_on m s i j e f = rw (leftmost, e, f)

-- A step down to the left.
deeper : {n m : ℕ} {s : Links} {c : Colour} {i j : ℕ} {y : Sided} {E : Way} {l k : List ℕ} → read s i left ≡ j → eqb j null ≡ false → l ≡ k
    → Found n m s (frame leftward c i y ∷ E) j l → Found n (suc m) s E i k
deeper {m = m} {s} {c} {i} {j} {y} {E} e f g r =
    let a : (r.path ++ (frame leftward c i y ∷ [])) ++ E ≡ r.path ++ (frame leftward c i y ∷ E) =
    append_assoc r.path (frame leftward c i y ∷ []) E in
    record {
      path = r.path ++ (frame leftward c i y ∷ []);
      lefts = edge_more c i y r.lefts;
      colour = r.colour;
      slot = r.slot;
      rest = r.rest;
      site = rw a r.site;
      part = rw a r.part;
      same = rw a (r.same ∙ g);
      finds = leftmost_on m s i j e f ∙ r.finds;
    }

-- The leftmost slot from i down: i itself where its left child x is bare. The budget m makes up for the way E above.
pub successor : {n : ℕ} {s : Links} {c : Colour} {i : ℕ} {y : Sided} {E : Way} (x : Sided) (m : ℕ) → n ≤ m + length E
    → Site n s E (fork leftward c x i y) → Part E (fork leftward c x i y)
    → Found n m s E i (slots (plug E (fork leftward c x i y)))
unfolding plug
successor {s = s} {c} {i} {y} bare m l h o =
    record {
      path = [];
      lefts = low;
      colour = c;
      slot = i;
      rest = y;
      site = h;
      part = o;
      same = refl;
      finds = leftmost_here m s i (cell_of h.tree).this;
    }
successor (fork σ d a j b) zero l h o = absurd (omega (arith, depth h))
successor (fork leftward d a j b) (suc m) l h o =
    deeper (cell_of h.tree).this (solid (cell_of (this_of h.tree)).inside h.cap.small) refl
    (successor a m (omega arith) (inward h) (part_in o))
successor {c = c} {i} {y} {E} (fork rightward d a j b) (suc m) l h o =
    deeper (cell_of h.tree).this (solid (cell_of (this_of h.tree)).inside h.cap.small)
    (slots_turn rightward (frame leftward c i y ∷ E) d a j b)
    (successor b m (omega arith) (turn (inward h)) (part_turn leftward j (part_in o)))
