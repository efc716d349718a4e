-- T3, the other way: in a tree each slot is where it belongs, so none shows T3 broken.
use mathlib.Core.Path.{◌≡◌, refl, sym, ◌∙◌}
use mathlib.Core.Logic.{◌≢◌, inl, inr}
use mathlib.Core.List.{List, ◌∷◌}
use Prim.Native.Nat.{ℕ, ◌+◌, ◌≤◌}
use native.Mathlib.Omega.{arith}
use Rattle.slots.specs.Words.{null, parent, left, right, cell, Side, leftward, rightward, toward, other, Colour}
use Rattle.tree_rules.specs.Find.{slots_of}
use Rattle.tree_rules.specs.Tree.{Tree, node, top, slots, times, Cell, Hangs}
use Rattle.tree_rules.proofs.Reaching.{two_tops, solid}
use Rattle.tree_rules.proofs.Counting.{times-around, times_append, times_rest}
use Rattle.index_rules.specs.Live.{Live, Fit, root_of}
use Rattle.index_rules.specs.Sound.{used, T3}
use Rattle.index_rules.proofs.Rules.{small}
use Rattle.night_rules.specs.Shows.{LeadsTo, there, one_more, OneChild, Misplaced, under_one, no_child, not_back, same_twice, off_root}
use Rattle.night_rules.specs.Shows.{Shows3}
use Rattle.night_rules.proofs.Slots.{used_one}

pub leads_on : {cells : List ℕ} {f x y k : ℕ} → cell cells x f ≡ y → LeadsTo cells f x k → LeadsTo cells f y k
leads_on {cells} {f} {x} {y} {k} e (there z) = let h : cell cells k f ≡ y = rw z e in one_more (there h)
leads_on e (one_more l) = one_more (leads_on e l)

-- Both sides of a node, and the node, in counts.
pub parts : (k : ℕ) (c : Colour) (l : Tree) (i : ℕ) (r : Tree) → times k (slots l) + times k (slots r) ≤ times k (slots (node c l i r))
unfolding slots
parts k c l i r = omega (arith, times_append k (slots l) (i ∷ slots r), times_rest k i (slots r))

module _ (n : ℕ) (cells : List ℕ) (small : n ≤ null) where
  -- The member k of a tree under q is its top, or exactly one of its parent's children.
  data TreeSeat (q x k : ℕ) : Type 0 where
    first : k ≡ x → cell cells k parent ≡ q → TreeSeat q x k
    under : OneChild cells (cell cells k parent) k → TreeSeat q x k

  record TreeSeated (q x k : ℕ) : Type 0 where
    seat : TreeSeat q x k
    back : (σ : Side) → cell cells k (toward σ) ≢ null → cell cells (cell cells k (toward σ)) parent ≡ k
    two : cell cells k left ≡ cell cells k right → cell cells k left ≡ null
    leads : LeadsTo cells parent x k

  pub top_above : {q : ℕ} {t : Tree} → Hangs n cells q t → top t ≢ null → cell cells (top t) parent ≡ q
  top_above Hangs.none d = absurd (d refl)
  top_above (Hangs.some w a b) d = w.above

  module _ {q : ℕ} {c : Colour} {l : Tree} {i : ℕ} {r : Tree} (w : Cell n cells q c (top l) i (top r)) (a : Hangs n cells i l)
      (b : Hangs n cells i r) (once : (k : ℕ) → times k (slots (node c l i r)) ≤ 1) where
    apart : top l ≡ top r → top l ≡ null
    apart = two_tops n cells small a b (omega (arith, once (top l), parts (top l) c l i r))

    here : TreeSeated q i i
    here =
        record {
          seat = first refl w.above;
          back = back;
          two = λ e. w.lefts ∙ apart (sym w.lefts ∙ e ∙ w.rights);
          leads = there refl;
        }
      where
        back : (σ : Side) → cell cells i (toward σ) ≢ null → cell cells (cell cells i (toward σ)) parent ≡ i
        back leftward d = rw w.lefts (top_above a (λ z. d (w.lefts ∙ z)))
        back rightward d = rw w.rights (top_above b (λ z. d (w.rights ∙ z)))

    -- What stands below one of the two links.
    beside : (σ : Side) {x k : ℕ} → cell cells i (toward σ) ≡ x → cell cells i (toward (other σ)) ≢ x → cell cells x parent ≡ i
        → TreeSeated i x k → TreeSeated q i k
    beside σ {x} {k} e d above h = record { seat = go h.seat; back = h.back; two = h.two; leads = leads_on above h.leads }
      where
        seats : (σ : Side) → cell cells i (toward σ) ≡ k → cell cells i (toward (other σ)) ≢ k → OneChild cells i k
        seats leftward p m = inl (p, m)
        seats rightward p m = inr (m, p)

        go : TreeSeat i x k → TreeSeat q i k
        go (first z f) = under (rw f (seats σ (e ∙ sym z) (λ y. d (y ∙ z))))
        go (under o) = under o

  -- A tree with a member has a top.
  pub has_top : {q : ℕ} {t : Tree} (k : ℕ) → Hangs n cells q t → 1 ≤ times k (slots t) → top t ≢ null
  unfolding slots times
  has_top k Hangs.none y = absurd (omega arith)
  has_top k (Hangs.some w a b) y = solid small w.inside

  seated : {q : ℕ} {t : Tree} (k : ℕ) → Hangs n cells q t → ((j : ℕ) → times j (slots t) ≤ 1) → 1 ≤ times k (slots t)
      → TreeSeated q (top t) k
  unfolding slots times
  seated k Hangs.none once y = absurd (omega arith)
  seated {q} k (Hangs.some {c = c} {l} {i} {r} w a b) once y =
      times-around k (slots l) i (slots r) y
      (λ z. beside w a b once leftward w.lefts
      (λ e. has_top k a z (apart w a b once (sym (sym w.rights ∙ e)))) (top_above a (has_top k a z))
      (seated k a (λ j. omega (arith, once j, parts j c l i r)) z))
      (λ e. rw e (here w a b once))
      (λ z. beside w a b once rightward w.rights
      (λ e. has_top k b z (sym (sym w.lefts ∙ e) ∙ apart w a b once (sym w.lefts ∙ e))) (top_above b (has_top k b z))
      (seated k b (λ j. omega (arith, once j, parts j c l i r)) z))

-- Where T3 holds no slot shows it broken.
pub three_none : {t : Live} → Fit t → {tree : Tree} → T3 t tree → (i : ℕ) → Shows3 t i → ⊥
three_none {t} fit {tree} three i h = go h.misplaced
  where
    z : 1 ≤ times i (slots tree)
    z = omega (arith, three.all i h.used.inside, used_one h.used)

    s : TreeSeated (slots_of t.names) t.cells (small fit) null (top tree) i
    s = seated (slots_of t.names) t.cells (small fit) i three.rooted.hangs three.rooted.once z

    root : root_of t ≡ top tree
    root = three.rooted.from

    go : Misplaced t i → ⊥
    go (under_one e d) =
        d (rw (e ∙ root) (top_above (slots_of t.names) t.cells (small fit) three.rooted.hangs
        (has_top (slots_of t.names) t.cells (small fit) i three.rooted.hangs z)))
    go (no_child e d) = seats s.seat
      where
        seats : TreeSeat (slots_of t.names) t.cells (small fit) null (top tree) i → ⊥
        seats (first y f) = e (y ∙ sym root)
        seats (under o) = d o
    go (not_back σ m d) = d (s.back σ m)
    go (same_twice m e) = m (s.two e)
    go (off_root d) = d (rw root s.leads)
