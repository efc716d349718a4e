-- T3: the walk passes where the words hold a tree, and takes a visit a slot. No slot stands twice: in a tree whose children point back
-- a slot reached twice stands at two depths, or under two children that are one.
use Rattle.std.proofs.Common.{◌≡◌, ℕ, zero, suc, ◌+◌, ◌-◌, ◌<◌, ◌≤◌, Bool, true, false, eqb, ltb, ◌≢◌, List, ◌∷◌, length, sym, refl, ap}
use Rattle.std.proofs.Common.{◌∙◌, arith, length-append, ltb-true, lt-ltb, eq-eqb, ne_eqb, eqb-true}
use mathlib.Core.Bool.{false≢true}
use native.Mathlib.Decide.{ℕ_discrete, dec_le}
use borrow.Author.Tests.{eqb-false}
use Rattle.slots.specs.Words.{null, pick, state, parent, left, right, cell, Colour, black, red, code}
use Rattle.slots.specs.Answers.{Value, none, some}
use Rattle.slots.proofs.Laws.{none_some}
use Rattle.tree_rules.specs.Tree.{Tree, leaf, node, top, slots, times, Cell, Hangs, Rooted}
use Rattle.tree_rules.specs.Rules.{then, stands, reached}
use Rattle.tree_rules.proofs.Rank.{Rank, home, rank_up, Under, under_self, under_above, under_one_lem, under_deep}
use Rattle.tree_rules.proofs.Counting.{times_append, times_head, times_else, times_rest, times-around, length_most}

-- A number is no refusal.
pub refuted : {A : Type 0} {v : ℕ} → none ≡ some v → A
refuted e = absurd (none_some e)

-- No slot is null.
pub solid : {n i : ℕ} → n ≤ null → i < n → i ≢ null
solid small l e = omega arith

colour-code : (c d : Colour) → code c ≡ code d → c ≡ d
colour-code black black e = refl
colour-code black red e = absurd (omega arith)
colour-code red black e = absurd (omega arith)
colour-code red red e = refl

pub length_node : (c : Colour) (l : Tree) (i : ℕ) (r : Tree) → length (slots (node c l i r)) ≡ length (slots l) + suc (length (slots r))
unfolding slots
length_node c l i r = length-append (slots l) (i ∷ slots r)

times_node : (k : ℕ) (c : Colour) (l : Tree) (i : ℕ) (r : Tree) → times k (slots (node c l i r)) ≡ times k (slots l) + times k (i ∷ slots r)
unfolding slots
times_node k c l i r = times_append k (slots l) (i ∷ slots r)

-- What the test of one slot says.
record Stood (cells : List ℕ) (q i : ℕ) : Type 0 where
  above : cell cells i parent ≡ q
  hue : Colour
  hued : cell cells i state ≡ code hue
  two : cell cells i left ≡ cell cells i right → cell cells i left ≡ null

-- Both of two tests pass.
pub all : (a b : Bool) → pick a b false ≡ true → (a ≡ true) × (b ≡ true)
all true b e = (refl, e)
all false b e = absurd (false≢true e)

stood : (cells : List ℕ) (q i : ℕ) → stands cells q i ≡ true → Stood cells q i
unfolding stands
stood cells q i e =
    let h = all (eqb (cell cells i parent) q) _ e in
    let g = all (pick (eqb (cell cells i state) 1) true (eqb (cell cells i state) 2)) _ h.1 in
    record { above = eqb-true _ _ h.0; hue = hue (eqb (cell cells i state) 1); hued = hued _ refl g.0; two = two _ refl g.1 }
  where
    hue : Bool → Colour
    hue true = black
    hue false = red

    hued : (a : Bool) → eqb (cell cells i state) 1 ≡ a → pick a true (eqb (cell cells i state) 2) ≡ true → cell cells i state ≡ code (hue a)
    hued true p e = eqb-true _ _ p
    hued false p e = eqb-true _ _ e

    two : (a : Bool) → eqb (cell cells i left) null ≡ a
        → pick a true (pick (eqb (cell cells i left) (cell cells i right)) false true) ≡ true
        → cell cells i left ≡ cell cells i right → cell cells i left ≡ null
    two true p e z = eqb-true _ _ p
    two false p e z = absurd (false≢true (rw (eq-eqb _ _ z) at e))

stood_stands : (cells : List ℕ) (q i : ℕ) → Stood cells q i → stands cells q i ≡ true
unfolding stands
stood_stands cells q i h =
    rw (eq-eqb (cell cells i parent) q h.above, hued h.hue h.hued) (two (ℕ_discrete (cell cells i left) null))
  where
    hued : (c : Colour) → cell cells i state ≡ code c → pick (eqb (cell cells i state) 1) true (eqb (cell cells i state) 2) ≡ true
    hued black e = rw e
    hued red e = rw e

    two : Dec (cell cells i left ≡ null)
        → pick (eqb (cell cells i left) null) true (pick (eqb (cell cells i left) (cell cells i right)) false true) ≡ true
    two (yes e) = simp (eq-eqb (cell cells i left) null e)
    two (no d) = simp (ne_eqb (cell cells i left) null d, ne_eqb (cell cells i left) (cell cells i right) (λ e. d (h.two e)))

module _ (n : ℕ) (cells : List ℕ) where
  -- Each member has the words of a node.
  pub record Stand (k : ℕ) : Type 0 where
    pub over : ℕ
    pub hue : Colour
    pub before : ℕ
    pub after : ℕ
    pub words : Cell n cells over hue before k after

  pub hangs_stand : {q k : ℕ} {t : Tree} → Hangs n cells q t → 1 ≤ times k (slots t) → Stand k
  unfolding slots times
  hangs_stand Hangs.none h = absurd (omega arith)
  hangs_stand {q} {k} (Hangs.some {c = c} {l} {i} {r} w a b) h =
      times-around k (slots l) i (slots r) h
      (λ y. hangs_stand a y)
      (λ e. record { over = q; hue = c; before = top l; after = top r; words = rw e w })
      (λ y. hangs_stand b y)

  pub hangs_inside : {q k : ℕ} {t : Tree} → Hangs n cells q t → 1 ≤ times k (slots t) → k < n
  hangs_inside h y = (hangs_stand h y).words.inside

  -- The top of a tree with a member.
  pub top_in : {q : ℕ} {t : Tree} → Hangs n cells q t → top t ≢ null → 1 ≤ times (top t) (slots t)
  top_in Hangs.none d = absurd (d refl)
  top_in (Hangs.some {c = c} {l} {i} {r} w a b) d = omega (arith, times_node i c l i r, times_head i (slots r))

  top-cell : {q : ℕ} {t : Tree} (k : ℕ) → Hangs n cells q t → 1 ≤ times k (slots t) → (top t < n) × (cell cells (top t) parent ≡ q)
  unfolding slots times
  top-cell k Hangs.none h = absurd (omega arith)
  top-cell k (Hangs.some w a b) h = (w.inside, w.above)

  module _ (small : n ≤ null) where
    cell_rank : {q d i l r : ℕ} {c : Colour} → Cell n cells q c l i r → Rank cells parent q d → Rank cells parent i (suc d)
    cell_rank w r = rank_up (solid small w.inside) w.above r

    hangs_under : {q d k : ℕ} {t : Tree} → Hangs n cells q t → Rank cells parent q d → 1 ≤ times k (slots t)
        → Under cells parent d (top t) k
    unfolding slots times
    hangs_under Hangs.none rk h = absurd (omega arith)
    hangs_under {k = k} (Hangs.some {l = l} {i} {r} w a b) rk h =
        times-around k (slots l) i (slots r) h
        (λ y. under_above (top-cell k a y).1 (hangs_under a (cell_rank w rk) y))
        (λ e. rw e (under_self (cell_rank w rk)))
        (λ y. under_above (top-cell k b y).1 (hangs_under b (cell_rank w rk) y))

    pub once_node : {q d : ℕ} {c : Colour} {l : Tree} {i : ℕ} {r : Tree} → Cell n cells q c (top l) i (top r) → Hangs n cells i l
        → Hangs n cells i r → Rank cells parent q d
        → (top l ≡ top r → top l ≡ null) → ((k : ℕ) → times k (slots l) ≤ 1) → ((k : ℕ) → times k (slots r) ≤ 1) → (k : ℕ)
        → times k (slots (node c l i r)) ≤ 1
    once_node {d = d} {c} {l} {i} {r} w a b rk two ol or k =
        go (dec_le 1 (times k (slots l))) (dec_le 1 (times k (slots r))) (ℕ_discrete k i)
      where
        at : k ≡ i → Rank cells parent k (suc d)
        at e = rw e (cell_rank w rk)

        rest : k ≡ i → times k (i ∷ slots r) ≡ 1 + times k (slots r)
        rest e = rw e (times_head i (slots r))

        go : Dec (1 ≤ times k (slots l)) → Dec (1 ≤ times k (slots r)) → Dec (k ≡ i) → times k (slots (node c l i r)) ≤ 1
        go (yes y) (yes z) e =
            absurd (solid small (top-cell k a y).0
            (two (under_one_lem (hangs_under a (cell_rank w rk) y) (hangs_under b (cell_rank w rk) z))))
        go (yes y) (no z) (yes e) = absurd (omega (arith, under_deep (hangs_under a (cell_rank w rk) y) (at e)))
        go (no y) (yes z) (yes e) = absurd (omega (arith, under_deep (hangs_under b (cell_rank w rk) z) (at e)))
        go (yes y) (no z) (no e) = omega (arith, times_node k c l i r, times_else k i (slots r) e, ol k)
        go (no y) (yes z) (no e) = omega (arith, times_node k c l i r, times_else k i (slots r) e, or k)
        go (no y) (no z) (no e) = omega (arith, times_node k c l i r, times_else k i (slots r) e)
        go (no y) (no z) (yes e) = omega (arith, times_node k c l i r, rest e)

    -- What a walk that passed has found: a tree under q, with each slot once, and a visit a slot.
    record Reach (q i v rest : ℕ) : Type 0 where
      tree : Tree
      from : i ≡ top tree
      hangs : Hangs n cells q tree
      once : (k : ℕ) → times k (slots tree) ≤ 1
      spent : length (slots tree) + rest ≡ v

    empty : {q i v rest : ℕ} → i ≡ null → v ≡ rest → Reach q i v rest
    unfolding slots times
    empty e f = record { tree = leaf; from = e; hangs = Hangs.none; once = λ k. omega arith; spent = omega arith }

    grown : {q d i v m rest : ℕ} → Rank cells parent q d → i < n → v ≢ 0 → Stood cells q i → Reach i (cell cells i left) (v - 1) m
        → Reach i (cell cells i right) m rest → Reach q i v rest
    grown {q} {d} {i} rk b w h x y =
        let c : Cell n cells q h.hue (top x.tree) i (top y.tree) =
        record { inside = b; above = h.above; lefts = x.from; rights = y.from; hued = h.hued } in
        record {
          tree = node h.hue x.tree i y.tree;
          from = refl;
          hangs = Hangs.some c x.hangs y.hangs;
          once = once_node c x.hangs y.hangs rk (λ e. sym x.from ∙ h.two (x.from ∙ e ∙ sym y.from)) x.once y.once;
          spent = omega (arith, length_node h.hue x.tree i y.tree, x.spent, y.spent);
        }

    reach : (fuel q i v rest d : ℕ) → Rank cells parent q d → reached fuel n cells q i v ≡ some rest → Reach q i v rest
    unfolding reached
    reach zero q i v rest d rk e = go (eqb i null) refl e
      where
        go : (a : Bool) → eqb i null ≡ a → pick a (some v) none ≡ some rest → Reach q i v rest
        go true p e = empty (eqb-true i null p) (cc)
        go false p e = refuted e
    reach (suc fuel) q i v rest d rk e =
        go (eqb i null) refl (ltb i n) refl (eqb v 0) refl (stands cells q i) refl
        (reached fuel n cells i (cell cells i left) (v - 1)) refl e
        (λ j w m r h. reach fuel i j w m (suc d) r h)
      where
        go : (a : Bool) → eqb i null ≡ a → (b : Bool) → ltb i n ≡ b → (c : Bool) → eqb v 0 ≡ c → (f : Bool) → stands cells q i ≡ f
            → (o : Value) → reached fuel n cells i (cell cells i left) (v - 1) ≡ o
            → pick a (some v) (pick b (pick c none (pick f (then o (λ m. reached fuel n cells i (cell cells i right) m)) none)) none)
            ≡ some rest
            → ((j w m : ℕ) → Rank cells parent i (suc d) → reached fuel n cells i j w ≡ some m → Reach i j w m)
            → Reach q i v rest
        go true p b x c y f s o t e again = empty (eqb-true i null p) (cc)
        go false p false x c y f s o t e again = refuted e
        go false p true x true y f s o t e again = refuted e
        go false p true x false y false s o t e again = refuted e
        go false p true x false y true s none t e again = refuted e
        go false p true x false y true s (some m) t e again =
            let h = stood cells q i s in
            let r : Rank cells parent i (suc d) = rank_up (eqb-false i null p) h.above rk in
            grown rk (ltb-true i n x) (eqb-false v 0 y) h (again (cell cells i left) (v - 1) m r t) (again (cell cells i right) m rest r e)

    -- One visit that passes.
    visit : (fuel q i v : ℕ) → i < n → v ≢ 0 → Stood cells q i
        → reached (suc fuel) n cells q i v
        ≡ then (reached fuel n cells i (cell cells i left) (v - 1)) (λ rest. reached fuel n cells i (cell cells i right) rest)
    unfolding reached
    visit fuel q i v b w h = rw (ne_eqb i null (solid small b), lt-ltb i n b, ne_eqb v 0 w, stood_stands cells q i h)

    -- Two children that are one would stand twice.
    pub two_tops : {l r : Tree} {i : ℕ} → Hangs n cells i l → Hangs n cells i r → times (top l) (slots l) + times (top l) (slots r) ≤ 1
        → top l ≡ top r → top l ≡ null
    two_tops {l} {r} a b once e = go (ℕ_discrete (top l) null)
      where
        go : Dec (top l ≡ null) → top l ≡ null
        go (yes z) = z
        go (no d) = absurd (omega (arith, once, top_in a d, top_in b (λ z. d (e ∙ z)), ap (λ (k : ℕ). times k (slots r)) e))

    reaches : (fuel v : ℕ) {q : ℕ} {t : Tree} → Hangs n cells q t → ((k : ℕ) → times k (slots t) ≤ 1) → length (slots t) ≤ fuel
        → length (slots t) ≤ v
        → reached fuel n cells q (top t) v ≡ some (v - length (slots t))
    unfolding slots reached
    reaches zero v Hangs.none o f g = ap some (omega arith)
    reaches (suc fuel) v Hangs.none o f g = ap some (omega arith)
    reaches zero v (Hangs.some {c = c} {l} {i} {r} w a b) o f g = absurd (omega (arith, length_node c l i r))
    reaches (suc fuel) v {q} (Hangs.some {c = c} {l} {i} {r} w a b) o f g =
        visit fuel q i v w.inside (omega (arith, length_node c l i r))
        (record {
          above = w.above;
          hue = c;
          hued = w.hued;
          two = λ e. w.lefts ∙ two_tops a b (omega (arith, both (top l))) (sym w.lefts ∙ e ∙ w.rights);
        })
        ∙ rw (
          w.lefts,
          reaches fuel (v - 1) a (λ k. omega (arith, both k)) (omega (arith, length_node c l i r)) (omega (arith, length_node c l i r)),
        )
        (rw (
          w.rights,
          reaches fuel (v - 1 - length (slots l)) b (λ k. omega (arith, both k)) (omega (arith, length_node c l i r))
              (omega (arith, length_node c l i r)),
        )
        (ap some (omega (arith, length_node c l i r))))
      where
        both : (k : ℕ) → times k (slots l) + times k (slots r) ≤ 1
        both k = omega (arith, times_node k c l i r, times_rest k i (slots r), o k)

    hangs_unique : {p q : ℕ} {t u : Tree} → top t ≡ top u → Hangs n cells p t → Hangs n cells q u → t ≡ u
    hangs_unique e Hangs.none Hangs.none = refl
    hangs_unique e Hangs.none (Hangs.some c a b) = absurd (solid small c.inside (sym e))
    hangs_unique e (Hangs.some c a b) Hangs.none = absurd (solid small c.inside e)
    hangs_unique {t = node c l i r} {u = node d l' j r'} e (Hangs.some x a b) (Hangs.some y a' b') =
        let f : c ≡ d = colour-code c d (sym x.hued ∙ ap (λ (k : ℕ). cell cells k state) e ∙ y.hued) in
        let g : l ≡ l' = hangs_unique (sym x.lefts ∙ ap (λ (k : ℕ). cell cells k left) e ∙ y.lefts) a a' in
        let h : r ≡ r' = hangs_unique (sym x.rights ∙ ap (λ (k : ℕ). cell cells k right) e ∙ y.rights) b b' in
        λ s. node (f s) (g s) (e s) (h s)

    module _ (root : ℕ) where
      -- With v visits at hand.
      pub reached_tree : (v rest : ℕ) → reached v n cells null root v ≡ some rest
          → (t : Tree) × Rooted n cells root t × (length (slots t) + rest ≡ v)
      reached_tree v rest e =
          let h = reach v null root v rest 0 (home refl) e in
          (h.tree, record { from = h.from; hangs = h.hangs; once = h.once }, h.spent)

      pub tree_reached : (v : ℕ) {t : Tree} → Rooted n cells root t → length (slots t) ≤ v
          → reached v n cells null root v ≡ some (v - length (slots t))
      tree_reached v h l = rw h.from (reaches v v h.hangs h.once l l)

      pub reached-rooted : (rest : ℕ) → reached n n cells null root n ≡ some rest
          → (t : Tree) × Rooted n cells root t × (length (slots t) + rest ≡ n)
      reached-rooted rest e = reached_tree n rest e

      pub rooted_most : {t : Tree} → Rooted n cells root t → length (slots t) ≤ n
      rooted_most {t} h = length_most n (slots t) (λ k y. hangs_inside h.hangs y) h.once

      pub rooted-reached : {t : Tree} → Rooted n cells root t → reached n n cells null root n ≡ some (n - length (slots t))
      rooted-reached h = tree_reached n h (rooted_most h)

      pub rooted_unique : {t u : Tree} → Rooted n cells root t → Rooted n cells root u → t ≡ u
      rooted_unique h g = hangs_unique (sym h.from ∙ g.from) h.hangs g.hangs
