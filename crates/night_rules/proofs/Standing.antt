-- T3: where no slot shows it broken, the words hold a tree of the used slots. A slot's parents lead to the root, so the tree below
-- it is built with a budget that the steps to the root use up; and a used slot is found in it from the root down.
use mathlib.Core.Path.{◌≡◌, refl, sym, ◌∙◌}
use mathlib.Core.Logic.{◌≢◌, inl, inr}
use mathlib.Core.List.{List, ◌∷◌}
use Prim.Native.Nat.{ℕ, zero, suc, ◌+◌, ◌<◌, ◌≤◌}
use native.Mathlib.Decide.{ℕ_discrete}
use native.Mathlib.Omega.{arith}
use Rattle.slots.specs.Words.{null, state, parent, left, right, free, cell, Side, leftward, rightward, toward}
use Rattle.tree_rules.specs.Find.{slots_of}
use Rattle.tree_rules.specs.Tree.{Tree, leaf, node, top, slots, times, Cell, Hangs, Rooted}
use Rattle.tree_rules.proofs.Rank.{Rank, home, rank_up}
use Rattle.tree_rules.proofs.Reaching.{once_node, top_in, hangs_stand}
use Rattle.tree_rules.proofs.Counting.{times-around, times_append, times_rest}
use Rattle.index_rules.specs.Live.{Live, Fit, root_of, count_of}
use Rattle.index_rules.specs.Sound.{used, T1, T2, T3}
use Rattle.index_rules.proofs.Rules.{small, used_hued}
use Rattle.night_rules.specs.Shows.{Used, LeadsTo, OneChild, Misplaced, under_one, no_child, not_back, same_twice, off_root, Shows3}
use Rattle.night_rules.proofs.Leading.{InSteps, stay, step, rank_steps, leads_steps, steps_most, leads_dec}
use Rattle.night_rules.proofs.Slots
use Rattle.night_rules.proofs.Slots.{sure}

-- What no slot shows broken.
pub record Sits (t : Live) : Type 0 where
  pub rootless : (i : ℕ) → Used t i → i ≡ root_of t → cell t.cells i parent ≡ null
  pub child : (i : ℕ) → Used t i → i ≢ root_of t → OneChild t.cells (cell t.cells i parent) i
  pub back : (i : ℕ) → Used t i → (σ : Side) → cell t.cells i (toward σ) ≢ null
      → cell t.cells (cell t.cells i (toward σ)) parent ≡ i
  pub two : (i : ℕ) → Used t i → cell t.cells i left ≡ cell t.cells i right → cell t.cells i left ≡ null
  pub leads : (i : ℕ) → Used t i → LeadsTo t.cells parent (root_of t) i

-- A link of a member leads to a member.
hangs_below : {n : ℕ} {cells : List ℕ} {q : ℕ} {t : Tree} (σ : Side) (k : ℕ) → Hangs n cells q t → 1 ≤ times k (slots t)
    → cell cells k (toward σ) ≢ null → 1 ≤ times (cell cells k (toward σ)) (slots t)
unfolding slots times
hangs_below σ k Hangs.none h d = absurd (omega arith)
hangs_below {n} {cells} {q} σ k (Hangs.some {c = c} {l} {i} {r} w a b) h d =
    times-around k (slots l) i (slots r) h
    (λ y. omega (arith, into (cell cells k (toward σ)), hangs_below σ k a y d))
    (λ e. here σ e d)
    (λ y. omega (arith, into (cell cells k (toward σ)), hangs_below σ k b y d))
  where
    into : (j : ℕ) → times j (slots l) + times j (slots r) ≤ times j (slots (node c l i r))
    into j = omega (arith, times_append j (slots l) (i ∷ slots r), times_rest j i (slots r))

    here : (σ : Side) → k ≡ i → cell cells k (toward σ) ≢ null → 1 ≤ times (cell cells k (toward σ)) (slots (node c l i r))
    here leftward e d =
        let z : cell cells k left ≡ top l = rw e w.lefts in
        rw z (omega (arith, into (top l), top_in n cells a (λ y. d (z ∙ y))))
    here rightward e d =
        let z : cell cells k right ≡ top r = rw e w.rights in
        rw z (omega (arith, into (top r), top_in n cells b (λ y. d (z ∙ y))))

module _ {t : Live} (fit : Fit t) (one : T1 t) (sits : Sits t) where
  abbrev pub n : ℕ
  n = slots_of t.names

  abbrev pub at : ℕ → ℕ → ℕ
  at i f = cell t.cells i f

  pub parent-used : {i : ℕ} → Used t i → i ≢ root_of t → Used t (at i parent)
  parent-used {i} h m = go (sits.child i h m)
    where
      go : OneChild t.cells (at i parent) i → Used t (at i parent)
      go (inl e) =
          Slots.linked_named fit one (Slots.sides fit one leftward) (one.links i h.inside).parents
          (λ z. Slots.solid fit one h.inside (sym e.0 ∙ z))
      go (inr e) =
          Slots.linked_named fit one (Slots.sides fit one rightward) (one.links i h.inside).parents
          (λ z. Slots.solid fit one h.inside (sym e.1 ∙ z))

  pub child_used : {i : ℕ} (σ : Side) → Used t i → at i (toward σ) ≢ null → Used t (at i (toward σ))
  child_used {i} σ h m =
      Slots.linked fit one (Slots.parents fit one) (Slots.inside fit one (Slots.sides fit one σ) h.inside m)
      (λ z. Slots.solid fit one h.inside (sym (sits.back i h σ m) ∙ z))

  pub root_used : {i d : ℕ} → Used t i → InSteps t.cells parent (root_of t) i d → Used t (root_of t)
  root_used h (stay e) = rw e at h
  root_used h (step m r) = root_used (parent-used h m) r

  -- The tree below a used slot that stands under q.
  record Built (q i : ℕ) : Type 0 where
    tree : Tree
    from : i ≡ top tree
    hangs : Hangs n t.cells q tree
    once : (k : ℕ) → times k (slots tree) ≤ 1

  nothing : {q i : ℕ} → i ≡ null → Built q i
  unfolding slots times
  nothing e = record { tree = leaf; from = e; hangs = Hangs.none; once = λ k. omega arith }

  grow : {q d i : ℕ} → Used t i → at i parent ≡ q → Rank t.cells parent q d → Built i (at i left) → Built i (at i right) → Built q i
  grow {q} {d} {i} h e rk x y =
      let hue = Slots.colour_of_lem fit one h in
      let c : Cell n t.cells q hue.0 (top x.tree) i (top y.tree) =
      record { inside = h.inside; above = e; lefts = x.from; rights = y.from; hued = hue.1 } in
      record {
        tree = node hue.0 x.tree i y.tree;
        from = refl;
        hangs = Hangs.some c x.hangs y.hangs;
        once =
            once_node n t.cells (small fit) c x.hangs y.hangs rk
            (λ z. sym x.from ∙ sits.two i h (x.from ∙ z ∙ sym y.from)) x.once y.once;
      }

  limb : {q i : ℕ} → (i ≢ null → Built q i) → Built q i
  limb {q} {i} again = go (ℕ_discrete i null)
    where
      go : Dec (i ≡ null) → Built q i
      go (yes z) = nothing z
      go (no m) = again m

  build : (fuel d : ℕ) {q i : ℕ} → Used t i → at i parent ≡ q → Rank t.cells parent q d → n ≤ d + fuel → Built q i
  build zero d h e rk l =
      absurd (omega (
        arith,
        steps_most n t.cells parent null (small fit) (Slots.parents fit one).named (Slots.no_cell fit one parent) h.inside
            (rank_steps (rank_up (Slots.solid fit one h.inside) e rk)),
      ))
  build (suc fuel) d {q} {i} h e rk l =
      let up : Rank t.cells parent i (suc d) = rank_up (Slots.solid fit one h.inside) e rk in
      grow h e rk
      (limb (λ m. build fuel (suc d) (child_used leftward h m) (sits.back i h leftward m) up (omega arith)))
      (limb (λ m. build fuel (suc d) (child_used rightward h m) (sits.back i h rightward m) up (omega arith)))

  module _ {tree : Tree} (rooted : Rooted n t.cells (root_of t) tree) where
    found : {i d : ℕ} → Used t i → InSteps t.cells parent (root_of t) i d → 1 ≤ times i (slots tree)
    found {i} h (stay e) =
        let z : i ≡ top tree = e ∙ rooted.from in
        rw z (top_in n t.cells rooted.hangs (λ y. Slots.solid fit one h.inside (z ∙ y)))
    found {i} h (step m r) = go (found (parent-used h m) r) (sits.child i h m)
      where
        by : (σ : Side) → at (at i parent) (toward σ) ≡ i → 1 ≤ times (at i parent) (slots tree) → 1 ≤ times i (slots tree)
        by σ e p = rw e at (hangs_below σ (at i parent) rooted.hangs p (λ z. Slots.solid fit one h.inside (sym e ∙ z)))

        go : 1 ≤ times (at i parent) (slots tree) → OneChild t.cells (at i parent) i → 1 ≤ times i (slots tree)
        go p (inl e) = by leftward e.0 p
        go p (inr e) = by rightward e.1 p

    all : (i : ℕ) → i < n → used t.cells i ≡ times i (slots tree)
    all i l = go (ℕ_discrete (at i state) free) (ℕ_discrete (times i (slots tree)) 0)
      where
        member : times i (slots tree) ≢ 0 → used t.cells i ≡ 1
        member d =
            let s = hangs_stand n t.cells {k = i} rooted.hangs (omega arith) in used_hued t.cells i s.hue s.words.hued

        go : Dec (at i state ≡ free) → Dec (times i (slots tree) ≡ 0) → used t.cells i ≡ times i (slots tree)
        go (yes e) (yes z) = omega (arith, Slots.free-zero t i e)
        go (yes e) (no z) = absurd (omega (arith, Slots.free-zero t i e, member z))
        go (no d) z =
            let h : Used t i = record { inside = l; busy = d } in
            omega (arith, Slots.used_one h, rooted.once i, found h (leads_steps (sits.leads i h)).1)

  sits_three : T2 t → (tree : Tree) × T3 t tree
  unfolding slots times
  sits_three two = go (ℕ_discrete (count_of t) 0)
    where
      go : Dec (count_of t ≡ 0) → (tree : Tree) × T3 t tree
      go (yes e) = (
        leaf,
        record {
          rooted = record { from = two.root.1 e; hangs = Hangs.none; once = λ k. omega arith };
          all = λ i l. Slots.none_used fit one e i l;
        },
      )
      go (no d) =
          let k = Slots.some_used fit one d in
          let r = root_used k.1 (leads_steps (sits.leads k.0 k.1)).1 in
          let b = build n 0 r (sits.rootless (root_of t) r refl) (home refl) (omega arith) in
          let rooted : Rooted n t.cells (root_of t) b.tree = record { from = b.from; hangs = b.hangs; once = b.once } in
          (b.tree, record { rooted = rooted; all = all rooted })

one_child_lem : (cells : List ℕ) (p i : ℕ) → Dec (OneChild cells p i)
one_child_lem cells p i = go (ℕ_discrete (cell cells p left) i) (ℕ_discrete (cell cells p right) i)
  where
    go : Dec (cell cells p left ≡ i) → Dec (cell cells p right ≡ i) → Dec (OneChild cells p i)
    go (yes a) (yes b) = no (elim [ inl h ↦ h.1 b | inr h ↦ h.0 a ])
    go (yes a) (no b) = yes (inl (a, b))
    go (no a) (yes b) = yes (inr (a, b))
    go (no a) (no b) = no (elim [ inl h ↦ a h.0 | inr h ↦ b h.1 ])

-- What no slot shows broken is right.
pub none_sits : {t : Live} → Fit t → T1 t → ((i : ℕ) → Shows3 t i → ⊥) → Sits t
none_sits {t} fit one none =
    record {
      rootless = λ i h e. sure (ℕ_discrete _ _) (λ d. shown i h (under_one e d));
      child = λ i h m. sure (one_child_lem t.cells (cell t.cells i parent) i) (λ d. shown i h (no_child m d));
      back = λ i h σ m. sure (ℕ_discrete _ _) (λ d. shown i h (not_back σ m d));
      two = λ i h e. sure (ℕ_discrete _ _) (λ d. shown i h (same_twice d e));
      leads =
          λ i h.
          sure (leads_dec (slots_of t.names) t.cells parent (root_of t) (small fit) (Slots.parents fit one).named
          (Slots.no_cell fit one parent) i h.inside)
          (λ d. shown i h (off_root d));
    }
  where
    shown : (i : ℕ) → Used t i → Misplaced t i → ⊥
    shown i h m = none i (record { used = h; misplaced = m })

-- Where no slot shows T3 broken, it holds.
pub three_complete : {t : Live} → Fit t → T1 t → T2 t → ((i : ℕ) → Shows3 t i → ⊥) → (tree : Tree) × T3 t tree
three_complete fit one two none = sits_three fit one (none_sits fit one none) two
