-- T8: the walk's number is that of the slots below a link, so a slot passes exactly where that is stored for it. A slot of the tree has
-- what its subtree says, and every other slot 0.
use Rattle.std.proofs.Common.{◌≡◌, ℕ, zero, suc, ◌+◌, ◌≤◌, Bool, true, false, eqb, ◌↔◌, List, [], ◌∷◌, length, sym, refl, ap, ◌∙◌, arith}
use Rattle.std.proofs.Common.{eq-eqb, ne_eqb, eqb-true, le-leb}
use mathlib.Core.Bool.{false≢true}
use native.Mathlib.Decide.{ℕ_discrete, dec_le}
use lib.ListN.{get_or-eq_default}
use borrow.Author.Tests.{lt-leb}
use Rattle.slots.specs.Words.{null, pick, state, left, right, cell, Colour}
use Rattle.slots.specs.Answers.{Value, none, some}
use Rattle.slots.proofs.Laws.{some_is, pick_eq, pick_ne}
use Rattle.tree_rules.specs.Tree.{Tree, leaf, node, top, slots, times, Hangs, Rooted}
use Rattle.tree_rules.specs.Sizes.{size_word, only, size_in, SizedBy, SizedSlots, has_size}
use Rattle.tree_rules.specs.Rules.{then, is_some, levelled, level, with_parts, slots_below, all_sized}
use Rattle.tree_rules.proofs.Reaching.{refuted, length_node, rooted_most}
use Rattle.tree_rules.proofs.Counting.{hit, hit_same, hit_other, times_append}

pub only_same : (k v : ℕ) → only k k v ≡ v
unfolding only
only_same k v = pick_eq {m = k} {n = k} v 0 refl

pub only_none : (k i v : ℕ) → hit k i ≡ 0 → only k i v ≡ 0
unfolding only
only_none k i v e = go (ℕ_discrete k i)
  where
    go : Dec (k ≡ i) → only k i v ≡ 0
    go (yes q) = absurd (omega (arith, hit_same {k = k} {i = i} q))
    go (no d) = pick_ne v 0 d

times_node : (k : ℕ) (c : Colour) (l : Tree) (i : ℕ) (r : Tree)
    → times k (slots (node c l i r)) ≡ hit k i + times k (slots l) + times k (slots r)
unfolding slots times
times_node k c l i r = omega (arith, times_append k (slots l) (i ∷ slots r))

pub size_in_none : (k : ℕ) (t : Tree) → times k (slots t) ≡ 0 → size_in k t ≡ 0
unfolding size_in
size_in_none k leaf e = refl
size_in_none k (node c l i r) e =
    let n = times_node k c l i r in
    omega (
      arith,
      only_none k i (length (slots (node c l i r))) (omega arith),
      size_in_none k l (omega arith),
      size_in_none k r
          (omega arith),
    )

-- The slot at the top has all, and a slot further down what its side says.
module _ (c : Colour) (l : Tree) (i : ℕ) (r : Tree) (k : ℕ) (o : times k (slots (node c l i r)) ≤ 1) where
  at_top : k ≡ i → size_in k (node c l i r) ≡ length (slots (node c l i r))
  unfolding size_in
  at_top e =
      let m = times_node k c l i r in
      let f : only k i (length (slots (node c l i r))) ≡ length (slots (node c l i r)) = rw e (only_same i _) in
      omega (
        arith,
        hit_same {k = k} {i = i} e,
        size_in_none k l (omega (arith, hit_same {k = k} {i = i} e)),
        size_in_none k r (omega (arith, hit_same {k = k} {i = i} e)),
      )

  at_left : 1 ≤ times k (slots l) → size_in k (node c l i r) ≡ size_in k l
  unfolding size_in
  at_left h =
      let m = times_node k c l i r in
      omega (arith, only_none k i (length (slots (node c l i r))) (omega arith), size_in_none k r (omega arith))

  at_right : 1 ≤ times k (slots r) → size_in k (node c l i r) ≡ size_in k r
  unfolding size_in
  at_right h =
      let m = times_node k c l i r in
      omega (arith, only_none k i (length (slots (node c l i r))) (omega arith), size_in_none k l (omega arith))

-- Slot by slot down the tree: each has the number of its subtree.
pub data Each (sizes : List ℕ) : Tree → Type 0 where
  nothing : Each sizes leaf
  each : {c : Colour} {l : Tree} {i : ℕ} {r : Tree} → size_word sizes i ≡ length (slots (node c l i r)) → Each sizes l → Each sizes r
      → Each sizes (node c l i r)

module _ {sizes : List ℕ} where
  -- At the top of a tree stands its number; at null there is none.
  pub whole_size : length sizes ≤ null → {t : Tree} → Each sizes t → size_word sizes (top t) ≡ length (slots t)
  unfolding slots
  whole_size small nothing = get_or-eq_default sizes 0 (omega arith)
  whole_size small (each e a b) = e

  pub each_sized : {t : Tree} → ((j : ℕ) → times j (slots t) ≤ 1) → Each sizes t → SizedSlots sizes t
  unfolding slots times
  each_sized o nothing k h = absurd (omega arith)
  each_sized o (each {c} {l = a} {i} {r = b} e x y) k h =
      go (ℕ_discrete k i) (dec_le 1 (times k (slots a)))
      (each_sized (λ j. omega (arith, o j, times_node j c a i b)) x k)
      (each_sized (λ j. omega (arith, o j, times_node j c a i b)) y k)
    where
      go : Dec (k ≡ i) → Dec (1 ≤ times k (slots a))
          → (1 ≤ times k (slots a) → size_word sizes k ≡ size_in k a) → (1 ≤ times k (slots b) → size_word sizes k ≡ size_in k b)
          → size_word sizes k ≡ size_in k (node c a i b)
      go (yes q) d f g = ap (size_word sizes) q ∙ e ∙ sym (at_top c a i b k (o k) q)
      go (no d) (yes u) f g = f u ∙ sym (at_left c a i b k (o k) u)
      go (no d) (no u) f g =
          let m : 1 ≤ times k (slots b) = omega (arith, times_node k c a i b, hit_other {k = k} {i = i} d) in
          g m ∙ sym (at_right c a i b k (o k) m)

  -- And back: what the slots of a subtree have is told by the subtree alone.
  pub sized_each : (t : Tree) → ((j : ℕ) → times j (slots t) ≤ 1) → SizedSlots sizes t → Each sizes t
  unfolding slots
  sized_each leaf o f = nothing
  sized_each (node c l i r) o f =
      each (f i (omega (arith, times_node i c l i r, hit_same {k = i} {i = i} refl)) ∙ at_top c l i r i (o i) refl)
      (sized_each l (λ j. omega (arith, o j, times_node j c l i r))
      (λ k h. f k (omega (arith, times_node k c l i r)) ∙ at_left c l i r k (o k) h))
      (sized_each r (λ j. omega (arith, o j, times_node j c l i r))
      (λ k h. f k (omega (arith, times_node k c l i r)) ∙ at_right c l i r k (o k) h))

-- T8 whole is T8 of the tree's slots, and 0 in every other.
pub sized_parts : (sizes : List ℕ) (t : Tree)
    → SizedBy sizes t ↔ (SizedSlots sizes t × ((k : ℕ) → times k (slots t) ≡ 0 → size_word sizes k ≡ 0))
sized_parts sizes t = (λ z. (λ k h. z k, λ k e. z k ∙ size_in_none k t e), λ p k. go p.0 p.1 k (dec_le 1 (times k (slots t))))
  where
    go : SizedSlots sizes t → ((k : ℕ) → times k (slots t) ≡ 0 → size_word sizes k ≡ 0) → (k : ℕ) → Dec (1 ≤ times k (slots t))
        → size_word sizes k ≡ size_in k t
    go f g k (yes l) = f k l
    go f g k (no d) = let e : times k (slots t) ≡ 0 = omega arith in g k e ∙ sym (size_in_none k t e)

-- The number of a slot, from those of its two children, where it is stored.
abbrev summed : List ℕ → ℕ → Value → Value → Value
summed sizes i x y = then x (λ a. then y (λ b. pick (has_size sizes i (with_parts a b)) (some (with_parts a b)) none))

pub record Summed (sizes : List ℕ) (i m : ℕ) (x y : Value) : Type 0 where
  pub lefts : ℕ
  pub rights : ℕ
  pub first : x ≡ some lefts
  pub second : y ≡ some rights
  pub stored : has_size sizes i m ≡ true
  pub all : with_parts lefts rights ≡ m

pub summed_parts : (sizes : List ℕ) (i : ℕ) (x y : Value) (m : ℕ) → summed sizes i x y ≡ some m → Summed sizes i m x y
summed_parts sizes i none y m e = refuted e
summed_parts sizes i (some a) none m e = refuted e
summed_parts sizes i (some a) (some b) m e = go (has_size sizes i (with_parts a b)) refl e
  where
    go : (t : Bool) → has_size sizes i (with_parts a b) ≡ t → pick t (some (with_parts a b)) none ≡ some m
        → Summed sizes i m (some a) (some b)
    go false p e = refuted e
    go true p e =
        let z : with_parts a b ≡ m = some_is e in
        record { lefts = a; rights = b; first = refl; second = refl; stored = rw (← z) p; all = z }

-- T8's number on the tree itself.
weights : List ℕ → Tree → Value
weights sizes leaf = some 0
weights sizes (node c l i r) = summed sizes i (weights sizes l) (weights sizes r)

module _ (n : ℕ) (cells sizes : List ℕ) (small : n ≤ null) (long : length sizes ≡ n) where
  walk_weights : (depth : ℕ) {q : ℕ} {t : Tree} → Hangs n cells q t → length (slots t) ≤ depth
      → slots_below depth cells sizes (top t) ≡ weights sizes t
  unfolding slots_below slots weights
  walk_weights zero Hangs.none h = refl
  walk_weights (suc depth) Hangs.none h = refl
  walk_weights zero (Hangs.some {c = c} {l} {i} {r} w a b) h = absurd (omega (arith, length_node c l i r))
  walk_weights (suc depth) (Hangs.some {c = c} {l} {i} {r} w a b) h =
      rw (
        ne_eqb i null (omega arith),
        w.lefts,
        w.rights,
        walk_weights depth a (omega (arith, length_node c l i r)),
        walk_weights depth b (omega (arith, length_node c l i r)),
      )

  -- A slot of the tree has a size stored: the test is whether it is this number.
  stored : {i : ℕ} (m : ℕ) → suc i ≤ n → has_size sizes i m ≡ true → size_word sizes i ≡ m
  unfolding has_size
  stored {i} m l e = eqb-true _ _ (rw (lt-leb (length sizes) i (omega (arith, long))) at e)

  stores : {i : ℕ} (m : ℕ) → suc i ≤ n → size_word sizes i ≡ m → has_size sizes i m ≡ true
  unfolding has_size
  stores {i} m l e = rw (lt-leb (length sizes) i (omega (arith, long))) (eq-eqb _ _ e)

  weights_each : {q : ℕ} {t : Tree} (m : ℕ) → Hangs n cells q t → weights sizes t ≡ some m → (m ≡ length (slots t)) × Each sizes t
  unfolding weights slots with_parts
  weights_each m Hangs.none e = (sym (some_is e), nothing)
  weights_each m (Hangs.some {c = c} {l} {i} {r} w a b) e =
      let p = summed_parts sizes i (weights sizes l) (weights sizes r) m e in
      let x = weights_each p.lefts a p.first in
      let y = weights_each p.rights b p.second in
      let z : m ≡ length (slots (node c l i r)) = omega (arith, length_node c l i r, x.0, y.0, p.all) in
      (z, each (stored m w.inside p.stored ∙ z) x.1 y.1)

  with_parts_lem : (c : Colour) (l : Tree) (i : ℕ) (r : Tree)
      → with_parts (length (slots l)) (length (slots r)) ≡ length (slots (node c l i r))
  unfolding with_parts
  with_parts_lem c l i r = omega (arith, length_node c l i r)

  each_weights : {q : ℕ} {t : Tree} → Hangs n cells q t → Each sizes t → weights sizes t ≡ some (length (slots t))
  unfolding weights slots
  each_weights Hangs.none nothing = refl
  each_weights (Hangs.some {c = c} {l} {i} {r} w a b) (each e x y) =
      let z : with_parts (length (slots l)) (length (slots r)) ≡ length (slots (node c l i r)) = with_parts_lem c l i r in
      rw (each_weights a x, each_weights b y, z, stores (length (slots (node c l i r))) w.inside e)

  module _ (root : ℕ) {t : Tree} (tree : Rooted n cells root t) where
    sized_tree : all_sized n cells sizes root ≡ is_some (weights sizes t)
    unfolding all_sized
    sized_tree = rw (tree.from, walk_weights n tree.hangs (rooted_most n cells small root tree))

    pub all_sized_lem : (all_sized n cells sizes root ≡ true) ↔ SizedSlots sizes t
    all_sized_lem = (
      λ e. to (weights sizes t) refl (sym sized_tree ∙ e),
      λ z. sized_tree ∙ ap is_some (each_weights tree.hangs (sized_each t tree.once z)),
    )
      where
        to : (x : Value) → weights sizes t ≡ x → is_some x ≡ true → SizedSlots sizes t
        to none p e = absurd (false≢true e)
        to (some m) p e = each_sized tree.once (weights_each m tree.hangs p).1

-- Where no size is stored, none is asked: what T6's walk passes, T8's does.
any_size : (i m : ℕ) → has_size [] i m ≡ true
unfolding has_size
any_size i m = rw (le-leb 0 i (omega arith))

module _ (cells : List ℕ) where
  unsized : (depth i b : ℕ) → levelled depth cells i ≡ some b → (w : ℕ) × (slots_below depth cells [] i ≡ some w)
  unfolding levelled slots_below
  unsized zero i b e = go (eqb i null) e
    where
      go : (t : Bool) → pick t (some 0) none ≡ some b → (w : ℕ) × (pick t (some 0) none ≡ some w)
      go true e = (0, refl)
      go false e = refuted e
  unsized (suc depth) i b e =
      go (eqb i null) (levelled depth cells (cell cells i left)) (levelled depth cells (cell cells i right)) e
      (unsized depth (cell cells i left)) (unsized depth (cell cells i right))
    where
      go : (t : Bool) (u v : Value)
          → pick t (some 0) (then u (λ k. then v (λ m. pick (eqb k m) (some (pick (eqb (cell cells i state) 2) k (k + 1))) none))) ≡ some b
          → ((k : ℕ) → u ≡ some k → (w : ℕ) × (slots_below depth cells [] (cell cells i left) ≡ some w))
          → ((k : ℕ) → v ≡ some k → (w : ℕ) × (slots_below depth cells [] (cell cells i right) ≡ some w))
          → (w : ℕ)
          × (pick t (some 0)
          (summed [] i (slots_below depth cells [] (cell cells i left)) (slots_below depth cells [] (cell cells i right)))
          ≡ some w)
      go true u v e f g = (0, refl)
      go false none v e f g = refuted e
      go false (some k) none e f g = refuted e
      go false (some k) (some m) e f g =
          let x = f k refl in
          let y = g m refl in
          (with_parts x.0 y.0, rw (x.1, y.1, any_size i (with_parts x.0 y.0)))

  pub level_sized : (n root : ℕ) → level n cells root ≡ true → all_sized n cells [] root ≡ true
  unfolding level all_sized
  level_sized n root e = go (levelled n cells root) refl e
    where
      go : (x : Value) → levelled n cells root ≡ x → is_some x ≡ true → is_some (slots_below n cells [] root) ≡ true
      go none p e = absurd (false≢true e)
      go (some b) p e = ap is_some (unsized n root b p).1
