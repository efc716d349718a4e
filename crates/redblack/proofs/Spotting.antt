-- The search for a spot keeps the pair between its neighbours: it goes left below a greater pair and right above a lesser one.
-- So the slot where it ends is next to the pair in the order, and no way is longer than there are slots.
-- Parts: the capacity bounds the depth; the order seen from a side, and the test of the search; rising lists, and the subtree on a side;
-- the gap next to a pair; one step of the search, and all of them; a pair put in at its gap keeps the list rising; the spot that is found,
-- and its side.
use mathlib.Core.Path.{◌≡◌, refl, ap, ◌∙◌, sym}
use mathlib.Core.Logic.{◌≢◌, ◌⊎◌, inl, inr}
use mathlib.Core.List.{List, [], ◌∷◌, ◌++◌, append_assoc}
use mathlib.Core.Bool.{Bool, true, false}
use Prim.Native.Nat.{ℕ, suc, zero, ◌+◌, ◌<◌, ◌≤◌}
use native.Mathlib.Omega.{arith}
use native.Mathlib.Decide.{ℕ_discrete, dec_le}
use lib.ListN.{length}
use lib.Dec.{eqb}
use borrow.Author.Tests.{ne_eqb, lt-ltb, le-ltb}
use Rattle.slots.specs.Words.{null, pick, left, right, cell, name_of, hash_part, key_part, Colour, Side, other, toward, leftward, rightward}
use Rattle.slots.specs.Pairs.{Pair, pair, pair_of, Less, before}
use Rattle.slots.proofs.Order.{less_irreflexive, less_transitive, less_total}
use Rattle.redblack.specs.Links.{Links, read}
use Rattle.tree_rules.specs.Tree.{Tree, leaf, node, slots, times, top, Hangs, Rising, Below, empty, rise, last}
use Rattle.redblack.specs.Sided.{Way, Site, hit, frame}
use Rattle.redblack.specs.Hanging.{Spot, spot, side_for, descended, spotted}
use Rattle.redblack.specs.Holding.{Holds, Has, depth}
use Rattle.redblack.proofs.Ends.{Beside, Link, on}
use Rattle.redblack.proofs.Frames.{hit_same, hit_ne, inward, turn}
use Rattle.redblack.proofs.Depth
use Rattle.redblack.proofs.Bridge.{sided, sited}

-- The capacity bounds the depth.
depth_below : {n : ℕ} {s : Links} {C : Way} (t : Tree) → Site n s C (sided t) → length C ≤ n → length C + depth t ≤ n
unfolding sided depth
depth_below leaf h l = omega arith
depth_below {C = C} (node c x i y) h l =
    let d = Depth.depth h in
    omega (
      arith,
      depth_below {C = frame leftward c i (sided y) ∷ C} x (inward h) (omega arith),
      depth_below {C = frame rightward c i (sided x) ∷ C} y (inward (turn h)) (omega arith),
    )

pub depth_cap : {n : ℕ} {s : Links} (t : Tree) → Holds n s t → depth t ≤ n
depth_cap t h = omega (arith, depth_below {C = []} t (sited t h) (omega arith))

-- The order seen from a side: toward the left lesser pairs stand, toward the right greater ones.
abbrev LessOn : Side → Pair → Pair → Type 0
LessOn leftward p q = Less p q
LessOn rightward p q = Less q p

on_transitive : (σ : Side) (p q r : Pair) → LessOn σ p q → LessOn σ q r → LessOn σ p r
on_transitive leftward p q r a b = less_transitive p q r a b
on_transitive rightward p q r a b = less_transitive r q p b a

on_irreflexive : (σ : Side) (p : Pair) → LessOn σ p p → ⊥
on_irreflexive leftward p a = less_irreflexive p a
on_irreflexive rightward p a = less_irreflexive p a

on_flip : (σ : Side) (p q : Pair) → LessOn (other σ) p q → LessOn σ q p
on_flip leftward p q a = a
on_flip rightward p q a = a

on_flop : (σ : Side) (p q : Pair) → LessOn σ q p → LessOn (other σ) p q
on_flop leftward p q a = a
on_flop rightward p q a = a

-- The test of the search is the order of pairs.
less_before : (h k a o : ℕ) → Less (pair h k) (pair a o) → before h k a o ≡ true
unfolding Less
less_before h k a o (inl l) = simp (lt-ltb h a l)
less_before h k a o (inr l) = simp (le-ltb h a (omega arith), le-ltb a h (omega arith), lt-ltb k o l.1)

less_after : (h k a o : ℕ) → Less (pair a o) (pair h k) → before h k a o ≡ false
unfolding Less
less_after h k a o (inl l) = simp (le-ltb h a (omega arith), lt-ltb a h l)
less_after h k a o (inr l) = simp (le-ltb h a (omega arith), le-ltb a h (omega arith), le-ltb k o (omega arith))

side_for_lem : (names : List ℕ) (p h k : ℕ) (σ : Side) → LessOn σ (pair h k) (pair_of names p) → side_for names p h k ≡ toward σ
side_for_lem names p h k leftward l = rw (less_before h k (name_of names p hash_part) (name_of names p key_part) l)
side_for_lem names p h k rightward l = rw (less_after h k (name_of names p hash_part) (name_of names p key_part) l)

-- Where the search ends, and where it goes on.
descended_end : (names cells : List ℕ) (steps p h k f : ℕ) → side_for names p h k ≡ f → cell cells p f ≡ null
    → descended names cells steps p h k ≡ spot p f
unfolding descended
descended_end names cells zero p h k f e z = rw e
descended_end names cells (suc steps) p h k f e z = rw (e, z)

descended_on : (names cells : List ℕ) (steps p h k f q : ℕ) → side_for names p h k ≡ f → cell cells p f ≡ q → eqb q null ≡ false
    → descended names cells (suc steps) p h k ≡ descended names cells steps q h k
unfolding descended
descended_on names cells steps p h k f q e z d = rw (e, z, d)

-- What stands in a list.
times_append : (k : ℕ) (x y : List ℕ) → times k (x ++ y) ≡ times k x + times k y
unfolding times
times_append k [] y = omega arith
times_append k (j ∷ x) y = omega (arith, times_append k x y)

times_cons : (k i : ℕ) (l : List ℕ) → times k (i ∷ l) ≡ hit k i + times k l
unfolding times hit
times_cons k i l = refl

times_nil : (k : ℕ) → times k [] ≡ 0
unfolding times
times_nil k = refl

in_cons : (j i : ℕ) (l : List ℕ) → 1 ≤ times j (i ∷ l) → (j ≡ i) ⊎ (1 ≤ times j l)
in_cons j i l h = go (ℕ_discrete j i)
  where
    go : Dec (j ≡ i) → (j ≡ i) ⊎ (1 ≤ times j l)
    go (yes e) = inl e
    go (no d) = inr (omega (arith, times_cons j i l, hit_ne d))

in_append : (j : ℕ) (x y : List ℕ) → 1 ≤ times j (x ++ y) → (1 ≤ times j x) ⊎ (1 ≤ times j y)
in_append j x y h = go (dec_le 1 (times j x))
  where
    go : Dec (1 ≤ times j x) → (1 ≤ times j x) ⊎ (1 ≤ times j y)
    go (yes e) = inl e
    go (no d) = inr (omega (arith, times_append j x y))

-- A rising list, by its parts.
below_all : {names : List ℕ} {p : Pair} {l : List ℕ} → Below names p l → (j : ℕ) → 1 ≤ times j l → Less p (pair_of names j)
below_all last j m = absurd (omega (arith, times_nil j))
below_all {names} {p} (Below.before {i} {l} a b) j m = go (in_cons j i l m) (below_all b j)
  where
    go : (j ≡ i) ⊎ (1 ≤ times j l) → (1 ≤ times j l → Less p (pair_of names j)) → Less p (pair_of names j)
    go (inl e) f = rw e a
    go (inr u) f = f u

all_below : (names : List ℕ) (p : Pair) (l : List ℕ) → ((j : ℕ) → 1 ≤ times j l → Less p (pair_of names j)) → Below names p l
all_below names p [] f = last
all_below names p (i ∷ l) f =
    Below.before (f i (omega (arith, times_cons i i l, hit_same i))) (all_below names p l (λ j m. f j (omega (arith, times_cons j i l))))

rising_left : {names : List ℕ} (x y : List ℕ) → Rising names (x ++ y) → Rising names x
rising_left [] y h = empty
rising_left {names} (i ∷ x) y (rise b h) =
    rise (all_below names (pair_of names i) x (λ j m. below_all b j (omega (arith, times_append j x y)))) (rising_left x y h)

rising_right : {names : List ℕ} (x y : List ℕ) → Rising names (x ++ y) → Rising names y
rising_right [] y h = h
rising_right (i ∷ x) y (rise b h) = rising_right x y h

rising_cross : {names : List ℕ} (x y : List ℕ) → Rising names (x ++ y) → (j k : ℕ) → 1 ≤ times j x → 1 ≤ times k y
    → Less (pair_of names j) (pair_of names k)
rising_cross [] y h j k m n = absurd (omega (arith, times_nil j))
rising_cross {names} (i ∷ x) y (rise b h) j k m n = go (in_cons j i x m) (λ u. rising_cross x y h j k u n)
  where
    go : (j ≡ i) ⊎ (1 ≤ times j x) → (1 ≤ times j x → Less (pair_of names j) (pair_of names k)) → Less (pair_of names j) (pair_of names k)
    go (inl e) f = rw e (below_all b k (omega (arith, times_append k x y)))
    go (inr u) f = f u

rising_below : {names : List ℕ} {i : ℕ} {l : List ℕ} → Rising names (i ∷ l) → Below names (pair_of names i) l
rising_below (rise b h) = b

rising_tail : {names : List ℕ} {i : ℕ} {l : List ℕ} → Rising names (i ∷ l) → Rising names l
rising_tail (rise b h) = h

-- The subtree of a node on a side.
abbrev near : Side → Tree → Tree → Tree
near leftward l r = l
near rightward l r = r

near_rising : {names : List ℕ} (σ : Side) (c : Colour) (l : Tree) (i : ℕ) (r : Tree) → Rising names (slots (node c l i r))
    → Rising names (slots (near σ l r))
unfolding slots
near_rising leftward c l i r h = rising_left (slots l) (i ∷ slots r) h
near_rising rightward c l i r h = rising_tail (rising_right (slots l) (i ∷ slots r) h)

near_less : {names : List ℕ} (σ : Side) (c : Colour) (l : Tree) (i : ℕ) (r : Tree) → Rising names (slots (node c l i r)) → (j : ℕ)
    → 1 ≤ times j (slots (near σ l r)) → LessOn σ (pair_of names j) (pair_of names i)
unfolding slots
near_less leftward c l i r h j m = rising_cross (slots l) (i ∷ slots r) h j i m (omega (arith, times_cons i i (slots r), hit_same i))
near_less rightward c l i r h j m = below_all (rising_below (rising_right (slots l) (i ∷ slots r) h)) j m

near_in : (σ : Side) (c : Colour) (l : Tree) (i : ℕ) (r : Tree) (j : ℕ) → 1 ≤ times j (slots (near σ l r))
    → 1 ≤ times j (slots (node c l i r))
unfolding slots
near_in leftward c l i r j m = omega (arith, times_append j (slots l) (i ∷ slots r))
near_in rightward c l i r j m = omega (arith, times_append j (slots l) (i ∷ slots r), times_cons j i (slots r))

self_in : (c : Colour) (l : Tree) (i : ℕ) (r : Tree) → 1 ≤ times i (slots (node c l i r))
unfolding slots
self_in c l i r = omega (arith, times_append i (slots l) (i ∷ slots r), times_cons i i (slots r), hit_same i)

-- The slots of a node seen from a side: itself, those near, those beyond.
data Where (σ : Side) (l : Tree) (i : ℕ) (r : Tree) (j : ℕ) : Type 0 where
  self : j ≡ i → Where σ l i r j
  nigh : 1 ≤ times j (slots (near σ l r)) → Where σ l i r j
  beyond : 1 ≤ times j (slots (near (other σ) l r)) → Where σ l i r j

whereabouts : (σ : Side) (c : Colour) (l : Tree) (i : ℕ) (r : Tree) (j : ℕ) → 1 ≤ times j (slots (node c l i r)) → Where σ l i r j
unfolding slots
whereabouts σ c l i r j m = go σ (in_append j (slots l) (i ∷ slots r) m)
  where
    on_r : (τ : Side) → (j ≡ i) ⊎ (1 ≤ times j (slots r)) → Where τ l i r j
    on_r τ (inl e) = self e
    on_r leftward (inr u) = beyond u
    on_r rightward (inr u) = nigh u

    go : (τ : Side) → (1 ≤ times j (slots l)) ⊎ (1 ≤ times j (i ∷ slots r)) → Where τ l i r j
    go leftward (inl u) = nigh u
    go rightward (inl u) = beyond u
    go τ (inr u) = on_r τ (in_cons j i (slots r) u)

-- The pair P stands next to the slot q on its side σ: what lies on that side of q lies beyond P.
record Gap (names : List ℕ) (P : Pair) (l : List ℕ) (σ : Side) (q : ℕ) : Type 0 where
  next : LessOn σ P (pair_of names q)
  rest : (j : ℕ) → 1 ≤ times j l → LessOn σ (pair_of names j) (pair_of names q) → LessOn σ (pair_of names j) P

-- The search from a slot ends at a null link next to the pair.
record Ended (names cells : List ℕ) (P : Pair) (l : List ℕ) (at : Spot) : Type 0 where
  slot : ℕ
  side : Side
  is : at ≡ spot slot (toward side)
  stands : 1 ≤ times slot l
  free : cell cells slot (toward side) ≡ null
  gap : Gap names P l side slot

-- A gap in the subtree on the side σ of a slot beyond P is one in the whole.
gap_same : {names : List ℕ} {P : Pair} {q : ℕ} (σ : Side) (c : Colour) (l : Tree) (i : ℕ) (r : Tree) → Rising names (slots (node c l i r))
    → LessOn σ P (pair_of names i) → 1 ≤ times q (slots (near σ l r))
    → Gap names P (slots (near σ l r)) σ q → Gap names P (slots (node c l i r)) σ q
gap_same {names} {P} {q} σ c l i r h lt m g = record { next = g.next; rest = λ j u z. go j z (whereabouts σ c l i r j u) }
  where
    past : (j : ℕ) → LessOn σ (pair_of names j) (pair_of names q) → LessOn σ (pair_of names i) (pair_of names j) → ⊥
    past j z y = on_irreflexive σ (pair_of names i) (on_transitive σ _ _ _ y (on_transitive σ _ _ _ z (near_less σ c l i r h q m)))

    go : (j : ℕ) → LessOn σ (pair_of names j) (pair_of names q) → Where σ l i r j → LessOn σ (pair_of names j) P
    go j z (self e) = absurd (on_irreflexive σ (pair_of names q) (on_transitive σ _ _ _ (near_less σ c l i r h q m) (rw e at z)))
    go j z (nigh u) = g.rest j u z
    go j z (beyond u) = absurd (past j z (on_flip σ (pair_of names j) (pair_of names i) (near_less (other σ) c l i r h j u)))

gap_other : {names : List ℕ} {P : Pair} {q : ℕ} (σ : Side) (c : Colour) (l : Tree) (i : ℕ) (r : Tree) → Rising names (slots (node c l i r))
    → LessOn σ P (pair_of names i)
    → Gap names P (slots (near σ l r)) (other σ) q → Gap names P (slots (node c l i r)) (other σ) q
gap_other {names} {P} {q} σ c l i r h lt g = record { next = g.next; rest = λ j u z. go j z (whereabouts σ c l i r j u) }
  where
    go : (j : ℕ) → LessOn (other σ) (pair_of names j) (pair_of names q) → Where σ l i r j → LessOn (other σ) (pair_of names j) P
    go j z (self e) = rw e (on_flop σ (pair_of names i) P lt)
    go j z (nigh u) = g.rest j u z
    go j z (beyond u) = on_transitive (other σ) _ _ _ (near_less (other σ) c l i r h j u) (on_flop σ (pair_of names i) P lt)

gap_in : {names : List ℕ} {P : Pair} {q : ℕ} (σ τ : Side) (c : Colour) (l : Tree) (i : ℕ) (r : Tree) → Rising names (slots (node c l i r))
    → LessOn σ P (pair_of names i) → 1 ≤ times q (slots (near σ l r))
    → Gap names P (slots (near σ l r)) τ q → Gap names P (slots (node c l i r)) τ q
gap_in leftward leftward c l i r h lt m g = gap_same leftward c l i r h lt m g
gap_in rightward rightward c l i r h lt m g = gap_same rightward c l i r h lt m g
gap_in leftward rightward c l i r h lt m g = gap_other leftward c l i r h lt g
gap_in rightward leftward c l i r h lt m g = gap_other rightward c l i r h lt g

-- Where nothing hangs on the side σ of i, the gap is there.
gap_here : {names : List ℕ} {P : Pair} (σ : Side) (c : Colour) (l : Tree) (i : ℕ) (r : Tree) → Rising names (slots (node c l i r))
    → LessOn σ P (pair_of names i) → near σ l r ≡ leaf → Gap names P (slots (node c l i r)) σ i
unfolding slots
gap_here {names} {P} σ c l i r h lt e = record { next = lt; rest = λ j u z. go j z (whereabouts σ c l i r j u) }
  where
    go : (j : ℕ) → LessOn σ (pair_of names j) (pair_of names i) → Where σ l i r j → LessOn σ (pair_of names j) P
    go j z (self y) = absurd (on_irreflexive σ (pair_of names i) (rw y at z))
    go j z (nigh u) =
        let w : times j (slots (near σ l r)) ≡ times j (slots leaf) = ap (λ (t : Tree). times j (slots t)) e in
        absurd (omega (arith, times_nil j))
    go j z (beyond u) =
        absurd (on_irreflexive σ (pair_of names i)
        (on_transitive σ _ _ _ (on_flip σ (pair_of names j) (pair_of names i) (near_less (other σ) c l i r h j u)) z))

-- One step of the search, from the slot i toward σ.
near_top : {n q : ℕ} {cells : List ℕ} (σ : Side) (c : Colour) (l : Tree) (i : ℕ) (r : Tree) → Hangs n cells q (node c l i r)
    → cell cells i (toward σ) ≡ top (near σ l r)
near_top leftward c l i r (Hangs.some k u v) = k.lefts
near_top rightward c l i r (Hangs.some k u v) = k.rights

near_hangs : {n q : ℕ} {cells : List ℕ} (σ : Side) (c : Colour) (l : Tree) (i : ℕ) (r : Tree) → Hangs n cells q (node c l i r)
    → Hangs n cells i (near σ l r)
near_hangs leftward c l i r (Hangs.some k u v) = u
near_hangs rightward c l i r (Hangs.some k u v) = v

near_depth : (σ : Side) (c : Colour) (l : Tree) (i : ℕ) (r : Tree) → suc (depth (near σ l r)) ≤ depth (node c l i r)
unfolding depth
near_depth leftward c l i r = omega arith
near_depth rightward c l i r = omega arith

inside_of : {n q : ℕ} {cells : List ℕ} {c : Colour} {l r : Tree} {i : ℕ} → Hangs n cells q (node c l i r) → i < n
inside_of (Hangs.some k u v) = k.inside

node_deep : (c : Colour) (l : Tree) (i : ℕ) (r : Tree) → 1 ≤ depth (node c l i r)
unfolding depth
node_deep c l i r = omega arith

module _ (names cells : List ℕ) (h k : ℕ) where
  step : {n q : ℕ} (σ : Side) (c : Colour) (l : Tree) (i : ℕ) (r : Tree) (steps : ℕ) → Hangs n cells q (node c l i r) → n ≤ null
      → Rising names (slots (node c l i r)) → depth (node c l i r) ≤ suc steps → LessOn σ (pair h k) (pair_of names i)
      → ((m : ℕ) → depth (near σ l r) ≤ suc m → 1 ≤ depth (near σ l r)
      → Ended names cells (pair h k) (slots (near σ l r)) (descended names cells m (top (near σ l r)) h k))
      → Ended names cells (pair h k) (slots (node c l i r)) (descended names cells steps i h k)
  step {n} σ c l i r steps hang small rises deep lt rec = go (near σ l r) refl steps deep
    where
      side : side_for names i h k ≡ toward σ
      side = side_for_lem names i h k σ lt

      go : (u : Tree) → near σ l r ≡ u → (m : ℕ) → depth (node c l i r) ≤ suc m
          → Ended names cells (pair h k) (slots (node c l i r)) (descended names cells m i h k)
      go leaf z m d =
          let e : cell cells i (toward σ) ≡ null = near_top σ c l i r hang ∙ ap top z in
          record {
            slot = i;
            side = σ;
            is = descended_end names cells m i h k (toward σ) side e;
            stands = self_in c l i r;
            free = e;
            gap = gap_here σ c l i r rises lt z;
          }
      go (node b x j y) z zero d = absurd (omega (arith, near_depth σ c l i r, ap depth z, node_deep b x j y))
      go (node b x j y) z (suc m) d =
          let w : Hangs n cells i (node b x j y) = rw z at (near_hangs σ c l i r hang) in
          let f = rec m (omega (arith, near_depth σ c l i r)) (omega (arith, ap depth z, node_deep b x j y)) in
          record {
            slot = f.slot;
            side = f.side;
            is =
                descended_on names cells m i h k (toward σ) (top (near σ l r)) side (near_top σ c l i r hang)
                (ne_eqb (top (near σ l r)) null (omega (arith, inside_of w, ap top z))) ∙ f.is;
            stands = near_in σ c l i r f.slot f.stands;
            free = f.free;
            gap = gap_in σ f.side c l i r rises lt f.stands f.gap;
          }

  descent : {n q : ℕ} (t : Tree) (steps : ℕ) → Hangs n cells q t → n ≤ null → Rising names (slots t)
      → ((j : ℕ) → 1 ≤ times j (slots t) → pair_of names j ≡ pair h k → ⊥) → depth t ≤ suc steps → 1 ≤ depth t
      → Ended names cells (pair h k) (slots t) (descended names cells steps (top t) h k)
  unfolding depth
  descent leaf steps hang small rises none deep some = absurd (omega arith)
  descent (node c l i r) steps hang small rises none deep some =
      go (less_total (pair h k) (pair_of names i))
      (λ m d e. descent l m (near_hangs leftward c l i r hang) small (near_rising leftward c l i r rises)
      (λ j u. none j (near_in leftward c l i r j u)) d e)
      (λ m d e. descent r m (near_hangs rightward c l i r hang) small (near_rising rightward c l i r rises)
      (λ j u. none j (near_in rightward c l i r j u)) d e)
    where
      go : Less (pair h k) (pair_of names i) ⊎ ((pair h k ≡ pair_of names i) ⊎ Less (pair_of names i) (pair h k))
          → ((m : ℕ) → depth l ≤ suc m → 1 ≤ depth l → Ended names cells (pair h k) (slots l) (descended names cells m (top l) h k))
          → ((m : ℕ) → depth r ≤ suc m → 1 ≤ depth r → Ended names cells (pair h k) (slots r) (descended names cells m (top r) h k))
          → Ended names cells (pair h k) (slots (node c l i r)) (descended names cells steps i h k)
      go (inl lt) f g = step leftward c l i r steps hang small rises deep lt f
      go (inr (inl e)) f g = absurd (none i (self_in c l i r) (sym e))
      go (inr (inr lt)) f g = step rightward c l i r steps hang small rises deep lt g

-- A pair put in at its gap keeps the list rising.
rising_put : {names : List ℕ} (x : ℕ) (b y : List ℕ) → Rising names (b ++ y)
    → ((j : ℕ) → 1 ≤ times j b → Less (pair_of names j) (pair_of names x)) → Below names (pair_of names x) y → Rising names (b ++ (x ∷ y))
rising_put x [] y h f g = rise g h
rising_put {names} x (i ∷ b) y (rise u h) f g =
    rise (all_below names (pair_of names i) (b ++ (x ∷ y)) (λ j m. go j (in_append j b (x ∷ y) m)))
    (rising_put x b y h (λ j m. f j (omega (arith, times_cons j i b))) g)
  where
    after : (j : ℕ) → (j ≡ x) ⊎ (1 ≤ times j y) → Less (pair_of names i) (pair_of names j)
    after j (inl e) = rw e (f i (omega (arith, times_cons i i b, hit_same i)))
    after j (inr m) = below_all u j (omega (arith, times_append j b y))

    go : (j : ℕ) → (1 ≤ times j b) ⊎ (1 ≤ times j (x ∷ y)) → Less (pair_of names i) (pair_of names j)
    go j (inl m) = below_all u j (omega (arith, times_append j b y))
    go j (inr m) = after j (in_cons j x y m)

put-left : {names : List ℕ} (x q : ℕ) (b a : List ℕ) → Rising names (b ++ (q ∷ a)) → Gap names (pair_of names x) (b ++ (q ∷ a)) leftward q
    → Rising names (b ++ (x ∷ (q ∷ a)))
put-left {names} x q b a h g =
    let u = rising_right b (q ∷ a) h in
    rising_put x b (q ∷ a) h
    (λ j m. g.rest j (omega (arith, times_append j b (q ∷ a)))
    (rising_cross b (q ∷ a) h j q m (omega (arith, times_cons q q a, hit_same q))))
    (Below.before g.next
    (all_below names (pair_of names x) a
    (λ j m. less_transitive (pair_of names x) (pair_of names q) (pair_of names j) g.next (below_all (rising_below u) j m))))

put_right : {names : List ℕ} (x q : ℕ) (b a : List ℕ) → Rising names (b ++ (q ∷ a)) → Gap names (pair_of names x) (b ++ (q ∷ a)) rightward q
    → Rising names (b ++ (q ∷ (x ∷ a)))
put_right {names} x q b a h g =
    let v : Rising names ((b ++ (q ∷ [])) ++ (x ∷ a)) =
    rising_put x (b ++ (q ∷ [])) a (rw (append_assoc b (q ∷ []) a) h) (λ j m. go j (in_append j b (q ∷ []) m))
    (all_below names (pair_of names x) a
    (λ j m. g.rest j (omega (arith, times_append j b (q ∷ a), times_cons j q a))
    (below_all (rising_below (rising_right b (q ∷ a) h)) j m))) in
    rw (append_assoc b (q ∷ []) (x ∷ a)) at v
  where
    at_q : (j : ℕ) → (j ≡ q) ⊎ (1 ≤ times j []) → Less (pair_of names j) (pair_of names x)
    at_q j (inl e) = rw e g.next
    at_q j (inr m) = absurd (omega (arith, times_nil j))

    go : (j : ℕ) → (1 ≤ times j b) ⊎ (1 ≤ times j (q ∷ [])) → Less (pair_of names j) (pair_of names x)
    go j (inl m) =
        less_transitive (pair_of names j) (pair_of names q) (pair_of names x)
        (rising_cross b (q ∷ a) h j q m (omega (arith, times_cons q q a, hit_same q))) g.next
    go j (inr m) = at_q j (in_cons j q [] m)

gap_rising : {names l k : List ℕ} {x q : ℕ} (σ : Side) → Rising names l → Gap names (pair_of names x) l σ q → Beside σ q x l k
    → Rising names k
gap_rising {x = x} {q} leftward h g b = rw b.now (put-left x q b.before b.after (rw b.was at h) (rw b.was at g))
gap_rising {x = x} {q} rightward h g b = rw b.now (put_right x q b.before b.after (rw b.was at h) (rw b.was at g))

-- The spot of a pair that no slot of a tree with slots l has: a null link next to which any slot of that pair may stand.
pub record NextTo (names : List ℕ) (s : Links) (P : Pair) (l : List ℕ) (at : Spot) : Type 0 where
  pub slot : ℕ
  pub side : Side
  pub is : at ≡ spot slot (toward side)
  pub stands : 1 ≤ times slot l
  pub free : read s slot (toward side) ≡ null
  pub rises : (x : ℕ) (k : List ℕ) → pair_of names x ≡ P → Beside side slot x l k → Rising names k

spot_of : {names l : List ℕ} {s : Links} {P : Pair} {at : Spot} → Rising names l → Ended names s.cells P l at → NextTo names s P l at
spot_of h f =
    record {
      slot = f.slot;
      side = f.side;
      is = f.is;
      stands = f.stands;
      free = f.free;
      rises = λ x k e b. gap_rising f.side h (rw e f.gap) b;
    }

pub spotted-empty : {n : ℕ} {s : Links} (steps : ℕ) (names : List ℕ) (hash key : ℕ) → Holds n s leaf
    → spotted steps names s hash key ≡ spot null left
unfolding spotted
spotted-empty steps names hash key h = rw h.rooted.from

spotted_on : (steps : ℕ) (names : List ℕ) (s : Links) (hash key r : ℕ) → s.root ≡ r → r ≢ null
    → spotted steps names s hash key ≡ descended names s.cells steps r hash key
unfolding spotted
spotted_on steps names s hash key r e d = rw (e, ne_eqb r null d)

pub spotted_in : {n : ℕ} {s : Links} (steps : ℕ) (names : List ℕ) (hash key : ℕ) (c : Colour) (l : Tree) (i : ℕ) (r : Tree)
    → Holds n s (node c l i r) → Rising names (slots (node c l i r)) → (Has names (node c l i r) hash key → ⊥) → n ≤ steps
    → NextTo names s (pair hash key) (slots (node c l i r)) (spotted steps names s hash key)
spotted_in {s = s} steps names hash key c l i r h rises none m =
    let t : Tree = node c l i r in
    rw (spotted_on steps names s hash key i h.rooted.from (omega (arith, inside_of h.rooted.hangs, h.small)))
    (spot_of rises
    (descent names s.cells hash key t steps h.rooted.hangs h.small rises
    (λ j u e. none (record { slot = j; stands = u; named = e })) (omega (arith, depth_cap t h)) (node_deep c l i r)))

-- The side of a spot is a link, whatever the words.
side_link : (b : Bool) → Link (pick b left right)
side_link true = on leftward
side_link false = on rightward

pick_link : (b : Bool) (u v : Spot) → Link u.side → Link v.side → Link (pick b u v).side
pick_link true u v h k = h
pick_link false u v h k = k

descended_link : (names cells : List ℕ) (steps p hash key : ℕ) → Link (descended names cells steps p hash key).side
unfolding descended
descended_link names cells zero p hash key = side_link (before hash key (name_of names p hash_part) (name_of names p key_part))
descended_link names cells (suc steps) p hash key =
    let f = side_for names p hash key in
    let q = cell cells p f in
    pick_link (eqb q null) (spot p f) (descended names cells steps q hash key)
    (side_link (before hash key (name_of names p hash_part) (name_of names p key_part))) (descended_link names cells steps q hash key)

pub spotted_link : (steps : ℕ) (names : List ℕ) (s : Links) (hash key : ℕ) → Link (spotted steps names s hash key).side
unfolding spotted
spotted_link steps names s hash key =
    pick_link (eqb s.root null) (spot null left) (descended names s.cells steps s.root hash key) (on leftward)
    (descended_link names s.cells steps s.root hash key)
