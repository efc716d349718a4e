-- A sound tree passes the source's check: at each slot the chain gives the first two tests, the tree the parents', the order the
-- hashes', and the colours the last.
use mathlib.Core.Path.{◌≡◌, refl, ap, sym, ◌∙◌}
use mathlib.Core.Logic.{◌≢◌, ◌⊎◌, inl, inr}
use mathlib.Core.Bool.{true}
use mathlib.Core.List.{List, ◌∷◌, ◌++◌}
use Prim.Native.Nat.{ℕ, zero, suc, ◌+◌, ◌-◌, ◌<◌, ◌≤◌}
use native.Mathlib.Omega.{arith}
use lib.ListN.{length}
use Rattle.slots.specs.Words.{null, state, parent, left, right, prev, next, cell, Colour, black, red, code}
use Rattle.slots.specs.Pairs.{Pair, Less}
use Rattle.slots.specs.Answers.{nothing}
use Rattle.tree_rules.specs.Find.{slots_of}
use Rattle.tree_rules.specs.Check.{test, first_failing, passed, LinksNamed, Walks, absent, both, Back}
use Rattle.tree_rules.specs.Tree.{Tree, leaf, node, top, colour, slots, times, Hangs, Rising, Calm, darkly, redly}
use Rattle.tree_rules.specs.Tree.Hangs.{none as hangsNone, some as hangsSome}
use Rattle.tree_rules.specs.Chain.{Chain, ended, linked}
use Rattle.tree_rules.specs.Claims.{Tests}
use Rattle.tree_rules.proofs.Counting.{times_append, times_head, times_rest, times_cases}
use Rattle.tree_rules.proofs.Order.{rising_before, rising_after, rising_front, rising_back, rising_tail}
use Rattle.tree_rules.proofs.Reaching.{length_node, hangs_inside, rooted_most}
use Rattle.tree_rules.proofs.Claims.{claims}
use Rattle.index_rules.specs.Live.{Live, Fit, root_of, first_of, unsized_of}
use Rattle.index_rules.specs.Sound.{Sound}
use Rattle.index_rules.specs.Check.{checks}
use Rattle.index_rules.proofs.Rules.{small}
use Rattle.index_rules.proofs.Fit.{fit_unsized}
use Rattle.index_rules.proofs.Reading.{check_claims}

-- A slot of the chain leads on and back.
head_back : {n q j : ℕ} {cells m : List ℕ} → Chain n cells q j m → j ≢ null → cell cells j prev ≡ q
head_back (ended e) f = absurd (f e)
head_back (linked w p c) f = p

chain_next : {n : ℕ} {cells : List ℕ} {q i : ℕ} {l : List ℕ} (k : ℕ) → Chain n cells q i l → 1 ≤ times k l → cell cells k next ≢ null
    → cell cells (cell cells k next) prev ≡ k
unfolding times
chain_next k (ended e) z d = absurd (omega arith)
chain_next {cells = cells} k (linked {i = i} {l = l} w p c) z d =
    times_cases k i l z (λ e. rw e (head_back c (λ y. d (rw e y)))) (λ y. chain_next k c y d)

chain_back : {n : ℕ} {cells : List ℕ} {q i : ℕ} {l : List ℕ} (k : ℕ) → Chain n cells q i l → 1 ≤ times k l
    → ((cell cells k prev ≡ q) × (k ≡ i)) ⊎ (cell cells (cell cells k prev) next ≡ k)
unfolding times
chain_back k (ended e) z = absurd (omega arith)
chain_back {cells = cells} {q = q} k (linked {i = i} {l = l} w p c) z =
    times_cases k i l z (λ e. inl (rw e p, e)) (λ y. go (chain_back k c y))
  where
    go : ((cell cells k prev ≡ i) × (k ≡ cell cells i next)) ⊎ (cell cells (cell cells k prev) next ≡ k)
        → ((cell cells k prev ≡ q) × (k ≡ i)) ⊎ (cell cells (cell cells k prev) next ≡ k)
    go (inl h) = inr (ap (λ (j : ℕ). cell cells j next) h.0 ∙ sym h.1)
    go (inr h) = inr h

-- What stands before a slot has a hash that is at most its own, and what stands after at least.
hash_least : (p q : Pair) → Less p q → p.hash ≤ q.hash
unfolding Less
hash_least p q (inl h) = omega arith
hash_least p q (inr h) = omega (arith, h.0)

-- The top slot of a tree stands in it, and its colour is its state; of no tree it is none.
top_in : (t : Tree) → top t ≢ null → 1 ≤ times (top t) (slots t)
unfolding slots
top_in leaf d = absurd (d refl)
top_in (node c l i r) d = omega (arith, times_append i (slots l) (i ∷ slots r), times_head i (slots r))

top_above : {n q : ℕ} {cells : List ℕ} {t : Tree} → Hangs n cells q t → top t ≢ null → cell cells (top t) parent ≡ q
top_above hangsNone d = absurd (d refl)
top_above (hangsSome k a b) d = k.above

black_top : {n q : ℕ} {cells : List ℕ} {t : Tree} → Hangs n cells q t → top t ≢ null → colour t ≡ black → cell cells (top t) state ≢ 2
black_top hangsNone d e = absurd (d refl)
black_top (hangsSome {c = c} k a b) d e = λ z. (let y : code c ≡ 1 = ap code e in omega (arith, k.hued))

-- What holds of each of the eight tests.
eight : (P : ℕ → Type 0) → P 1 → P 2 → P 3 → P 4 → P 5 → P 6 → P 7 → P 8 → (u : ℕ) → 1 ≤ u → u ≤ 8 → P u
eight P a b c d e f g h zero l m = absurd (omega arith)
eight P a b c d e f g h (suc zero) l m = a
eight P a b c d e f g h (suc (suc zero)) l m = b
eight P a b c d e f g h (suc (suc (suc zero))) l m = c
eight P a b c d e f g h (suc (suc (suc (suc zero)))) l m = d
eight P a b c d e f g h (suc (suc (suc (suc (suc zero))))) l m = e
eight P a b c d e f g h (suc (suc (suc (suc (suc (suc zero)))))) l m = f
eight P a b c d e f g h (suc (suc (suc (suc (suc (suc (suc zero))))))) l m = g
eight P a b c d e f g h (suc (suc (suc (suc (suc (suc (suc (suc zero)))))))) l m = h
eight P a b c d e f g h (suc (suc (suc (suc (suc (suc (suc (suc (suc u))))))))) l m = absurd (omega arith)

calm_red : {l r : Tree} {i : ℕ} → Calm (node red l i r) → (colour l ≡ black) × (colour r ≡ black)
calm_red (redly a b x y) = (a, b)

calm_left : {c : Colour} {l r : Tree} {i : ℕ} → Calm (node c l i r) → Calm l
calm_left (darkly x y) = x
calm_left (redly a b x y) = x

calm_right : {c : Colour} {l r : Tree} {i : ℕ} → Calm (node c l i r) → Calm r
calm_right (darkly x y) = y
calm_right (redly a b x y) = y

red_code : (c : Colour) → code c ≡ 2 → c ≡ red
red_code black e = absurd (omega arith)
red_code red e = refl

-- What the walk over a tree needs of the words beside it: its slots' links name slots, and the chain leads on and back at each.
record Beside (names cells : List ℕ) (t : Tree) : Type 0 where
  links : (k : ℕ) → 1 ≤ times k (slots t) → LinksNamed (slots_of names) cells k
  nexts : (k : ℕ) → 1 ≤ times k (slots t) → Back names cells k next prev
  prevs : (k : ℕ) → 1 ≤ times k (slots t) → Back names cells k prev next

module _ (names cells : List ℕ) (few : slots_of names ≤ null) where
  -- The eight tests at the top of a tree.
  all_pass : {q : ℕ} {c : Colour} {l r : Tree} {i : ℕ} → Hangs (slots_of names) cells q (node c l i r) → Calm (node c l i r)
      → Rising names (slots (node c l i r))
      → (q ≢ null → (cell cells q left ≡ i) ⊎ (cell cells q right ≡ i)) → Beside names cells (node c l i r)
      → first_failing names cells i ≡ 0
  unfolding slots
  all_pass {q} {c} {l} {r} {i} (hangsSome k a b) calm rising above beside =
      let here : 1 ≤ times i (slots l ++ (i ∷ slots r)) = omega (arith, times_append i (slots l) (i ∷ slots r), times_head i (slots r)) in
      let h : Tests names cells i = claims.tests names cells i in
      h.none.1
      (eight (λ u. test names cells u i ≡ true)
      (h.prev-test.1 (beside.prevs i here))
      (h.next-test.1 (beside.nexts i here))
      (h.parent-test.1 (λ d. (let z = above (λ e. d (k.above ∙ e)) in rw k.above z)))
      (h.left-parent.1 (λ d. (let z = top_above a (λ e. d (k.lefts ∙ e)) in rw k.lefts z)))
      (h.left_hash_lem.1
      (λ d. (let z = rising_before (slots l) i (slots r) (top l) rising (top_in l (λ e. d (k.lefts ∙ e))) in
      rw k.lefts (hash_least _ _ z))))
      (h.right-parent.1 (λ d. (let z = top_above b (λ e. d (k.rights ∙ e)) in rw k.rights z)))
      (h.right_hash_lem.1
      (λ d. (let z = rising_after (slots l) i (slots r) (top r) rising (top_in r (λ e. d (k.rights ∙ e))) in
      rw k.rights (hash_least _ _ z))))
      (h.children_red.1 (λ e d f x y. (let z : c ≡ red = red_code c (sym k.hued ∙ e) in
      black_top a (λ w. d (k.lefts ∙ w)) (calm_red (rw z at calm)).0 (rw k.lefts at x)))))

  -- So the walk over the tree passes, and takes a visit a slot.
  passes : {q : ℕ} {t : Tree} → Hangs (slots_of names) cells q t → Calm t → Rising names (slots t)
      → (top t ≢ null → q ≢ null → (cell cells q left ≡ top t) ⊎ (cell cells q right ≡ top t)) → Beside names cells t
      → (v : ℕ) → length (slots t) ≤ v → Walks names cells (top t) v (passed (v - length (slots t)))
  unfolding slots
  passes hangsNone calm rising above beside v w = let z : v - 0 ≡ v = omega arith in rw z (absent refl)
  passes (hangsSome {c = c} {l} {i} {r} k a b) calm rising above beside v w =
      let n = length_node c l i r in
      let inside : (j : ℕ) → times j (slots l) + times j (i ∷ slots r) ≡ times j (slots l ++ (i ∷ slots r)) =
      λ j. sym (times_append j (slots l) (i ∷ slots r)) in
      let solid : i ≢ null = omega (arith, k.inside) in
      let here : 1 ≤ times i (slots l ++ (i ∷ slots r)) = omega (arith, inside i, times_head i (slots r)) in
      let lefts : Beside names cells l =
      record {
        links = λ j z. beside.links j (omega (arith, inside j));
        nexts = λ j z. beside.nexts j (omega (arith, inside j));
        prevs = λ j z. beside.prevs j (omega (arith, inside j));
      } in
      let rights : Beside names cells r =
      record {
        links = λ j z. beside.links j (omega (arith, inside j, times_rest j i (slots r)));
        nexts = λ j z. beside.nexts j (omega (arith, inside j, times_rest j i (slots r)));
        prevs = λ j z. beside.prevs j (omega (arith, inside j, times_rest j i (slots r)));
      } in
      let x : Walks names cells (top l) (v - 1) (passed (v - 1 - length (slots l))) =
      passes a (calm_left calm) (rising_front (slots l) (i ∷ slots r) rising) (λ d e. inl k.lefts) lefts (v - 1) (omega (arith, n)) in
      let y : Walks names cells (top r) (v - 1 - length (slots l)) (passed (v - 1 - length (slots l) - length (slots r))) =
      passes b (calm_right calm) (rising_tail (rising_back (slots l) (i ∷ slots r) rising)) (λ d e. inr k.rights) rights
      (v - 1 - length (slots l)) (omega (arith, n)) in
      let x' : Walks names cells (cell cells i left) (v - 1) (passed (v - 1 - length (slots l))) = rw k.lefts x in
      let y' : Walks names cells (cell cells i right) (v - 1 - length (slots l)) (passed (v - 1 - length (slots l) - length (slots r))) =
      rw k.rights y in
      let some_left : v ≢ 0 = omega (arith, n) in
      let same : v - length (slots l ++ (i ∷ slots r)) ≡ v - 1 - length (slots l) - length (slots r) = omega (arith, n) in
      rw same
      (both {m = v - 1 - length (slots l)} solid k.inside some_left (beside.links i here)
      (all_pass (hangsSome k a b) calm rising (above solid) beside) x' y')

pub sound_passes : {t : Live} → Fit t → Sound t → checks (unsized_of t) ≡ nothing
sound_passes {t} fit h =
    let rooted = h.t3.rooted in
    (check_claims (unsized_of t)).passes.1 (
      fit_unsized fit,
      (
        slots_of t.names - length (slots h.tree),
        rw rooted.from
            (passes t.names t.cells (small fit) rooted.hangs h.t5.calm h.t4 (λ d e. absurd (e refl))
            (record {
              links = λ k z. h.t1.links k (inside k z);
              nexts = λ k z d. chain_next k h.t7.linked (in_chain k z) d;
              prevs = λ k z d. back k d (chain_back k h.t7.linked (in_chain k z));
            })
            (slots_of t.names) (rooted_most (slots_of t.names) t.cells (small fit) (root_of t) rooted)),
      ),
    )
  where
    inside : (k : ℕ) → 1 ≤ times k (slots h.tree) → k < slots_of t.names
    inside k z = hangs_inside (slots_of t.names) t.cells h.t3.rooted.hangs z

    in_chain : (k : ℕ) → 1 ≤ times k (slots h.tree) → 1 ≤ times k h.chain
    in_chain k z = omega (arith, z, h.t3.all k (inside k z), h.t7.all k (inside k z))

    back : (k : ℕ) → cell t.cells k prev ≢ null
        → ((cell t.cells k prev ≡ null) × (k ≡ first_of t)) ⊎ (cell t.cells (cell t.cells k prev) next ≡ k)
        → cell t.cells (cell t.cells k prev) next ≡ k
    back k d (inl e) = absurd (d e.0)
    back k d (inr e) = e
