-- The slot next in a list: lists rise exactly where each slot's pair is below the next.
use mathlib.Core.Path.{◌≡◌, refl, ap, sym, ◌∙◌}
use mathlib.Core.Logic.{◌≢◌}
use mathlib.Core.List.{List, [], ◌∷◌, ◌++◌}
use Prim.Native.Nat.{ℕ, ◌≤◌}
use native.Mathlib.Decide.{ℕ_discrete}
use native.Mathlib.Omega.{arith}
use lib.Dec.{eqb}
use Rattle.slots.specs.Words.{null, pick}
use Rattle.slots.specs.Pairs.{pair_of, Less}
use Rattle.slots.proofs.Laws.{pick_eq, pick_ne}
use Rattle.tree_rules.specs.Tree.{times, Below, Rising, empty, rise, last, NextInOrder}
use Rattle.tree_rules.proofs.Rising.{below_less}
use Rattle.tree_rules.proofs.Counting.{times_append, times_head, times_else, times_rest}

-- The first of a list, a where it is empty; and the slot after k in it, a after the last.
unfoldable pub head_or : List ℕ → ℕ → ℕ
head_or [] a = a
head_or (x ∷ l) a = x

unfoldable pub next_on : List ℕ → ℕ → ℕ → ℕ
next_on [] k a = null
next_on (x ∷ l) k a = pick (eqb k x) (head_or l a) (next_on l k a)

pub first_append : (l : List ℕ) (i : ℕ) (m : List ℕ) (a : ℕ) → head_or (l ++ (i ∷ m)) a ≡ head_or l i
unfolding head_or
first_append [] i m a = refl
first_append (x ∷ l) i m a = refl

-- In the two parts of a list, and at the slot between them.
pub next_front : (l : List ℕ) (i : ℕ) (m : List ℕ) (k a : ℕ) → 1 ≤ times k l → next_on (l ++ (i ∷ m)) k a ≡ next_on l k i
unfolding next_on times
next_front [] i m k a h = absurd (omega arith)
next_front (x ∷ l) i m k a h = go (ℕ_discrete k x) (next_front l i m k a)
  where
    go : Dec (k ≡ x) → (1 ≤ times k l → next_on (l ++ (i ∷ m)) k a ≡ next_on l k i)
        → pick (eqb k x) (head_or (l ++ (i ∷ m)) a) (next_on (l ++ (i ∷ m)) k a) ≡ pick (eqb k x) (head_or l i) (next_on l k i)
    go (yes e) again = pick_eq _ _ e ∙ first_append l i m a ∙ sym (pick_eq _ _ e)
    go (no d) again = pick_ne _ _ d ∙ again (omega (arith, times_else k x l d)) ∙ sym (pick_ne _ _ d)

next_past : (l m : List ℕ) (k a : ℕ) → times k l ≡ 0 → next_on (l ++ m) k a ≡ next_on m k a
unfolding next_on times
next_past [] m k a h = refl
next_past (x ∷ l) m k a h =
    pick_ne {m = k} {n = x} _ _ (λ e. omega (arith, times_head x l, ap (λ (j : ℕ). times j (x ∷ l)) e))
    ∙ next_past l m k a (omega (arith, times_rest k x l))

pub next_here : (l m : List ℕ) (k a : ℕ) → times k l ≡ 0 → next_on (l ++ (k ∷ m)) k a ≡ head_or m a
unfolding next_on
next_here l m k a h = next_past l (k ∷ m) k a h ∙ pick_eq {m = k} {n = k} _ _ refl

pub next-after : (l : List ℕ) (i : ℕ) (m : List ℕ) (k a : ℕ) → times k l ≡ 0 → k ≢ i → next_on (l ++ (i ∷ m)) k a ≡ next_on m k a
unfolding next_on
next-after l i m k a h d = next_past l (i ∷ m) k a h ∙ pick_ne _ _ d

pub next_beside : (l : List ℕ) (k : ℕ) → next_on l k null ≢ null → NextInOrder k (next_on l k null) l
unfolding next_on head_or
next_beside [] k d = absurd (d refl)
next_beside (x ∷ l) k d = go l (ℕ_discrete k x) d (next_beside l k)
  where
    go : (l : List ℕ) → Dec (k ≡ x) → pick (eqb k x) (head_or l null) (next_on l k null) ≢ null
        → (next_on l k null ≢ null → NextInOrder k (next_on l k null) l)
        → NextInOrder k (pick (eqb k x) (head_or l null) (next_on l k null)) (x ∷ l)
    go [] (yes e) d again = absurd (d (pick_eq _ _ e))
    go (y ∷ l) (yes e) d again =
        let z : pick (eqb k x) y (next_on (y ∷ l) k null) ≡ y = pick_eq y (next_on (y ∷ l) k null) e in
        rw z (record { before = []; after = l; whole = ap (λ (j : ℕ). j ∷ (y ∷ l)) (sym e) })
    go l (no m) d again =
        let z : pick (eqb k x) (head_or l null) (next_on l k null) ≡ next_on l k null = pick_ne (head_or l null) (next_on l k null) m in
        let h = again (λ e. d (z ∙ e)) in
        rw z (record { before = x ∷ h.before; after = h.after; whole = ap (λ (r : List ℕ). x ∷ r) h.whole })

pub beside_next : {l : List ℕ} {i j : ℕ} (a : ℕ) → ((k : ℕ) → times k l ≤ 1) → NextInOrder i j l → next_on l i a ≡ j
unfolding head_or
beside_next {l} {i} {j} a once h =
    ap (λ (m : List ℕ). next_on m i a) h.whole
    ∙ next_here h.before (j ∷ h.after) i a
    (omega (
      arith,
      once i,
      ap (λ (m : List ℕ). times i m) h.whole,
      times_append i h.before (i ∷ (j ∷ h.after)),
      times_head i (j ∷ h.after),
    ))

pub beside_in : {l : List ℕ} {i j : ℕ} → NextInOrder i j l → (1 ≤ times i l) × (1 ≤ times j l)
beside_in {l} {i} {j} h = (
  omega (arith, ap (λ (m : List ℕ). times i m) h.whole, times_append i h.before (i ∷ (j ∷ h.after)), times_head i (j ∷ h.after)),
  omega (
    arith,
    ap (λ (m : List ℕ). times j m) h.whole,
    times_append j h.before (i ∷ (j ∷ h.after)),
    times_rest j i (j ∷ h.after),
    times_head j h.after,
  ),
)

-- Where each slot's pair is below the next, the list rises.
pub beside_rising : (names : List ℕ) (l : List ℕ) → ((i j : ℕ) → NextInOrder i j l → Less (pair_of names i) (pair_of names j))
    → Rising names l
beside_rising names [] h = empty
beside_rising names (i ∷ []) h = rise last empty
beside_rising names (i ∷ (j ∷ l)) h =
    go (beside_rising names (j ∷ l)
    (λ x y b. h x y (record { before = i ∷ b.before; after = b.after; whole = ap (λ (r : List ℕ). i ∷ r) b.whole })))
  where
    go : Rising names (j ∷ l) → Rising names (i ∷ (j ∷ l))
    go (rise b r) =
        let e = h i j (record { before = []; after = l; whole = refl }) in rise (Below.before e (below_less e b)) (rise b r)
