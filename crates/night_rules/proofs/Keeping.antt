-- Counting the kept slots of a report: a kept slot has as many kept ones below it as its number among them, and the search for a number
-- comes to the slot that has it. None of it reads the report from its own slot on.
use mathlib.Core.Path.{◌≡◌, refl, ap, sym, ◌∙◌}
use mathlib.Core.Logic.{◌≢◌}
use mathlib.Core.Bool.{Bool, true, false}
use mathlib.Core.List.{List, [], ◌∷◌, map}
use Prim.Native.Nat.{ℕ, zero, suc, ◌+◌, ◌-◌, ◌<◌, ◌≤◌}
use native.Mathlib.Decide.{ℕ_discrete}
use native.Mathlib.Omega.{arith}
use lib.ListN.{length, get_or, set}
use lib.Dec.{eqb}
use lib.Seq.{get_or-set_other}
use borrow.Author.Tests.{eq-eqb, ne_eqb}
use Rattle.slots.specs.Words.{null, pick}
use Rattle.tree_rules.specs.Tree.{times}
use Rattle.tree_rules.specs.Chain.{tally}
use Rattle.tree_rules.proofs.Counting.{tally_same, times_head, times_else, times_cases}
use Rattle.index_rules.specs.Contents.{Entry, In, first, later, empty}
use Rattle.index_rules.proofs.Listing.{first_all, in_lacks}
use Rattle.night_rules.specs.Salvage.{came_from}
use Rattle.night_rules.specs.Saved.{KeptSlot, kept_mark, kept_below, kept_down, slot_entry}

-- The two reports say the same of every slot below i.
abbrev pub SameBelow : ℕ → List ℕ → List ℕ → Type 0
SameBelow i r q = (k : ℕ) → k < i → get_or q k null ≡ get_or r k null

module _ (r : List ℕ) where
  pub mark_kept : (i : ℕ) → KeptSlot r i → kept_mark r i ≡ 1
  unfolding kept_mark
  mark_kept i e = rw (eq-eqb (get_or r i null) 0 e)

  pub mark_not : (i : ℕ) → (KeptSlot r i → ⊥) → kept_mark r i ≡ 0
  unfolding kept_mark
  mark_not i d = rw (ne_eqb (get_or r i null) 0 d)

  pub below_next : (i : ℕ) → kept_below r (suc i) ≡ kept_mark r i + kept_below r i
  unfolding tally
  below_next i = refl

  pub below_none : kept_below r 0 ≡ 0
  unfolding tally
  below_none = refl

  mark_most : (i : ℕ) → kept_mark r i ≤ 1
  mark_most i = go (ℕ_discrete (get_or r i null) 0)
    where
      go : Dec (KeptSlot r i) → kept_mark r i ≤ 1
      go (yes e) = omega (arith, mark_kept i e)
      go (no d) = omega (arith, mark_not i d)

  pub below_most : (i : ℕ) → kept_below r i ≤ i
  below_most zero = omega (arith, below_none)
  below_most (suc i) = omega (arith, below_next i, mark_most i, below_most i)

  -- A kept slot has fewer kept ones below it than a higher slot has.
  pub rank_rises : (j i : ℕ) → j < i → KeptSlot r j → kept_below r j < kept_below r i
  rank_rises j zero l e = absurd (omega arith)
  rank_rises j (suc i) l e = go (ℕ_discrete j i) (λ d. rank_rises j i (omega arith) e)
    where
      go : Dec (j ≡ i) → (j ≢ i → kept_below r j < kept_below r i) → kept_below r j < kept_below r (suc i)
      go (yes z) again =
          let y : kept_below r j ≡ kept_below r i = ap (kept_below r) z in omega (arith, mark_kept j e, ap (kept_mark r) z, below_next i)
      go (no d) again = omega (arith, again d, below_next i)

  pub down_kept : (i : ℕ) → KeptSlot r i → kept_down r (suc i) ≡ i ∷ kept_down r i
  unfolding kept_down
  down_kept i e = rw (eq-eqb (get_or r i null) 0 e)

  pub down_not : (i : ℕ) → (KeptSlot r i → ⊥) → kept_down r (suc i) ≡ kept_down r i
  unfolding kept_down
  down_not i d = rw (ne_eqb (get_or r i null) 0 d)

  pub down_none : kept_down r 0 ≡ []
  unfolding kept_down
  down_none = refl

  -- The slot s is kept, below i, and has x kept ones below it.
  pub record CameFrom (i x s : ℕ) : Type 0 where
    pub inside : s < i
    pub kept : KeptSlot r s
    pub rank : kept_below r s ≡ x

  came_up : (c i x : ℕ) → kept_below r i + x < kept_below r (i + c) → CameFrom (i + c) (kept_below r i + x) (came_from c r i x)
  unfolding came_from
  came_up zero i x l = let e : i + 0 ≡ i = omega arith in absurd (omega (arith, ap (kept_below r) e))
  came_up (suc c) i x l = go (ℕ_discrete (get_or r i null) 0) (ℕ_discrete x 0) (λ y m. came_up c (suc i) y m)
    where
      to : suc i + c ≡ i + suc c
      to = omega arith

      ends : kept_below r (suc i + c) ≡ kept_below r (i + suc c)
      ends = ap (kept_below r) to

      up : {y s : ℕ} → y ≡ kept_below r i + x → CameFrom (suc i + c) y s → CameFrom (i + suc c) (kept_below r i + x) s
      up e h = record { inside = omega (arith, h.inside); kept = h.kept; rank = h.rank ∙ e }

      go : Dec (KeptSlot r i) → Dec (x ≡ 0)
          → ((y : ℕ) → kept_below r (suc i) + y < kept_below r (suc i + c)
          → CameFrom (suc i + c) (kept_below r (suc i) + y) (came_from c r (suc i) y))
          → CameFrom (i + suc c) (kept_below r i + x) (came_from (suc c) r i x)
      go (yes k) (yes z) again =
          rw (eq-eqb (get_or r i null) 0 k, eq-eqb x 0 z) (record { inside = omega arith; kept = k; rank = omega arith })
      go (yes k) (no d) again =
          rw (eq-eqb (get_or r i null) 0 k, ne_eqb x 0 d)
          (up (omega (arith, below_next i, mark_kept i k)) (again (x - 1) (omega (arith, ends, below_next i, mark_kept i k))))
      go (no k) z again =
          rw (ne_eqb (get_or r i null) 0 k)
          (up (omega (arith, below_next i, mark_not i k)) (again x (omega (arith, ends, below_next i, mark_not i k))))

  pub came : (i x : ℕ) → x < kept_below r i → CameFrom i x (came_from i r 0 x)
  came i x l =
      let z : 0 + i ≡ i = omega arith in
      let h = came_up i 0 x (omega (arith, below_none, ap (kept_below r) z)) in
      record { inside = omega (arith, h.inside); kept = h.kept; rank = h.rank ∙ omega (arith, below_none) }

-- On any report the search ends at one of the slots, or past them.
pub came_most : (c : ℕ) (r : List ℕ) (i x : ℕ) → came_from c r i x ≤ i + c
unfolding came_from
came_most zero r i x = omega arith
came_most (suc c) r i x = go (eqb (get_or r i null) 0) (eqb x 0) (came_most c r (suc i) (x - 1)) (came_most c r (suc i) x)
  where
    go : (a b : Bool) → came_from c r (suc i) (x - 1) ≤ suc i + c → came_from c r (suc i) x ≤ suc i + c
        → pick a (pick b i (came_from c r (suc i) (x - 1))) (came_from c r (suc i) x) ≤ i + suc c
    go true true h k = omega arith
    go true false h k = omega arith
    go false b h k = omega arith

-- Where the reports say the same, so do the counts.
module _ (r q : List ℕ) where
  mark_same : (i : ℕ) → get_or q i null ≡ get_or r i null → kept_mark q i ≡ kept_mark r i
  unfolding kept_mark
  mark_same i e = rw e

  pub below_same : (i : ℕ) → SameBelow i r q → kept_below q i ≡ kept_below r i
  below_same i a = tally_same i (kept_mark q) (kept_mark r) (λ k l. mark_same k (a k l))

  pub down_same : (i : ℕ) → SameBelow i r q → kept_down q i ≡ kept_down r i
  down_same zero a = down_none q ∙ sym (down_none r)
  down_same (suc i) a = go (ℕ_discrete (get_or r i null) 0) (down_same i (λ k l. a k (omega arith)))
    where
      same : get_or q i null ≡ get_or r i null
      same = a i (omega arith)

      go : Dec (KeptSlot r i) → kept_down q i ≡ kept_down r i → kept_down q (suc i) ≡ kept_down r (suc i)
      go (yes k) again = down_kept q i (same ∙ k) ∙ ap (λ (l : List ℕ). i ∷ l) again ∙ sym (down_kept r i k)
      go (no k) again = down_not q i (λ z. k (sym same ∙ z)) ∙ again ∙ sym (down_not r i k)

-- A word written at i leaves what is below it.
pub set_below : (r : List ℕ) (i w : ℕ) → SameBelow i r (set r i w)
set_below r i w k l = get_or-set_other r i k w null (omega arith)

-- The numbers below k, the last first: the chain of a tree that was filled from slot 0 on.
unfoldable pub down_from : ℕ → List ℕ
down_from zero = []
down_from (suc k) = k ∷ down_from k

pub down_times : (k x : ℕ) → 1 ≤ times x (down_from k) → x < k
unfolding down_from times
down_times zero x z = absurd (omega arith)
down_times (suc k) x z = times_cases x k (down_from k) z (λ e. omega arith) (λ y. omega (arith, down_times k x y))

pub times_down : (k x : ℕ) → x < k → 1 ≤ times x (down_from k)
unfolding down_from
times_down zero x l = absurd (omega arith)
times_down (suc k) x l = go (ℕ_discrete x k) (λ d. times_down k x (omega arith))
  where
    go : Dec (x ≡ k) → (x ≢ k → 1 ≤ times x (down_from k)) → 1 ≤ times x (k ∷ down_from k)
    go (yes e) again = rw e (omega (arith, times_head k (down_from k)))
    go (no d) again = omega (arith, again d, times_else x k (down_from k) d)

pub down_length : (k : ℕ) → length (down_from k) ≡ k
unfolding down_from
down_length zero = refl
down_length (suc k) = omega (arith, down_length k)

-- The entries of the kept slots below i.
module _ (names cells r : List ℕ) where
  abbrev entries : ℕ → List Entry
  entries i = map (slot_entry names cells) (kept_down r i)

  pub record KeptEntry (i : ℕ) (e : Entry) : Type 0 where
    pub slot : ℕ
    pub inside : slot < i
    pub kept : KeptSlot r slot
    pub is : slot_entry names cells slot ≡ e

  pub down_in : (i j : ℕ) → j < i → KeptSlot r j → In (slot_entry names cells j) (entries i)
  down_in zero j l k = absurd (omega arith)
  down_in (suc i) j l k = go (ℕ_discrete j i) (ℕ_discrete (get_or r i null) 0) (λ d. down_in i j (omega arith) k)
    where
      go : Dec (j ≡ i) → Dec (KeptSlot r i) → (j ≢ i → In (slot_entry names cells j) (entries i))
          → In (slot_entry names cells j) (entries (suc i))
      go (yes e) (yes z) again = rw (down_kept r i z, e) first
      go (yes e) (no d) again = absurd (d (ap (λ (m : ℕ). get_or r m null) (sym e) ∙ k))
      go (no e) (yes z) again = rw (down_kept r i z) (later (again e))
      go (no e) (no d) again = rw (down_not r i d) (again e)

  pub in_down : (i : ℕ) (e : Entry) → In e (entries i) → KeptEntry i e
  in_down zero e h = absurd (in_lacks (rw (down_none r) at h) empty refl refl)
  in_down (suc i) e h = go (ℕ_discrete (get_or r i null) 0) (in_down i)
    where
      up : {x : Entry} → KeptEntry i x → KeptEntry (suc i) x
      up k = record { slot = k.slot; inside = omega (arith, k.inside); kept = k.kept; is = k.is }

      go : Dec (KeptSlot r i) → ((x : Entry) → In x (entries i) → KeptEntry i x) → KeptEntry (suc i) e
      go (yes z) again =
          first_all (KeptEntry (suc i)) (slot_entry names cells i) (entries i)
          (record { slot = i; inside = omega arith; kept = z; is = refl }) (λ x j. up (again x j)) e (rw (down_kept r i z) at h)
      go (no d) again = up (again e (rw (down_not r i d) at h))
