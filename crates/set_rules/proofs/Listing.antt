-- Each outcome of a list read by next comes exactly where the links followed say so: the model after k visits is the model from the
-- start with k visits fewer.
use mathlib.Core.Path.{◌≡◌, refl, ap, sym, ◌∙◌}
use mathlib.Core.Logic.{◌≢◌, ◌⊎◌, inl, inr}
use mathlib.Core.Bool.{Bool, true, false, false≢true}
use mathlib.Core.List.{List}
use Prim.Native.Nat.{ℕ, zero, suc, ◌+◌, ◌-◌, ◌<◌, ◌≤◌}
use native.Mathlib.Decide.{ℕ_discrete, dec_lt, dec_le}
use native.Mathlib.Omega.{arith}
use lib.Dec.{eqb}
use borrow.Author.Tests.{eqb-true, eq-eqb}
use Rattle.slots.specs.Words.{null, next, cell, name_of, hash_part, key_part}
use Rattle.slots.specs.Pairs.{Pair, pair, pair_of}
use Rattle.slots.specs.Answers.{Answer, given, nothing, refused}
use Rattle.tree_rules.specs.Find.{slots_of}
use Rattle.tree_rules.proofs.Trail.{answers}
use Rattle.set_rules.specs.Lookup.{has_pair, sought_in_list, ListFollows, start, step, ListLost, ListHere, ListMissed}
use Rattle.set_rules.proofs.Reading.{at_null, out_of_range, visits_spent, at_slot}
use Rattle.set_rules.proofs.Cursors.{both}

-- The test of a pair is the equality of pairs.
pub same_has : (names : List ℕ) (p hash key : ℕ) → pair_of names p ≡ pair hash key → has_pair names p hash key ≡ true
unfolding has_pair
same_has names p hash key e =
    simp (
      eq-eqb (name_of names p hash_part) hash (ap (λ (q : Pair). q.hash) e),
      eq-eqb (name_of names p key_part) key (ap (λ (q : Pair). q.key) e),
    )

pub has_same : (names : List ℕ) (p hash key : ℕ) → has_pair names p hash key ≡ true → pair_of names p ≡ pair hash key
unfolding has_pair
has_same names p hash key h =
    let b : (eqb (name_of names p hash_part) hash ≡ true) × (eqb (name_of names p key_part) key ≡ true) = both h in
    let e = eqb-true (name_of names p hash_part) hash b.0 in
    let f = eqb-true (name_of names p key_part) key b.1 in
    λ i. record { hash = e i; key = f i }

pub decided : (names : List ℕ) (p hash key : ℕ) → Dec (pair_of names p ≡ pair hash key)
decided names p hash key = go (has_pair names p hash key) refl
  where
    go : (b : Bool) → has_pair names p hash key ≡ b → Dec (pair_of names p ≡ pair hash key)
    go true e = yes (has_same names p hash key e)
    go false e = no (λ f. false≢true (sym e ∙ same_has names p hash key f))

pub not_has : (names : List ℕ) (p hash key : ℕ) → pair_of names p ≢ pair hash key → has_pair names p hash key ≡ false
not_has names p hash key n = go (has_pair names p hash key) refl
  where
    go : (b : Bool) → has_pair names p hash key ≡ b → has_pair names p hash key ≡ false
    go true e = absurd (n (has_same names p hash key e))
    go false e = e

module _ (names cells : List ℕ) (first hash key : ℕ) where
  abbrev pub whole : Answer
  whole = (sought_in_list names cells (slots_of names) first hash key).answer

  -- One more visit.
  pub onward : {p : ℕ} (v : ℕ) → p ≢ null → p < slots_of names → pair_of names p ≢ pair hash key
      → (sought_in_list names cells (suc v) p hash key).answer ≡ (sought_in_list names cells v (cell cells p next) hash key).answer
  onward {p} v n l d = answers (at_slot names cells hash key v p n l) ∙ rw (not_has names p hash key d)

  pub stays : {p : ℕ} (v : ℕ) → p ≢ null → p < slots_of names → pair_of names p ≡ pair hash key
      → (sought_in_list names cells (suc v) p hash key).answer ≡ given p
  stays {p} v n l d = answers (at_slot names cells hash key v p n l) ∙ rw (same_has names p hash key d)

  fewer : (n k : ℕ) → suc k ≤ n → n - k ≡ suc (n - suc k)
  fewer n k h = omega arith

  -- The answer from a link followed in time is the answer.
  trace : {k p : ℕ} → ListFollows names cells first hash key k p → k ≤ slots_of names
      → whole ≡ (sought_in_list names cells (slots_of names - k) p hash key).answer
  trace start l =
      let z : slots_of names ≡ slots_of names - 0 = omega arith in ap (λ (v : ℕ). (sought_in_list names cells v first hash key).answer) z
  trace (step {k} {p} f n i e) l =
      trace f (omega arith) ∙ ap (λ (v : ℕ). (sought_in_list names cells v p hash key).answer) (fewer (slots_of names) k l)
      ∙ onward (slots_of names - suc k) n i e

  spent : {k p : ℕ} → ListFollows names cells first hash key k p → p ≢ null → k ≡ slots_of names → whole ≡ refused 9
  spent {k} {p} f n e =
      let z : slots_of names - k ≡ 0 = omega arith in
      trace f (omega arith) ∙ ap (λ (v : ℕ). (sought_in_list names cells v p hash key).answer) z
      ∙ answers (visits_spent names cells hash key p n)

  -- A link followed after more visits than there are slots.
  late : {k p : ℕ} → ListFollows names cells first hash key k p → slots_of names < k → whole ≡ refused 9
  late start l = absurd (omega arith)
  late (step {k} f n i e) l = go (dec_lt (slots_of names) k) (λ h. late f h)
    where
      go : Dec (slots_of names < k) → (slots_of names < k → whole ≡ refused 9) → whole ≡ refused 9
      go (yes h) again = again h
      go (no h) again = spent f n (omega arith)

  pub lost_nine : ListLost names cells first hash key → whole ≡ refused 9
  lost_nine h = go (dec_le h.visited (slots_of names)) h.astray
    where
      go : Dec (h.visited ≤ slots_of names) → (slots_of names ≤ h.link) ⊎ (slots_of names ≤ h.visited) → whole ≡ refused 9
      go (no d) a = late h.follows (omega arith)
      go (yes l) (inl a) = trace h.follows l ∙ answers (out_of_range names cells hash key _ h.link h.solid a)
      go (yes l) (inr a) = spent h.follows h.solid (omega arith)

  pub here_given : {slot : ℕ} → ListHere names cells first hash key slot → whole ≡ given slot
  here_given {slot} h =
      trace h.follows (omega (arith, h.timely))
      ∙ ap (λ (v : ℕ). (sought_in_list names cells v slot hash key).answer) (fewer (slots_of names) h.visited h.timely)
      ∙ stays (slots_of names - suc h.visited) h.solid h.inside h.has

  pub missed_nothing : ListMissed names cells first hash key → whole ≡ nothing
  missed_nothing h = trace h.follows h.timely ∙ answers (at_null names cells hash key _ null refl)

  -- Which of the three comes from a link followed.
  pub data Outcome : Answer → Type 0 where
    lost : ListLost names cells first hash key → Outcome (refused 9)
    hit : {slot : ℕ} → ListHere names cells first hash key slot → Outcome (given slot)
    miss : ListMissed names cells first hash key → Outcome nothing

  from : (v k p : ℕ) → ListFollows names cells first hash key k p → k + v ≡ slots_of names
      → Outcome (sought_in_list names cells v p hash key).answer
  from zero k p f e = go (ℕ_discrete p null)
    where
      go : Dec (p ≡ null) → Outcome (sought_in_list names cells 0 p hash key).answer
      go (yes z) = rw (at_null names cells hash key 0 p z) (miss (record { visited = k; follows = rw z at f; timely = omega arith }))
      go (no n) =
          rw (visits_spent names cells hash key p n)
          (lost (record { visited = k; link = p; follows = f; solid = n; astray = inr (omega arith) }))
  from (suc v) k p f e =
      go (ℕ_discrete p null) (dec_lt p (slots_of names)) (decided names p hash key)
      (λ g. from v (suc k) (cell cells p next) g (omega arith))
    where
      go : Dec (p ≡ null) → Dec (p < slots_of names) → Dec (pair_of names p ≡ pair hash key)
          → (ListFollows names cells first hash key (suc k) (cell cells p next)
          → Outcome (sought_in_list names cells v (cell cells p next) hash key).answer)
          → Outcome (sought_in_list names cells (suc v) p hash key).answer
      go (yes z) d h rest =
          rw (at_null names cells hash key (suc v) p z) (miss (record { visited = k; follows = rw z at f; timely = omega arith }))
      go (no n) (no d) h rest =
          rw (out_of_range names cells hash key (suc v) p n (omega arith))
          (lost (record { visited = k; link = p; follows = f; solid = n; astray = inl (omega arith) }))
      go (no n) (yes l) (yes h) rest =
          rw (stays v n l h) (hit (record { visited = k; follows = f; solid = n; inside = l; timely = omega arith; has = h }))
      go (no n) (yes l) (no h) rest = rw (onward v n l h) (rest (step f n l h))

  pub outcome : Outcome whole
  outcome = from (slots_of names) 0 first start (omega arith)
