-- Each outcome of a search comes exactly where the links followed say so: the model after k visits is the model from the start
-- with k visits fewer, and what it answers at a link is told by that link.
use Rattle.std.proofs.Common.{◌≡◌, ℕ, zero, suc, ◌+◌, ◌-◌, ◌<◌, ◌≤◌, ◌≢◌, ◌⊎◌, List, sym, refl, ap, ◌∙◌, inl, inr, arith}
use native.Mathlib.Decide.{ℕ_discrete, dec_lt, dec_le}
use Rattle.slots.specs.Words.{null}
use Rattle.slots.specs.Answers.{Answer, given, nothing, refused}
use Rattle.slots.proofs.Laws.{number, given_is, nothing-given}
use Rattle.tree_rules.specs.Find.{Look, here, on, looked, Search, looked_then, slots_of, searched, found, Follows, start, step, Lost}
use Rattle.tree_rules.specs.Find.{Here, Missed}
use Rattle.tree_rules.proofs.Searching.{at_null, out_of_range, visits_spent, at_slot}

module _ (names cells : List ℕ) (root hash key : ℕ) where
  -- One more visit.
  onward : {p q : ℕ} (v : ℕ) → p ≢ null → p < slots_of names → looked names cells p hash key ≡ on q
      → (searched names cells (suc v) p hash key).answer ≡ (searched names cells v q hash key).answer
  onward {p} v n l e =
      ap (λ (s : Search). s.answer) (at_slot names cells hash key v p n l)
      ∙ ap (λ (o : Look). (looked_then o p (λ q. searched names cells v q hash key)).answer) e

  stays : {p : ℕ} (v : ℕ) → p ≢ null → p < slots_of names → looked names cells p hash key ≡ here
      → (searched names cells (suc v) p hash key).answer ≡ given p
  stays {p} v n l e =
      ap (λ (s : Search). s.answer) (at_slot names cells hash key v p n l)
      ∙ ap (λ (o : Look). (looked_then o p (λ q. searched names cells v q hash key)).answer) e

  fewer : (n k : ℕ) → suc k ≤ n → n - k ≡ suc (n - suc k)
  fewer n k h = omega arith

  -- The answer from a link followed in time is the answer.
  trace : {k p : ℕ} → Follows names cells root hash key k p → k ≤ slots_of names
      → (found names cells root hash key).answer ≡ (searched names cells (slots_of names - k) p hash key).answer
  unfolding found
  trace start l = let z : slots_of names ≡ slots_of names - 0 = omega arith in
      ap (λ (v : ℕ). (searched names cells v root hash key).answer) z
  trace (step {k} {p} {q} f n i e) l =
      trace f (omega arith) ∙ ap (λ (v : ℕ). (searched names cells v p hash key).answer) (fewer (slots_of names) k l)
      ∙ onward (slots_of names - suc k) n i e

  spent : {k p : ℕ} → Follows names cells root hash key k p → p ≢ null → k ≡ slots_of names
      → (found names cells root hash key).answer ≡ refused 9
  spent {k} {p} f n e =
      let z : slots_of names - k ≡ 0 = omega arith in
      trace f (omega arith) ∙ ap (λ (v : ℕ). (searched names cells v p hash key).answer) z
      ∙ ap (λ (s : Search). s.answer) (visits_spent names cells hash key p n)

  -- A link followed after more visits than there are slots.
  late : {k p : ℕ} → Follows names cells root hash key k p → slots_of names < k → (found names cells root hash key).answer ≡ refused 9
  late start l = absurd (omega arith)
  late (step {k} f n i e) l = go (dec_lt (slots_of names) k) (λ h. late f h)
    where
      go : Dec (slots_of names < k) → (slots_of names < k → (found names cells root hash key).answer ≡ refused 9)
          → (found names cells root hash key).answer ≡ refused 9
      go (yes h) again = again h
      go (no h) again = spent f n (omega arith)

  pub lost_nine : Lost names cells root hash key → (found names cells root hash key).answer ≡ refused 9
  lost_nine h = go (dec_le h.visited (slots_of names)) h.astray
    where
      go : Dec (h.visited ≤ slots_of names) → (slots_of names ≤ h.link) ⊎ (slots_of names ≤ h.visited)
          → (found names cells root hash key).answer ≡ refused 9
      go (no d) a = late h.follows (omega arith)
      go (yes l) (inl a) =
          trace h.follows l ∙ ap (λ (s : Search). s.answer) (out_of_range names cells hash key _ h.link h.solid a)
      go (yes l) (inr a) = spent h.follows h.solid (omega arith)

  pub here_given : {slot : ℕ} → Here names cells root hash key slot → (found names cells root hash key).answer ≡ given slot
  here_given {slot} h =
      trace h.follows (omega (arith, h.timely))
      ∙ ap (λ (v : ℕ). (searched names cells v slot hash key).answer) (fewer (slots_of names) h.visited h.timely)
      ∙ stays (slots_of names - suc h.visited) h.solid h.inside h.look

  pub missed_nothing : Missed names cells root hash key → (found names cells root hash key).answer ≡ nothing
  missed_nothing h = trace h.follows h.timely ∙ ap (λ (s : Search). s.answer) (at_null names cells hash key _ null refl)

  -- Which of the three comes from a link followed.
  data Outcome (a : Answer) : Type 0 where
    lost : Lost names cells root hash key → a ≡ refused 9 → Outcome a
    hit : {slot : ℕ} → Here names cells root hash key slot → a ≡ given slot → Outcome a
    miss : Missed names cells root hash key → a ≡ nothing → Outcome a

  carried : {a b : Answer} → a ≡ b → Outcome b → Outcome a
  carried e (lost h a) = lost h (e ∙ a)
  carried e (hit h a) = hit h (e ∙ a)
  carried e (miss h a) = miss h (e ∙ a)

  visit : (v k p : ℕ) → Follows names cells root hash key k p → k + suc v ≡ slots_of names → p ≢ null → p < slots_of names
      → (o : Look) → looked names cells p hash key ≡ o
      → ((q : ℕ) → Follows names cells root hash key (suc k) q → Outcome (searched names cells v q hash key).answer)
      → Outcome (searched names cells (suc v) p hash key).answer
  visit v k p f e n l here o rest =
      hit (record { visited = k; follows = f; solid = n; inside = l; timely = omega arith; look = o }) (stays v n l o)
  visit v k p f e n l (on q) o rest = carried (onward v n l o) (rest q (step f n l o))

  outcome : (v k p : ℕ) → Follows names cells root hash key k p → k + v ≡ slots_of names
      → Outcome (searched names cells v p hash key).answer
  outcome zero k p f e = go (ℕ_discrete p null)
    where
      go : Dec (p ≡ null) → Outcome (searched names cells 0 p hash key).answer
      go (yes z) =
          miss (record { visited = k; follows = rw z at f; timely = omega arith })
          (ap (λ (s : Search). s.answer) (at_null names cells hash key 0 p z))
      go (no n) =
          lost (record { visited = k; link = p; follows = f; solid = n; astray = inr (omega arith) })
          (ap (λ (s : Search). s.answer) (visits_spent names cells hash key p n))
  outcome (suc v) k p f e = go (ℕ_discrete p null) (dec_lt p (slots_of names)) (λ q g. outcome v (suc k) q g (omega arith))
    where
      go : Dec (p ≡ null) → Dec (p < slots_of names)
          → ((q : ℕ) → Follows names cells root hash key (suc k) q → Outcome (searched names cells v q hash key).answer)
          → Outcome (searched names cells (suc v) p hash key).answer
      go (yes z) d rest =
          miss (record { visited = k; follows = rw z at f; timely = omega arith })
          (ap (λ (s : Search). s.answer) (at_null names cells hash key (suc v) p z))
      go (no n) (no d) rest =
          lost (record { visited = k; link = p; follows = f; solid = n; astray = inl (omega arith) })
          (ap (λ (s : Search). s.answer) (out_of_range names cells hash key (suc v) p n (omega arith)))
      go (no n) (yes l) rest = visit v k p f e n l (looked names cells p hash key) refl rest

  whole : Outcome (found names cells root hash key).answer
  unfolding found
  whole = outcome (slots_of names) 0 root start (omega arith)

  pub nine_lost : (found names cells root hash key).answer ≡ refused 9 → Lost names cells root hash key
  nine_lost e = go whole
    where
      go : Outcome (found names cells root hash key).answer → Lost names cells root hash key
      go (lost h a) = h
      go (hit h a) = absurd (omega (arith, number (sym a ∙ e)))
      go (miss h a) = absurd (omega (arith, number (sym a ∙ e)))

  pub given_here : {slot : ℕ} → (found names cells root hash key).answer ≡ given slot → Here names cells root hash key slot
  given_here {slot} e = go whole
    where
      go : Outcome (found names cells root hash key).answer → Here names cells root hash key slot
      go (lost h a) = absurd (omega (arith, number (sym a ∙ e)))
      go (hit h a) = rw (given_is (sym a ∙ e)) at h
      go (miss h a) = absurd (nothing-given (sym a ∙ e))

  pub nothing_missed : (found names cells root hash key).answer ≡ nothing → Missed names cells root hash key
  nothing_missed e = go whole
    where
      go : Outcome (found names cells root hash key).answer → Missed names cells root hash key
      go (lost h a) = absurd (omega (arith, number (sym a ∙ e)))
      go (hit h a) = absurd (nothing-given (sym e ∙ a))
      go (miss h a) = h

  -- No refusal but 9.
  pub only_nine : (m : ℕ) → 1 ≤ m → (found names cells root hash key).answer ≡ refused m → m ≡ 9
  only_nine m l e = go whole
    where
      go : Outcome (found names cells root hash key).answer → m ≡ 9
      go (lost h a) = number (sym e ∙ a)
      go (hit h a) = absurd (omega (arith, number (sym e ∙ a)))
      go (miss h a) = absurd (omega (arith, number (sym e ∙ a)))
