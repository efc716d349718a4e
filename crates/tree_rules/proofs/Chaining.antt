-- T7: the walk along next passes where the slots form a chain, and takes a visit a slot. No slot stands twice: each has one more step
-- by prev to null than the slot before it.
use Rattle.std.proofs.Common.{◌≡◌, ℕ, zero, suc, ◌+◌, ◌-◌, ◌<◌, ◌≤◌, Bool, true, false, eqb, List, [], ◌∷◌, length, refl, ap, arith, le-ltb}
use Rattle.std.proofs.Common.{lt-ltb, eq-eqb, ne_eqb, eqb-true}
use native.Mathlib.Decide.{ℕ_discrete, dec_lt}
use Rattle.slots.specs.Words.{null, pick, prev, next, cell}
use Rattle.slots.specs.Answers.{none, some}
use Rattle.tree_rules.specs.Tree.{times}
use Rattle.tree_rules.specs.Chain.{Chain, ended, linked, chained}
use Rattle.tree_rules.proofs.Rank.{Rank, home, rank_up, Under, under_self, under_above, under_deep}
use Rattle.tree_rules.proofs.Counting.{times_head, times_else, times_cases, length_most}
use Rattle.tree_rules.proofs.Reaching.{refuted}

module _ (n : ℕ) (cells : List ℕ) where
  -- Each member is one of the n slots.
  pub chain_inside : {q i k : ℕ} {l : List ℕ} → Chain n cells q i l → 1 ≤ times k l → k < n
  unfolding times
  chain_inside (ended e) h = absurd (omega arith)
  chain_inside {k = k} (linked {i = i} {l} b p c) h = times_cases k i l h (λ e. omega arith) (λ y. chain_inside c y)

  -- The link of a chain with a member.
  head_prev : {q i : ℕ} {l : List ℕ} (k : ℕ) → Chain n cells q i l → 1 ≤ times k l → cell cells i prev ≡ q
  unfolding times
  head_prev k (ended e) h = absurd (omega arith)
  head_prev k (linked b p c) h = p

  -- What a walk that passed has found.
  record Found (q i v rest : ℕ) : Type 0 where
    visited : List ℕ
    chain : Chain n cells q i visited
    spent : length visited + rest ≡ v

  chain_found : (v q i rest : ℕ) → chained v n cells q i ≡ some rest → Found q i v rest
  unfolding chained
  chain_found zero q i rest e = go (eqb i null) refl e
    where
      go : (a : Bool) → eqb i null ≡ a → pick a (some 0) none ≡ some rest → Found q i 0 rest
      go true p e = let z : 0 ≡ rest = cc in record { visited = []; chain = ended (eqb-true i null p); spent = omega arith }
      go false p e = refuted e
  chain_found (suc v) q i rest e =
      go (ℕ_discrete i null) (dec_lt i n) (ℕ_discrete (cell cells i prev) q) (λ h. chain_found v i (cell cells i next) rest h)
    where
      go : Dec (i ≡ null) → Dec (i < n) → Dec (cell cells i prev ≡ q)
          → (chained v n cells i (cell cells i next) ≡ some rest → Found i (cell cells i next) v rest)
          → Found q i (suc v) rest
      go (yes p) x y again =
          let f : some (suc v) ≡ some rest = rw (eq-eqb i null p) at e in
          let z : suc v ≡ rest = cc in record { visited = []; chain = ended p; spent = omega arith }
      go (no p) (no x) y again = refuted (rw (ne_eqb i null p, le-ltb i n (omega arith)) at e)
      -- prev is another than the slot before
      go (no p) (yes x) (no y) again = refuted (rw (ne_eqb i null p, lt-ltb i n x, ne_eqb (cell cells i prev) q y) at e)
      go (no p) (yes x) (yes y) again =
          let h = again (rw (ne_eqb i null p, lt-ltb i n x, eq-eqb (cell cells i prev) q y) at e) in
          record { visited = i ∷ h.visited; chain = linked x y h.chain; spent = omega (arith, h.spent) }

  module _ (small : n ≤ null) where
    chain_under : {q i d k : ℕ} {l : List ℕ} → Chain n cells q i l → Rank cells prev q d → 1 ≤ times k l → Under cells prev d i k
    unfolding times
    chain_under (ended e) rk h = absurd (omega arith)
    chain_under {d = d} {k} (linked {i = i} {l} b p c) rk h =
        let r : Rank cells prev i (suc d) = rank_up (omega arith) p rk in
        times_cases k i l h (λ e. rw e (under_self r)) (λ y. under_above (head_prev k c y) (chain_under c r y))

    once_from : {q i d : ℕ} {l : List ℕ} → Chain n cells q i l → Rank cells prev q d → (k : ℕ) → times k l ≤ 1
    unfolding times
    once_from (ended e) rk k = omega arith
    once_from {d = d} (linked {i = i} {l} b p c) rk k =
        let r : Rank cells prev i (suc d) = rank_up (omega arith) p rk in go r (ℕ_discrete k i) (ℕ_discrete (times k l) 0) (once_from c r k)
      where
        go : Rank cells prev i (suc d) → Dec (k ≡ i) → Dec (times k l ≡ 0) → times k l ≤ 1 → times k (i ∷ l) ≤ 1
        go r (no e) z o = omega (arith, times_else k i l e)
        go r (yes e) (yes z) o = rw e (omega (arith, times_head i l, ap (λ (j : ℕ). times j l) e))
        go r (yes e) (no z) o =
            let y : 1 ≤ times k l = omega arith in
            let s : Rank cells prev k (suc d) = rw e r in absurd (omega (arith, under_deep (chain_under c r y) s))

    chain_passes : (v : ℕ) {q i : ℕ} {l : List ℕ} → Chain n cells q i l → length l ≤ v → chained v n cells q i ≡ some (v - length l)
    unfolding chained
    chain_passes zero (ended {i = i} e) h = rw (eq-eqb i null e) (ap some (omega arith))
    chain_passes (suc v) (ended {i = i} e) h = rw (eq-eqb i null e) (ap some (omega arith))
    chain_passes zero (linked b p c) h = absurd (omega arith)
    chain_passes (suc v) {q} (linked {i = i} b p c) h =
        rw (ne_eqb i null (omega arith), lt-ltb i n b, eq-eqb (cell cells i prev) q p, chain_passes v c (omega arith))
        (ap some (omega arith))

    pub chain_unique : {p q i : ℕ} {l m : List ℕ} → Chain n cells p i l → Chain n cells q i m → l ≡ m
    chain_unique (ended e) (ended f) = refl
    chain_unique (ended e) (linked b p c) = absurd (omega arith)
    chain_unique (linked b p c) (ended e) = absurd (omega arith)
    chain_unique (linked {i = i} b p c) (linked b' p' c') = ap (λ (l : List ℕ). i ∷ l) (chain_unique c c')

    module _ (first : ℕ) where
      pub chained_chain : (rest : ℕ) → chained n n cells null first ≡ some rest
          → (l : List ℕ) × Chain n cells null first l × (length l + rest ≡ n)
      chained_chain rest e = let h = chain_found n null first rest e in (h.visited, h.chain, h.spent)

      pub chain_once : {l : List ℕ} → Chain n cells null first l → (k : ℕ) → times k l ≤ 1
      chain_once c = once_from c (home refl)

      pub chain_most : {l : List ℕ} → Chain n cells null first l → length l ≤ n
      chain_most {l} c = length_most n l (λ k y. chain_inside c y) (chain_once c)

      pub chain_chained : {l : List ℕ} → Chain n cells null first l → chained n n cells null first ≡ some (n - length l)
      chain_chained c = chain_passes n c (chain_most c)
