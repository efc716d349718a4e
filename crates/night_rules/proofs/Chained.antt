-- T7: where no slot shows it broken, the used slots form the chain from first by next. A slot's prevs lead to first, so the chain from it
-- on is built with a budget that the steps to first use up; and a used slot is found in it from first on.
use mathlib.Core.Path.{◌≡◌, refl, sym, subst, ◌∙◌}
use mathlib.Core.Logic.{◌≢◌}
use mathlib.Core.List.{List, [], ◌∷◌}
use Prim.Native.Nat.{ℕ, zero, suc, ◌+◌, ◌<◌, ◌≤◌}
use native.Mathlib.Decide.{ℕ_discrete}
use native.Mathlib.Omega.{arith}
use Rattle.slots.specs.Words.{null, state, prev, next, free, cell}
use Rattle.tree_rules.specs.Find.{slots_of}
use Rattle.tree_rules.specs.Tree.{times}
use Rattle.tree_rules.specs.Chain.{Chain, ended, linked}
use Rattle.tree_rules.proofs.Rank.{Rank, home, rank_up}
use Rattle.tree_rules.proofs.Counting.{times_cases, times_head, times_rest}
use Rattle.tree_rules.proofs.Chaining.{chain_once}
use Rattle.index_rules.specs.Live.{Live, Fit, first_of, count_of}
use Rattle.index_rules.specs.Sound.{used, T1, T2, T7}
use Rattle.index_rules.proofs.Rules.{small}
use Rattle.night_rules.specs.Shows.{Used, LeadsTo, there, one_more, Unchained, behind_one, prev_elsewhere, next_elsewhere, off_first}
use Rattle.night_rules.specs.Shows.{Shows7}
use Rattle.night_rules.proofs.Leading.{InSteps, stay, step, rank_steps, leads_steps, null_steps, steps_most, leads_dec}
use Rattle.night_rules.proofs.Slots
use Rattle.night_rules.proofs.Slots.{sure}
use Rattle.night_rules.proofs.Seated.{leads_on}

-- What no slot shows broken.
record Chainable (t : Live) : Type 0 where
  firstless : (i : ℕ) → Used t i → i ≡ first_of t → cell t.cells i prev ≡ null
  behind : (i : ℕ) → Used t i → i ≢ first_of t → cell t.cells i prev ≢ null
  prevs : (i : ℕ) → Used t i → cell t.cells i prev ≢ null → cell t.cells (cell t.cells i prev) next ≡ i
  busy : (i : ℕ) → Used t i → cell t.cells i next ≢ null → cell t.cells (cell t.cells i next) state ≢ free
  nexts : (i : ℕ) → Used t i → cell t.cells i next ≢ null → cell t.cells (cell t.cells i next) prev ≡ i
  leads : (i : ℕ) → Used t i → LeadsTo t.cells prev (first_of t) i

module _ {n : ℕ} {cells : List ℕ} where
  head_in : {q i : ℕ} {l : List ℕ} → Chain n cells q i l → i ≢ null → 1 ≤ times i l
  head_in (ended e) d = absurd (d e)
  head_in (linked {i = i} {l} b p c) d = omega (arith, times_head i l)

  -- The next of a member is a member, whose prev leads back.
  next_in_lem : {q i : ℕ} {l : List ℕ} (k : ℕ) → Chain n cells q i l → 1 ≤ times k l → cell cells k next ≢ null
      → 1 ≤ times (cell cells k next) l
  unfolding times
  next_in_lem k (ended e) h d = absurd (omega arith)
  next_in_lem k (linked {i = i} {l} b p c) h d =
      times_cases k i l h
      (λ e. (let z : cell cells k next ≡ cell cells i next = rw e refl in
      subst (λ (x : ℕ). 1 ≤ times x (i ∷ l)) (sym z)
      (omega (arith, times_rest (cell cells i next) i l, head_in c (λ y. d (z ∙ y))))))
      (λ y. omega (arith, times_rest (cell cells k next) i l, next_in_lem k c y d))

module _ {t : Live} (fit : Fit t) (one : T1 t) (chains : Chainable t) where
  abbrev n : ℕ
  n = slots_of t.names

  abbrev at : ℕ → ℕ → ℕ
  at i f = cell t.cells i f

  prev-used : {i : ℕ} → Used t i → i ≢ first_of t → Used t (at i prev)
  prev-used {i} h m =
      let d = chains.behind i h m in
      Slots.linked fit one (Slots.nexts fit one) (Slots.inside fit one (Slots.prevs fit one) h.inside d)
      (λ z. Slots.solid fit one h.inside (sym (chains.prevs i h d) ∙ z))

  next-used : {i : ℕ} → Used t i → at i next ≢ null → Used t (at i next)
  next-used {i} h m = record { inside = Slots.inside fit one (Slots.nexts fit one) h.inside m; busy = chains.busy i h m }

  first_used : {i d : ℕ} → Used t i → InSteps t.cells prev (first_of t) i d → Used t (first_of t)
  first_used h (stay e) = rw e at h
  first_used h (step m r) = first_used (prev-used h m) r

  record Built (q i : ℕ) : Type 0 where
    list : List ℕ
    chain : Chain n t.cells q i list
    busy : (k : ℕ) → 1 ≤ times k list → Used t k

  nothing : {q i : ℕ} → i ≡ null → Built q i
  unfolding times
  nothing e = record { list = []; chain = ended e; busy = λ k y. absurd (omega arith) }

  grow : {q i : ℕ} → Used t i → at i prev ≡ q → Built i (at i next) → Built q i
  grow {q} {i} h e b =
      record {
        list = i ∷ b.list;
        chain = linked h.inside e b.chain;
        busy = λ k y. times_cases k i b.list y (λ z. rw z h) (b.busy k);
      }

  rest : {q i : ℕ} → (i ≢ null → Built q i) → Built q i
  rest {q} {i} again = go (ℕ_discrete i null)
    where
      go : Dec (i ≡ null) → Built q i
      go (yes z) = nothing z
      go (no m) = again m

  build : (fuel d : ℕ) {q i : ℕ} → Used t i → at i prev ≡ q → Rank t.cells prev q d → n ≤ d + fuel → Built q i
  build zero d h e rk l =
      absurd (omega (
        arith,
        steps_most n t.cells prev null (small fit) (Slots.prevs fit one).named (Slots.no_cell fit one prev) h.inside
            (rank_steps (rank_up (Slots.solid fit one h.inside) e rk)),
      ))
  build (suc fuel) d {q} {i} h e rk l =
      grow h e
      (rest (λ m. build fuel (suc d) (next-used h m) (chains.nexts i h m) (rank_up (Slots.solid fit one h.inside) e rk) (omega arith)))

  module _ {l : List ℕ} (chain : Chain n t.cells null (first_of t) l) where
    found : {i d : ℕ} → Used t i → InSteps t.cells prev (first_of t) i d → 1 ≤ times i l
    found {i} h (stay e) = rw e (head_in chain (λ y. Slots.solid fit one h.inside (e ∙ y)))
    found {i} h (step m r) =
        let e = chains.prevs i h (chains.behind i h m) in
        rw e at (next_in_lem (at i prev) chain (found (prev-used h m) r) (λ z. Slots.solid fit one h.inside (sym e ∙ z)))

    all : ((k : ℕ) → 1 ≤ times k l → Used t k) → (i : ℕ) → i < n → used t.cells i ≡ times i l
    all busy i b = go (ℕ_discrete (at i state) free) (ℕ_discrete (times i l) 0)
      where
        go : Dec (at i state ≡ free) → Dec (times i l ≡ 0) → used t.cells i ≡ times i l
        go (yes e) (yes z) = omega (arith, Slots.free-zero t i e)
        go (yes e) (no z) = absurd ((busy i (omega arith)).busy e)
        go (no d) z =
            let h : Used t i = record { inside = b; busy = d } in
            omega (
              arith,
              Slots.used_one h,
              chain_once n t.cells (small fit) (first_of t) chain i,
              found h (leads_steps (chains.leads i h)).1,
            )

  chains_seven : T2 t → (chain : List ℕ) × T7 t chain
  unfolding times
  chains_seven two = go (ℕ_discrete (count_of t) 0)
    where
      go : Dec (count_of t ≡ 0) → (chain : List ℕ) × T7 t chain
      go (yes e) = ([], record { linked = ended (two.first.1 e); all = λ i l. Slots.none_used fit one e i l })
      go (no d) =
          let k = Slots.some_used fit one d in
          let r = first_used k.1 (leads_steps (chains.leads k.0 k.1)).1 in
          let b = build n 0 r (chains.firstless (first_of t) r refl) (home refl) (omega arith) in
          (b.list, record { linked = b.chain; all = all b.chain b.busy })

-- Where no slot shows T7 broken, it holds.
pub seven_complete : {t : Live} → Fit t → T1 t → T2 t → ((i : ℕ) → Shows7 t i → ⊥) → (chain : List ℕ) × T7 t chain
seven_complete {t} fit one two none = chains_seven fit one chains two
  where
    shown : (i : ℕ) → Used t i → Unchained t i → ⊥
    shown i h m = none i (record { used = h; unchained = m })

    nexts : (i : ℕ) → Used t i → cell t.cells i next ≢ null → cell t.cells (cell t.cells i next) prev ≡ i
    nexts i h m = sure (ℕ_discrete _ _) (λ d. shown i h (next_elsewhere m d))

    leads : (i : ℕ) → Used t i → LeadsTo t.cells prev (first_of t) i
    leads i h =
        sure (leads_dec (slots_of t.names) t.cells prev (first_of t) (small fit) (Slots.prevs fit one).named
        (Slots.no_cell fit one prev) i h.inside)
        (λ d. shown i h (off_first d))

    -- A slot that is not first and has no prev does not lead to first.
    lead_none : (i : ℕ) → Used t i → i ≢ first_of t → cell t.cells i prev ≡ null → LeadsTo t.cells prev (first_of t) i → ⊥
    lead_none i h m e (there z) = m z
    lead_none i h m e (one_more l) =
        let k : LeadsTo t.cells prev (first_of t) null = rw e at l in
        let s = leads_steps k in
        null_steps (slots_of t.names) t.cells prev (first_of t) (small fit) (Slots.prevs fit one).named
        (Slots.no_cell fit one prev) s.0
        (λ z. Slots.solid fit one (Slots.first_solid fit one two (Slots.used-count fit one h)) (sym z))
        s.1

    chains : Chainable t
    chains =
        record {
          firstless = λ i h e. sure (ℕ_discrete _ _) (λ d. shown i h (behind_one e d));
          behind = λ i h m e. lead_none i h m e (leads i h);
          prevs = λ i h m. sure (ℕ_discrete _ _) (λ d. shown i h (prev_elsewhere m d));
          busy = λ i h m e. Slots.solid fit one h.inside
              (sym (nexts i h m)
              ∙ (one.cleared (cell t.cells i next) (Slots.inside fit one (Slots.nexts fit one) h.inside m) e).prevs);
          nexts = nexts;
          leads = leads;
        }

-- In a chain each slot is where it belongs.
module _ (n : ℕ) (cells : List ℕ) (small : n ≤ null) where
  data ChainSeat (q x k : ℕ) : Type 0 where
    first : k ≡ x → cell cells k prev ≡ q → ChainSeat q x k
    after : cell cells k prev ≢ null → cell cells (cell cells k prev) next ≡ k → ChainSeat q x k

  record ChainSeated (q x k : ℕ) : Type 0 where
    seat : ChainSeat q x k
    back : cell cells k next ≢ null → cell cells (cell cells k next) prev ≡ k
    leads : LeadsTo cells prev x k

  head_prev : {q i : ℕ} {l : List ℕ} → Chain n cells q i l → i ≢ null → cell cells i prev ≡ q
  head_prev (ended e) d = absurd (d e)
  head_prev (linked b p c) d = p

  has_head : {q i : ℕ} {l : List ℕ} (k : ℕ) → Chain n cells q i l → 1 ≤ times k l → i ≢ null
  unfolding times
  has_head k (ended e) y = absurd (omega arith)
  has_head k (linked b p c) y = omega arith

  seated : {q i : ℕ} {l : List ℕ} (k : ℕ) → Chain n cells q i l → 1 ≤ times k l → ChainSeated q i k
  unfolding times
  seated k (ended e) y = absurd (omega arith)
  seated {q} k (linked {i = i} {l} b p c) y =
      times_cases k i l y
      (λ e. rw e (record { seat = first refl p; back = λ d. head_prev c d; leads = there refl }))
      (λ z. on_from (has_head k c z) (seated k c z))
    where
      on_from : cell cells i next ≢ null → ChainSeated i (cell cells i next) k → ChainSeated q i k
      on_from d h = record { seat = go h.seat; back = h.back; leads = leads_on (head_prev c d) h.leads }
        where
          go : ChainSeat i (cell cells i next) k → ChainSeat q i k
          go (first e f) = after (λ z. omega arith) (rw f (sym e))
          go (after m e) = after m e

-- Where T7 holds no slot shows it broken.
pub seven_none : {t : Live} → Fit t → {chain : List ℕ} → T7 t chain → (i : ℕ) → Shows7 t i → ⊥
seven_none {t} fit {chain} seven i h = go h.unchained
  where
    z : 1 ≤ times i chain
    z = omega (arith, seven.all i h.used.inside, Slots.used_one h.used)

    s : ChainSeated (slots_of t.names) t.cells (small fit) null (first_of t) i
    s = seated (slots_of t.names) t.cells (small fit) i seven.linked z

    go : Unchained t i → ⊥
    go (behind_one e d) =
        d (rw e (head_prev (slots_of t.names) t.cells (small fit) seven.linked
        (has_head (slots_of t.names) t.cells (small fit) i seven.linked z)))
    go (prev_elsewhere m d) = seats s.seat
      where
        seats : ChainSeat (slots_of t.names) t.cells (small fit) null (first_of t) i → ⊥
        seats (first y f) = m f
        seats (after k y) = d y
    go (next_elsewhere m d) = d (s.back m)
    go (off_first d) = d s.leads
