-- Every link of a used slot is followed: up and down by the walk of the tree, along by the chain, and both visit all used slots. So where
-- both pass, T1's links hold, and no pass over the slots has to ask them.
use mathlib.Core.Path.{◌≡◌, refl}
use mathlib.Core.Logic.{inl, inr}
use mathlib.Core.List.{List}
use Prim.Native.Nat.{ℕ, ◌<◌, ◌≤◌}
use native.Mathlib.Decide.{ℕ_discrete}
use native.Mathlib.Omega.{arith}
use Rattle.slots.specs.Words.{state, parent, left, right, prev, next, free, cell}
use Rattle.tree_rules.specs.Check.{Named, LinksNamed}
use Rattle.tree_rules.specs.Tree.{Tree, top, slots, times, Hangs}
use Rattle.tree_rules.specs.Chain.{Chain, ended, linked}
use Rattle.tree_rules.specs.Find.{slots_of}
use Rattle.tree_rules.proofs.Counting.{times_cases, times-around}
use Rattle.index_rules.specs.Live.{Live}
use Rattle.index_rules.specs.Sound.{T3, T7}
use Rattle.index_rules.proofs.Rules.{Settled, used-not}

module _ (n : ℕ) (cells : List ℕ) where
  top-named : {q : ℕ} {t : Tree} → Hangs n cells q t → Named n (top t)
  top-named Hangs.none = inl refl
  top-named (Hangs.some w a b) = inr w.inside

  -- Of a slot of the tree: the link up, and the two down.
  record Hung (k : ℕ) : Type 0 where
    parents : Named n (cell cells k parent)
    lefts : Named n (cell cells k left)
    rights : Named n (cell cells k right)

  hung : {q k : ℕ} {t : Tree} → Named n q → Hangs n cells q t → 1 ≤ times k (slots t) → Hung k
  unfolding slots times
  hung up Hangs.none h = absurd (omega arith)
  hung {k = k} up (Hangs.some {l = l} {i} {r} w a b) h =
      times-around k (slots l) i (slots r) h
      (λ y. hung (inr w.inside) a y)
      (λ e. rw e (record { parents = rw w.above up; lefts = rw w.lefts (top-named a); rights = rw w.rights (top-named b) }))
      (λ y. hung (inr w.inside) b y)

  link_named : {q i : ℕ} {l : List ℕ} → Chain n cells q i l → Named n i
  link_named (ended e) = inl e
  link_named (linked b p c) = inr b

  -- Of a slot of the chain: the link back, and the one on.
  record Strung (k : ℕ) : Type 0 where
    prevs : Named n (cell cells k prev)
    nexts : Named n (cell cells k next)

  strung : {q i k : ℕ} {l : List ℕ} → Named n q → Chain n cells q i l → 1 ≤ times k l → Strung k
  unfolding times
  strung back (ended e) h = absurd (omega arith)
  strung {k = k} back (linked {i = i} {l} b p c) h =
      times_cases k i l h (λ e. rw e (record { prevs = rw p back; nexts = link_named c })) (λ y. strung (inr b) c y)

module _ {t : Live} {tree : Tree} {chain : List ℕ} (s : Settled t) (three : T3 t tree) (seven : T7 t chain) where
  pub links_followed : (i : ℕ) → i < slots_of t.names → LinksNamed (slots_of t.names) t.cells i
  links_followed i l = go (ℕ_discrete (cell t.cells i state) free)
    where
      go : Dec (cell t.cells i state ≡ free) → LinksNamed (slots_of t.names) t.cells i
      go (yes e) =
          let h = s.cleared i l e in
          record {
            parents = inl h.parents;
            lefts = inl h.lefts;
            rights = inl h.rights;
            prevs = inl h.prevs;
            nexts = inl h.nexts;
          }
      go (no d) =
          let one = used-not t.cells i d in
          let within : 1 ≤ times i (slots tree) = omega (arith, one, three.all i l) in
          let along : 1 ≤ times i chain = omega (arith, one, seven.all i l) in
          let h = hung (slots_of t.names) t.cells (inl refl) three.rooted.hangs within in
          let g = strung (slots_of t.names) t.cells (inl refl) seven.linked along in
          record { parents = h.parents; lefts = h.lefts; rights = h.rights; prevs = g.prevs; nexts = g.nexts }
