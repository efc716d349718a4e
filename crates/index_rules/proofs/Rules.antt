-- Each rule's test holds exactly where the rule does, given the rules before it: T1 and T2 word by word, T3 and T7 by counting
-- distinct slots, T4 to T6 by the laws of one tree.
-- Parts: fit words, and T1 slot by slot; T2; what used slots, walks and chains come to; the tree of T3 and the chain of T7, from their
-- tests; T3; T4 to T6 of its tree; T7.
use mathlib.Core.Path.{◌≡◌, refl, sym, ◌∙◌}
use mathlib.Core.Logic.{◌≢◌, ◌↔◌, ◌⊎◌, inl, inr}
use mathlib.Core.Bool.{Bool, true, false, false≢true}
use mathlib.Core.List.{List}
use Prim.Native.Nat.{ℕ, zero, suc, ◌-◌, ◌*◌, ◌<◌, ◌≤◌}
use native.Mathlib.Decide.{ℕ_discrete}
use native.Mathlib.Omega.{arith}
use lib.ListN.{length}
use lib.Dec.{eqb, leb}
use borrow.Author.Tests.{eqb-true, eqb-false, eq-eqb, ne_eqb, leb-true, le-leb}
use Rattle.slots.specs.Words.{null, pick, place, state, parent, left, right, prev, next, free, cell, name_of, hash_part, key_part, Colour}
use Rattle.slots.specs.Words.{black, red, code}
use Rattle.slots.specs.Answers.{Value, some, none}
use Rattle.tree_rules.specs.Check.{in_range, links_in, LinksNamed}
use Rattle.tree_rules.specs.Tree.{Tree, slots, times}
use Rattle.tree_rules.specs.Chain.{Chain, ended, linked, tally}
use Rattle.tree_rules.proofs.Walking.{named, ranged, links_named, links_in_lem}
use Rattle.tree_rules.proofs.Counting.{exactly, exactly_length, times_cases, times_head}
use Rattle.tree_rules.proofs.Reaching.{hangs_stand, hangs_inside, reached-rooted, rooted_most, rooted-reached}
use Rattle.tree_rules.proofs.Chaining.{chain_inside, chained_chain, chain_once, chain_most, chain_chained}
use Rattle.tree_rules.proofs.Rising.{rises_rising}
use Rattle.tree_rules.proofs.Colouring.{coloured-coloured}
use Rattle.tree_rules.proofs.Levelling.{level-level}
use Rattle.index_rules.specs.Live.{Live, Fit, root_of, first_of, count_of}
use Rattle.index_rules.specs.Sound.{used, Cleared, T1, T2, T3, T4, T5, T6, T7, is_cleared, slot_fine, slots_fine, rule1, agree, rule2}
use Rattle.index_rules.specs.Sound.{leaves, rule3, rule4, rule5, rule6, rule7}
use Rattle.index_rules.proofs.Fit.{both, half}
use Rattle.tree_rules.specs.Find.{slots_of}

-- The other way: both tests hold.
pub and : {a b : Bool} → a ≡ true → b ≡ true → pick a b false ≡ true
and {a} {b} e f = rw (e, f)

-- Fit words end long before slot null.
pub small : {t : Live} → Fit t → slots_of t.names ≤ null
small h = omega (arith, half h, h.most)

pub ends : {t : Live} → Fit t → length t.cells ≤ 7 * null
ends h = omega (arith, h.seven, h.most)

module _ (t : Live) where
  pub is-cleared : (i : ℕ) → is_cleared t i ≡ true → Cleared t i
  unfolding is_cleared
  is-cleared i e =
      let h1 = both (eqb (name_of t.names i hash_part) 0) _ e in
      let h2 = both (eqb (name_of t.names i key_part) 0) _ h1.1 in
      let h3 = both (eqb (cell t.cells i place) 0) _ h2.1 in
      let h4 = both (eqb (cell t.cells i parent) null) _ h3.1 in
      let h5 = both (eqb (cell t.cells i left) null) _ h4.1 in
      let h6 = both (eqb (cell t.cells i right) null) _ h5.1 in
      let h7 = both (eqb (cell t.cells i prev) null) _ h6.1 in
      record {
        hash = eqb-true _ _ h1.0;
        key = eqb-true _ _ h2.0;
        placed = eqb-true _ _ h3.0;
        parents = eqb-true _ _ h4.0;
        lefts = eqb-true _ _ h5.0;
        rights = eqb-true _ _ h6.0;
        prevs = eqb-true _ _ h7.0;
        nexts = eqb-true _ _ h7.1;
      }

  cleared-is : (i : ℕ) → Cleared t i → is_cleared t i ≡ true
  unfolding is_cleared
  cleared-is i h =
      and (eq-eqb _ _ h.hash) (and (eq-eqb _ _ h.key) (and (eq-eqb _ _ h.placed) (and (eq-eqb _ _ h.parents)
      (and (eq-eqb _ _ h.lefts) (and (eq-eqb _ _ h.rights) (and (eq-eqb _ _ h.prevs) (eq-eqb _ _ h.nexts)))))))

  -- What T1 says of one slot.
  pub record Fine (n i : ℕ) : Type 0 where
    pub links : LinksNamed n t.cells i
    pub states : cell t.cells i state ≤ 2
    pub cleared : cell t.cells i state ≡ free → Cleared t i

  pub fine : (n i : ℕ) → slot_fine n t i ≡ true → Fine n i
  unfolding slot_fine
  fine n i e = let h = both (links_in n t.cells i) _ e in go h.0 (eqb (cell t.cells i state) free) refl h.1
    where
      go : links_in n t.cells i ≡ true → (b : Bool) → eqb (cell t.cells i state) free ≡ b
          → pick b (is_cleared t i) (leb (cell t.cells i state) 2) ≡ true → Fine n i
      go l true z f =
          record {
            links = links_named n t.cells i l;
            states = omega (arith, eqb-true (cell t.cells i state) free z);
            cleared = λ y. is-cleared i f;
          }
      go l false z f = record { links = links_named n t.cells i l; states = leb-true _ _ f; cleared = λ y. absurd (eqb-false _ _ z y) }

  pub is-fine : (n i : ℕ) → Fine n i → slot_fine n t i ≡ true
  unfolding slot_fine
  is-fine n i h = and (links_in_lem n t.cells i h.links) (go (eqb (cell t.cells i state) free) refl)
    where
      go : (b : Bool) → eqb (cell t.cells i state) free ≡ b → pick b (is_cleared t i) (leb (cell t.cells i state) 2) ≡ true
      go true z = cleared-is i (h.cleared (eqb-true _ _ z))
      go false z = le-leb _ _ h.states

  pub all_fine : (k n : ℕ) → slots_fine k n t ≡ true → (i : ℕ) → i < k → Fine n i
  unfolding slots_fine
  all_fine zero n e i l = absurd (omega arith)
  all_fine (suc k) n e i l = let h = both (slot_fine n t k) _ e in go (ℕ_discrete i k) h.0 (λ d. all_fine k n h.1 i (omega arith))
    where
      go : Dec (i ≡ k) → slot_fine n t k ≡ true → (i ≢ k → Fine n i) → Fine n i
      go (yes z) f rest = rw z (fine n k f)
      go (no z) f rest = rest z

  pub fine_all : (k n : ℕ) → ((i : ℕ) → i < k → Fine n i) → slots_fine k n t ≡ true
  unfolding slots_fine
  fine_all zero n h = refl
  fine_all (suc k) n h = and (is-fine n k (h k (omega arith))) (fine_all k n (λ i l. h i (omega arith)))

  pub rule_one : (rule1 t ≡ true) ↔ T1 t
  unfolding rule1
  rule_one = (to, from)
    where
      to : rule1 t ≡ true → T1 t
      to e =
          let h1 = both (slots_fine (slots_of t.names) (slots_of t.names) t) _ e in
          let h2 = both (in_range (slots_of t.names) (root_of t)) _ h1.1 in
          let h3 = both (in_range (slots_of t.names) (first_of t)) _ h2.1 in
          record {
            links = λ i l. (all_fine (slots_of t.names) (slots_of t.names) h1.0 i l).links;
            root = named (slots_of t.names) (root_of t) h2.0;
            first = named (slots_of t.names) (first_of t) h3.0;
            states = λ i l. (all_fine (slots_of t.names) (slots_of t.names) h1.0 i l).states;
            cleared = λ i l z. (all_fine (slots_of t.names) (slots_of t.names) h1.0 i l).cleared z;
            count = eqb-true _ _ h3.1;
          }

      from : T1 t → rule1 t ≡ true
      from h =
          and (fine_all (slots_of t.names) (slots_of t.names)
          (λ i l. record { links = h.links i l; states = h.states i l; cleared = h.cleared i l }))
          (and (ranged (slots_of t.names) (root_of t) h.root)
          (and (ranged (slots_of t.names) (first_of t) h.first) (eq-eqb _ _ h.count)))

-- Two tests agree where one holds exactly if the other does.
agrees : (a b x y : ℕ) → agree (eqb a b) (eqb x y) ≡ true → (a ≡ b) ↔ (x ≡ y)
agrees a b x y e = go (eqb a b) (eqb x y) refl refl e
  where
    go : (p q : Bool) → eqb a b ≡ p → eqb x y ≡ q → agree p q ≡ true → (a ≡ b) ↔ (x ≡ y)
    go true true u v e = (λ z. eqb-true x y v, λ z. eqb-true a b u)
    go true false u v e = absurd (false≢true e)
    go false true u v e = absurd (false≢true e)
    go false false u v e = (λ z. absurd (eqb-false a b u z), λ z. absurd (eqb-false x y v z))

agreed : (a b x y : ℕ) → (a ≡ b) ↔ (x ≡ y) → agree (eqb a b) (eqb x y) ≡ true
agreed a b x y h = go (ℕ_discrete a b) (ℕ_discrete x y)
  where
    go : Dec (a ≡ b) → Dec (x ≡ y) → agree (eqb a b) (eqb x y) ≡ true
    go (yes u) (yes v) = rw (eq-eqb a b u, eq-eqb x y v)
    go (yes u) (no v) = absurd (v (h.0 u))
    go (no u) (yes v) = absurd (u (h.1 v))
    go (no u) (no v) = rw (ne_eqb a b u, ne_eqb x y v)

pub rule_two : (t : Live) → (rule2 t ≡ true) ↔ T2 t
unfolding rule2
rule_two t = (
  λ e. (let h = both (agree (eqb (root_of t) null) (eqb (count_of t) 0)) _ e in
      record { root = agrees _ _ _ _ h.0; first = agrees _ _ _ _ h.1 }),
  λ h. and (agreed _ _ _ _ h.root) (agreed _ _ _ _ h.first),
)

-- A slot with a colour is used.
pub used_hued : (cells : List ℕ) (k : ℕ) (c : Colour) → cell cells k state ≡ code c → used cells k ≡ 1
used_hued cells k black e = rw (ne_eqb (cell cells k state) free (omega arith))
used_hued cells k red e = rw (ne_eqb (cell cells k state) free (omega arith))

pub used-not : (cells : List ℕ) (k : ℕ) → cell cells k state ≢ free → used cells k ≡ 1
used-not cells k d = rw (ne_eqb (cell cells k state) free d)

-- What a walk that leaves all but m visits says.
pub left_of_lem : (n m : ℕ) (v : Value) → leaves n m v ≡ true → (rest : ℕ) × (v ≡ some rest) × (n - rest ≡ m)
left_of_lem n m (some rest) e = (rest, refl, eqb-true _ _ e)
left_of_lem n m none e = absurd (false≢true e)

pub all_but : (n l m : ℕ) → l ≤ n → l ≡ m → n - (n - l) ≡ m
all_but n l m h e = omega arith

-- In a chain only the first slot has no slot before it.
chain_prev : {n : ℕ} {cells : List ℕ} {q i k : ℕ} {l : List ℕ} → Chain n cells q i l → 1 ≤ times k l
    → ((cell cells k prev ≡ q) × (k ≡ i)) ⊎ (cell cells k prev < n)
unfolding times
chain_prev (ended e) z = absurd (omega arith)
chain_prev {n} {cells} {q} {i} {k} (linked {l = l} w p c) z = times_cases k i l z (λ e. inl (rw e p, e)) (λ y. go (chain_prev c y))
  where
    go : ((cell cells k prev ≡ i) × (k ≡ cell cells i next)) ⊎ (cell cells k prev < n)
        → ((cell cells k prev ≡ q) × (k ≡ i)) ⊎ (cell cells k prev < n)
    go (inl h) = inr (omega (arith, h.0))
    go (inr h) = inr h

-- In a chain that has a member there is a first, and it is one.
first_in_lem : {n i : ℕ} {cells chain : List ℕ} → Chain n cells null i chain → i ≢ null → 1 ≤ times i chain
first_in_lem (ended e) d = absurd (d e)
first_in_lem (linked {i = i} {l = l} w p c) d = omega (arith, times_head i l)

has_first : {n i : ℕ} {cells chain : List ℕ} (k : ℕ) → n ≤ null → Chain n cells null i chain → 1 ≤ times k chain → i ≢ null
unfolding times
has_first k s (ended e) z = absurd (omega arith)
has_first k s (linked w p c) z = omega arith

abbrev first_test : Live → Bool
first_test t = pick (eqb (first_of t) null) true (pick (eqb (cell t.cells (first_of t) state) free) false true)

module _ (t : Live) where
  first_used : first_test t ≡ true → first_of t ≢ null → cell t.cells (first_of t) state ≢ free
  first_used e d z = false≢true (rw (ne_eqb (first_of t) null d, eq-eqb (cell t.cells (first_of t) state) free z) at e)

  used_first : ((first_of t ≢ null) → cell t.cells (first_of t) state ≢ free) → first_test t ≡ true
  used_first h = go (ℕ_discrete (first_of t) null)
    where
      go : Dec (first_of t ≡ null) → first_test t ≡ true
      go (yes e) = rw (eq-eqb (first_of t) null e)
      go (no d) = rw (ne_eqb (first_of t) null d, ne_eqb (cell t.cells (first_of t) state) free (h d))

-- What the tests of T3 and T7 stand on: T1 but for its links.
pub record Settled (t : Live) : Type 0 where
  pub cleared : (i : ℕ) → i < slots_of t.names → cell t.cells i state ≡ free → Cleared t i
  pub count : count_of t ≡ tally (slots_of t.names) (used t.cells)

settled : {t : Live} → T1 t → Settled t
settled h = record { cleared = h.cleared; count = h.count }

module _ {t : Live} (fit : Fit t) (s : Settled t) where
  pub tree_of : rule3 t ≡ true → (tree : Tree) × T3 t tree
  unfolding rule3
  tree_of e =
      let h = left_of_lem (slots_of t.names) (count_of t) _ e in
      let r = reached-rooted (slots_of t.names) t.cells (small fit) (root_of t) h.0 h.1 in
      let tree = r.0 in (
        tree,
        record {
          rooted = r.1;
          all =
              exactly (slots_of t.names) (slots tree) (λ k z. hangs_inside (slots_of t.names) t.cells r.1.hangs z)
              (used t.cells) r.1.once
              (λ k z. (let s = hangs_stand (slots_of t.names) t.cells r.1.hangs z in
              used_hued t.cells k s.hue s.words.hued))
              (omega (arith, r.2, h.2, s.count));
        },
      )

  -- A free slot of the chain would be its first.
  chain_used : {chain : List ℕ} → Chain (slots_of t.names) t.cells null (first_of t) chain → cell t.cells (first_of t) state ≢ free
      → (k : ℕ) → 1 ≤ times k chain → used t.cells k ≡ 1
  chain_used c d k z = used-not t.cells k (λ e. go e (chain_prev c z))
    where
      go : cell t.cells k state ≡ free
          → ((cell t.cells k prev ≡ null) × (k ≡ first_of t)) ⊎ (cell t.cells k prev < slots_of t.names) → ⊥
      go e (inl h) = d (rw h.1 at e)
      go e (inr h) = omega (arith, small fit, (s.cleared k (chain_inside (slots_of t.names) t.cells c z) e).prevs)

  pub chain_of_lem : rule7 t ≡ true → (chain : List ℕ) × T7 t chain
  unfolding rule7
  chain_of_lem e =
      let f = both (first_test t) _ e in
      let h = left_of_lem (slots_of t.names) (count_of t) _ f.1 in
      let r = chained_chain (slots_of t.names) t.cells (small fit) (first_of t) h.0 h.1 in
      let chain = r.0 in (
        chain,
        record {
          linked = r.1;
          all =
              exactly (slots_of t.names) chain (λ k z. chain_inside (slots_of t.names) t.cells r.1 z) (used t.cells)
              (chain_once (slots_of t.names) t.cells (small fit) (first_of t) r.1)
              (λ k z. chain_used r.1 (first_used t f.0 (has_first k (small fit) r.1 z)) k z)
              (omega (arith, r.2, h.2, s.count));
        },
      )

module _ {t : Live} (fit : Fit t) (one : T1 t) where
  pub rule_three : (rule3 t ≡ true) ↔ ((tree : Tree) × T3 t tree)
  unfolding rule3
  rule_three = (tree_of fit (settled one), λ h. from h.0 h.1)
    where
      from : (tree : Tree) → T3 t tree → rule3 t ≡ true
      from tree h =
          let m = rooted_most (slots_of t.names) t.cells (small fit) (root_of t) h.rooted in
          let c =
          exactly_length (slots_of t.names) (slots tree) (λ k z. hangs_inside (slots_of t.names) t.cells h.rooted.hangs z)
          (used t.cells) h.all in
          rw (rooted-reached (slots_of t.names) t.cells (small fit) (root_of t) h.rooted)
          (eq-eqb _ _ (all_but (slots_of t.names) (length (slots tree)) (count_of t) m (c ∙ sym one.count)))

  module _ {tree : Tree} (three : T3 t tree) where
    pub rule_four : (rule4 t ≡ true) ↔ T4 t tree
    unfolding rule4
    rule_four = rises_rising t.names t.cells (small fit) (root_of t) three.rooted

    pub rule_five : (rule5 t ≡ true) ↔ T5 tree
    unfolding rule5
    rule_five = coloured-coloured (slots_of t.names) t.cells (small fit) (ends fit) (root_of t) three.rooted

    pub rule_six : (rule6 t ≡ true) ↔ T6 tree
    unfolding rule6
    rule_six = level-level (slots_of t.names) t.cells (small fit) (root_of t) three.rooted

  pub rule_seven : (rule7 t ≡ true) ↔ ((chain : List ℕ) × T7 t chain)
  unfolding rule7
  rule_seven = (chain_of_lem fit (settled one), λ h. from h.0 h.1)
    where
      from : (chain : List ℕ) → T7 t chain → rule7 t ≡ true
      from chain h =
          let m = chain_most (slots_of t.names) t.cells (small fit) (first_of t) h.linked in
          let c =
          exactly_length (slots_of t.names) chain (λ k z. chain_inside (slots_of t.names) t.cells h.linked z)
          (used t.cells) h.all in
          and (used_first t (λ d z. unused d z))
          (rw (chain_chained (slots_of t.names) t.cells (small fit) (first_of t) h.linked)
          (eq-eqb _ _ (all_but (slots_of t.names) (length chain) (count_of t) m (c ∙ sym one.count))))
        where
          unused : first_of t ≢ null → cell t.cells (first_of t) state ≡ free → ⊥
          unused d z =
              let y = first_in_lem h.linked d in
              let u : used t.cells (first_of t) ≡ 0 = rw (eq-eqb (cell t.cells (first_of t) state) free z) in
              omega (arith, y, u, h.all (first_of t) (chain_inside (slots_of t.names) t.cells h.linked y))
