-- A tree's check passes where the words hold a tree from the header's root that obeys T3 to T6, with the header's count, a chain of as
-- many slots, and each slot in the bin that its hash names; it takes a visit a slot.
use mathlib.Core.Path.{◌≡◌, refl, sym, ◌∙◌}
use mathlib.Core.Logic.{◌≢◌}
use mathlib.Core.Bool.{Bool, true, false, false≢true}
use mathlib.Core.List.{List, ◌∷◌}
use Prim.Native.Nat.{ℕ, zero, suc, ◌+◌, ◌-◌, ◌≤◌}
use native.Mathlib.Decide.{ℕ_discrete}
use native.Mathlib.Omega.{arith}
use lib.ListN.{length}
use lib.Dec.{eqb}
use borrow.Author.Tests.{eqb-true, eqb-false, eq-eqb, ne_eqb}
use Rattle.slots.specs.Words.{null, pick, state, left, right, free, cell, name_of, hash_part}
use Rattle.slots.specs.Answers.{Value, none, some}
use Rattle.tree_rules.specs.Tree.{Tree, top, slots, times, Hangs, Rooted, Rising, Coloured, Level}
use Rattle.tree_rules.specs.Rules.{then, obeyed}
use Rattle.tree_rules.specs.Chain.{Chain, chained}
use Rattle.tree_rules.proofs.Counting.{times_append, times_head, times_rest, times_cases, times-around}
use Rattle.tree_rules.proofs.Reaching.{refuted, length_node, reached_tree, tree_reached}
use Rattle.tree_rules.proofs.Chaining.{chained_chain, chain_chained, chain_most}
use Rattle.tree_rules.proofs.Sizing.{Obeyed, obeyed_each, each_obeyed}
use Rattle.tree_rules.proofs.Rising.{rises_rising}
use Rattle.tree_rules.proofs.Colouring.{coloured-coloured}
use Rattle.tree_rules.proofs.Levelling.{level-level}
use Rattle.index_rules.specs.Sound.{leaves}
use Rattle.index_rules.proofs.Fit.{both}
use Rattle.index_rules.proofs.Rules.{and, left_of_lem, all_but}
use Rattle.set_rules.specs.Words.{Set, Fit, root_at, first_at, count_at, bini}
use Rattle.set_rules.specs.Accepting.{is_home, is_own, chain_own, tree_home, tree_good, tree_fine}
use Rattle.set_rules.proofs.Fit.{small, ends}
use Rattle.set_rules.proofs.Lists.{Home}
use Rattle.tree_rules.specs.Find.{slots_of}

-- These slots are not free, and their hashes name bin i of a table of len bins.
abbrev pub Owned : Set → ℕ → ℕ → List ℕ → Type 0
Owned s len i l = (x : ℕ) → 1 ≤ times x l → (cell s.cells x state ≢ free) × (bini len (name_of s.names x hash_part) ≡ i)

-- The tree t of header h, as bin i of a table of len bins may hold it.
pub record Grown (s : Set) (len i h : ℕ) (t : Tree) : Type 0 where
  pub root : root_at s h ≢ null
  pub first : first_at s h ≢ null
  pub rooted : Rooted (slots_of s.names) s.cells (root_at s h) t
  pub rising : Rising s.names (slots t)
  pub hues : Coloured t
  pub even : Level t
  pub count : length (slots t) ≡ count_at s h
  pub chain : (l : List ℕ) × Chain (slots_of s.names) s.cells null (first_at s h) l × (length l ≡ count_at s h) × Owned s len i l
  pub home : Home s.names len i (slots t)

-- A test that must fail, then others.
unless : (a b : Bool) → pick a false b ≡ true → (a ≡ false) × (b ≡ true)
unless true b e = absurd (false≢true e)
unless false b e = (refl, e)

besides : {a b : Bool} → a ≡ false → b ≡ true → pick a false b ≡ true
besides {a} {b} e f = rw (e, f)

module _ {s : Set} (fit : Fit s) (len i : ℕ) where
  none_left : (x : ℕ) → tree_home zero s.names s.cells len i x ≡ true → x ≡ null
  unfolding tree_home
  none_left x e = eqb-true x null e

  -- The tree's test asks each slot for its home.
  home_asked : (depth x : ℕ) → x ≢ null → tree_home (suc depth) s.names s.cells len i x ≡ true
      → bini len (name_of s.names x hash_part) ≡ i
  unfolding tree_home is_home
  home_asked depth x d e = go (ℕ_discrete (bini len (name_of s.names x hash_part)) i)
    where
      go : Dec (bini len (name_of s.names x hash_part) ≡ i) → bini len (name_of s.names x hash_part) ≡ i
      go (yes h) = h
      go (no n) = absurd (false≢true (simp (ne_eqb x null d, ne_eqb _ _ n) at e))

  one_down : (depth x : ℕ) → x ≢ null → tree_home (suc depth) s.names s.cells len i x ≡ true
      → (bini len (name_of s.names x hash_part) ≡ i) × (tree_home depth s.names s.cells len i (cell s.cells x left) ≡ true)
      × (tree_home depth s.names s.cells len i (cell s.cells x right) ≡ true)
  unfolding tree_home is_home
  one_down depth x d e =
      let a = both (eqb (bini len (name_of s.names x hash_part)) i) _ (rw (ne_eqb x null d) at e) in
      let b = both (tree_home depth s.names s.cells len i (cell s.cells x left)) _ a.1 in
      (home_asked depth x d e, b.0, b.1)

  home_tree : (depth : ℕ) {q : ℕ} {t : Tree} → Hangs (slots_of s.names) s.cells q t
      → tree_home depth s.names s.cells len i (top t) ≡ true → Home s.names len i (slots t)
  unfolding slots times
  home_tree depth Hangs.none e = λ x z. absurd (omega arith)
  home_tree zero (Hangs.some {i = x} w a b) e = absurd (omega (arith, small fit, w.inside, none_left x e))
  home_tree (suc depth) (Hangs.some {l = l} {i = x} {r} w a b) e =
      let h = one_down depth x (omega (arith, small fit, w.inside)) e in
      let f = home_tree depth a (rw w.lefts at h.1) in
      let g = home_tree depth b (rw w.rights at h.2) in
      λ y z. times-around y (slots l) x (slots r) z (f y) (λ k. rw k h.0) (g y)

  one_up : (depth x : ℕ) → x ≢ null → bini len (name_of s.names x hash_part) ≡ i
      → tree_home depth s.names s.cells len i (cell s.cells x left) ≡ true
      → tree_home depth s.names s.cells len i (cell s.cells x right) ≡ true
      → tree_home (suc depth) s.names s.cells len i x ≡ true
  unfolding tree_home is_home
  one_up depth x d h a b = rw (ne_eqb x null d) (and (eq-eqb _ _ h) (and a b))

  tree_home_lem : (depth : ℕ) {q : ℕ} {t : Tree} → Hangs (slots_of s.names) s.cells q t → length (slots t) ≤ depth
      → Home s.names len i (slots t)
      → tree_home depth s.names s.cells len i (top t) ≡ true
  unfolding tree_home slots
  tree_home_lem zero Hangs.none b h = refl
  tree_home_lem (suc depth) Hangs.none b h = refl
  tree_home_lem zero (Hangs.some {c = c} {l} {i = x} {r} w a b) m h = absurd (omega (arith, length_node c l x r))
  tree_home_lem (suc depth) (Hangs.some {c = c} {l} {i = x} {r} w a b) m h =
      let f = tree_home_lem depth a (omega (arith, length_node c l x r))
      (λ y z. h y (omega (arith, times_append y (slots l) (x ∷ slots r)))) in
      let g =
      tree_home_lem depth b (omega (arith, length_node c l x r))
      (λ y z. h y (omega (arith, times_append y (slots l) (x ∷ slots r), times_rest y x (slots r)))) in
      one_up depth x (omega (arith, small fit, w.inside))
      (h x (omega (arith, times_append x (slots l) (x ∷ slots r), times_head x (slots r))))
      (rw w.lefts f) (rw w.rights g)

  -- A slot that passes is not free and at home, by what each of the two tests finds.
  is_own_lem : (x : ℕ) → is_own s.names s.cells len i x ≡ true
      → (cell s.cells x state ≢ free) × (bini len (name_of s.names x hash_part) ≡ i)
  unfolding is_own is_home
  is_own_lem x e = go (ℕ_discrete (cell s.cells x state) free) (ℕ_discrete (bini len (name_of s.names x hash_part)) i)
    where
      go : Dec (cell s.cells x state ≡ free) → Dec (bini len (name_of s.names x hash_part) ≡ i)
          → (cell s.cells x state ≢ free) × (bini len (name_of s.names x hash_part) ≡ i)
      go (no d) (yes h) = (d, h)
      go (yes f) (yes h) = absurd (false≢true (simp (eq-eqb _ _ f, eq-eqb _ _ h) at e))
      go (yes f) (no n) = absurd (false≢true (simp (eq-eqb _ _ f, ne_eqb _ _ n) at e))
      go (no d) (no n) = absurd (false≢true (simp (ne_eqb _ _ d, ne_eqb _ _ n) at e))

  own_is : (x : ℕ) → (cell s.cells x state ≢ free) × (bini len (name_of s.names x hash_part) ≡ i)
      → is_own s.names s.cells len i x ≡ true
  unfolding is_own is_home
  own_is x h = simp (ne_eqb _ _ h.0, eq-eqb _ _ h.1)

  own_chain : (v : ℕ) {q x : ℕ} {l : List ℕ} → Chain (slots_of s.names) s.cells q x l → chain_own v s.names s.cells len i x ≡ true
      → Owned s len i l
  unfolding chain_own times
  own_chain v (Chain.ended z) e = λ y k. absurd (omega arith)
  own_chain zero (Chain.linked {i = x} b p t) e = absurd (omega (arith, small fit, eqb-true x null e))
  own_chain (suc v) (Chain.linked {i = x} {l} b p t) e =
      let a = both (is_own s.names s.cells len i x) _ (rw (ne_eqb x null (omega (arith, small fit))) at e) in
      let h = is_own_lem x a.0 in
      let r = own_chain v t a.1 in
      λ y k. times_cases y x l k (λ z. rw z h) (r y)

  chain_own_lem : (v : ℕ) {q x : ℕ} {l : List ℕ} → Chain (slots_of s.names) s.cells q x l → length l ≤ v → Owned s len i l
      → chain_own v s.names s.cells len i x ≡ true
  unfolding chain_own
  chain_own_lem zero (Chain.ended {i = x} z) b o = eq-eqb x null z
  chain_own_lem (suc v) (Chain.ended {i = x} z) b o = rw (eq-eqb x null z)
  chain_own_lem zero (Chain.linked w p t) b o = absurd (omega arith)
  chain_own_lem (suc v) (Chain.linked {i = x} {l} w p t) b o =
      rw (ne_eqb x null (omega (arith, small fit)), own_is x (o x (omega (arith, times_head x l))))
      (chain_own_lem v t (omega arith) (λ y k. o y (omega (arith, times_rest y x l))))

  module _ (h : ℕ) where
    good_grown : (t : Tree) (m : ℕ) → Rooted (slots_of s.names) s.cells (root_at s h) t → length (slots t) ≡ m → {v rest : ℕ}
        → Obeyed s.names s.cells (root_at s h) v rest
        → tree_good s.names s.cells len i (root_at s h) (first_at s h) (count_at s h) m ≡ true → Grown s len i h t
    unfolding tree_good
    good_grown t m r l o e =
        let a = unless (eqb (root_at s h) null) _ e in
        let b = unless (eqb (first_at s h) null) _ a.1 in
        let c = both (eqb m (count_at s h)) _ b.1 in
        let p =
        both (leaves (slots_of s.names) (count_at s h) (chained (slots_of s.names) (slots_of s.names) s.cells null (first_at s h))) _
        c.1 in
        let u = left_of_lem (slots_of s.names) (count_at s h) _ p.0 in
        let k = chained_chain (slots_of s.names) s.cells (small fit) (first_at s h) u.0 u.1 in
        let w = both (chain_own (slots_of s.names) s.names s.cells len i (first_at s h)) _ p.1 in
        record {
          root = eqb-false _ _ a.0;
          first = eqb-false _ _ b.0;
          rooted = r;
          rising = (rises_rising s.names s.cells (small fit) (root_at s h) r).0 o.rise;
          hues = (coloured-coloured (slots_of s.names) s.cells (small fit) (ends fit) (root_at s h) r).0 o.hues;
          even = (level-level (slots_of s.names) s.cells (small fit) (root_at s h) r).0 o.even;
          count = l ∙ eqb-true _ _ c.0;
          chain = (k.0, k.1, omega (arith, k.2, u.2), own_chain (slots_of s.names) k.1 w.0);
          home = home_tree (slots_of s.names) r.hangs (rw r.from at w.1);
        }

    grown_good : (t : Tree) (m : ℕ) → length (slots t) ≡ m → length (slots t) ≤ slots_of s.names → Grown s len i h t
        → tree_good s.names s.cells len i (root_at s h) (first_at s h) (count_at s h) m ≡ true
    unfolding tree_good
    grown_good t m l b g =
        let most = chain_most (slots_of s.names) s.cells (small fit) (first_at s h) g.chain.1 in
        let c : leaves (slots_of s.names) (count_at s h) (chained (slots_of s.names) (slots_of s.names) s.cells null (first_at s h))
        ≡ true =
        rw (chain_chained (slots_of s.names) s.cells (small fit) (first_at s h) g.chain.1)
        (eq-eqb _ _ (all_but (slots_of s.names) (length g.chain.0) (count_at s h) most g.chain.2))
        in
        let o = chain_own_lem (slots_of s.names) g.chain.1 most g.chain.3 in
        let k : tree_home (slots_of s.names) s.names s.cells len i (root_at s h) ≡ true =
        rw g.rooted.from (tree_home_lem (slots_of s.names) g.rooted.hangs b g.home) in
        besides (ne_eqb _ _ g.root) (besides (ne_eqb _ _ g.first) (and (eq-eqb _ _ (sym l ∙ g.count)) (and c (and o k))))

    pub fine-grown : (v rest : ℕ) → tree_fine s.names s.cells len i (root_at s h) (first_at s h) (count_at s h) v ≡ some rest
        → (t : Tree) × Grown s len i h t × (length (slots t) + rest ≡ v)
    unfolding tree_fine
    fine-grown v rest e = go (obeyed s.names s.cells (root_at s h) v) refl e
      where
        pass : (m : ℕ) → Obeyed s.names s.cells (root_at s h) v m → (b : Bool)
            → tree_good s.names s.cells len i (root_at s h) (first_at s h) (count_at s h) (v - m) ≡ b
            → pick b (some m) none ≡ some rest → (t : Tree) × Grown s len i h t × (length (slots t) + rest ≡ v)
        pass m o false g e = refuted e
        pass m o true g e =
            let k = reached_tree (slots_of s.names) s.cells (small fit) (root_at s h) v m o.reaches in
            let z : m ≡ rest = cc in
            (k.0, good_grown k.0 (v - m) k.1 (omega (arith, k.2)) o g, omega (arith, k.2))

        go : (o : Value) → obeyed s.names s.cells (root_at s h) v ≡ o
            → then o
            (λ rest. pick (tree_good s.names s.cells len i (root_at s h) (first_at s h) (count_at s h) (v - rest)) (some rest) none)
            ≡ some rest
            → (t : Tree) × Grown s len i h t × (length (slots t) + rest ≡ v)
        go none r e = refuted e
        go (some m) r e =
            pass m (obeyed_each s.names s.cells (root_at s h) v m r)
            (tree_good s.names s.cells len i (root_at s h) (first_at s h) (count_at s h) (v - m)) refl e

    grown-obeyed : (v : ℕ) (t : Tree) → Grown s len i h t → length (slots t) ≤ v
        → Obeyed s.names s.cells (root_at s h) v (v - length (slots t))
    grown-obeyed v t g b =
        record {
          reaches = tree_reached (slots_of s.names) s.cells (small fit) (root_at s h) v g.rooted b;
          rise = (rises_rising s.names s.cells (small fit) (root_at s h) g.rooted).1 g.rising;
          hues = (coloured-coloured (slots_of s.names) s.cells (small fit) (ends fit) (root_at s h) g.rooted).1 g.hues;
          even = (level-level (slots_of s.names) s.cells (small fit) (root_at s h) g.rooted).1 g.even;
        }

    pub grown-fine : (v : ℕ) (t : Tree) → Grown s len i h t → length (slots t) ≤ v → length (slots t) ≤ slots_of s.names
        → tree_fine s.names s.cells len i (root_at s h) (first_at s h) (count_at s h) v ≡ some (v - length (slots t))
    unfolding tree_fine
    grown-fine v t g b c =
        rw (
          each_obeyed s.names s.cells (root_at s h) v (v - length (slots t)) (grown-obeyed v t g b),
          grown_good t (v - (v - length (slots t))) (omega arith) c g,
        )
