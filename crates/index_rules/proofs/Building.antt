-- A tree that is built is sound: a slot of the tree has its words from the tree and the chain, any other is cleared.
use mathlib.Core.Path.{◌≡◌, refl, sym, ◌∙◌}
use mathlib.Core.Logic.{◌≢◌, ◌↔◌, inl, inr}
use mathlib.Core.List.{List}
use Prim.Native.Nat.{ℕ, ◌<◌, ◌≤◌}
use native.Mathlib.Decide.{ℕ_discrete}
use native.Mathlib.Omega.{arith}
use lib.ListN.{length}
use borrow.Author.Tests.{eq-eqb}
use Rattle.slots.specs.Words.{null, state, parent, left, right, prev, next, free, cell, Colour, black, red, code}
use Rattle.tree_rules.specs.Check.{Named, LinksNamed}
use Rattle.tree_rules.specs.Tree.{Tree, leaf, node, top, slots, times, Hangs}
use Rattle.tree_rules.specs.Tree.Hangs.{none as hangsNone, some as hangsSome}
use Rattle.tree_rules.specs.Chain.{Chain, ended, linked}
use Rattle.tree_rules.proofs.Counting.{times_cases, times-around, exactly_length}
use Rattle.tree_rules.proofs.Reaching.{length_node, hangs_stand, hangs_inside}
use Rattle.tree_rules.proofs.Chaining.{chain_inside}
use Rattle.index_rules.specs.Live.{Live, Fit, root_of, first_of, count_of}
use Rattle.index_rules.specs.Sound.{Sound, used, Cleared}
use Rattle.index_rules.proofs.Built.{Built}
use Rattle.index_rules.proofs.Rules.{small, used_hued}
use Rattle.tree_rules.specs.Find.{slots_of}

-- The links of a slot of a tree name slots.
pub record TreeLinks (n : ℕ) (cells : List ℕ) (k : ℕ) : Type 0 where
  pub parents : Named n (cell cells k parent)
  pub lefts : Named n (cell cells k left)
  pub rights : Named n (cell cells k right)

top-named : {n q : ℕ} {cells : List ℕ} {t : Tree} → Hangs n cells q t → Named n (top t)
top-named hangsNone = inl refl
top-named (hangsSome c a b) = inr c.inside

pub hangs_links : {n : ℕ} {cells : List ℕ} {q : ℕ} {t : Tree} (k : ℕ) → Named n q → Hangs n cells q t → 1 ≤ times k (slots t)
    → TreeLinks n cells k
unfolding slots times
hangs_links k m hangsNone z = absurd (omega arith)
hangs_links {n} {cells} {q} k m (hangsSome {l = l} {i} {r} c a b) z =
    times-around k (slots l) i (slots r) z
    (λ y. hangs_links k (inr c.inside) a y)
    (λ e. rw e (record { parents = rw c.above m; lefts = rw c.lefts (top-named a); rights = rw c.rights (top-named b) }))
    (λ y. hangs_links k (inr c.inside) b y)

chain_head : {n q i : ℕ} {cells l : List ℕ} → Chain n cells q i l → Named n i
chain_head (ended e) = inl e
chain_head (linked w p c) = inr w

pub chain_links : {n : ℕ} {cells : List ℕ} {q i : ℕ} {l : List ℕ} (k : ℕ) → Named n q → Chain n cells q i l → 1 ≤ times k l
    → Named n (cell cells k prev) × Named n (cell cells k next)
unfolding times
chain_links k m (ended e) z = absurd (omega arith)
chain_links {n} {cells = cells} k m (linked {i = i} {l = l} w p c) z =
    times_cases k i l z (λ e. rw e (rw p m, chain_head c)) (λ y. chain_links k (inr w) c y)

hue_most : (c : Colour) → code c ≤ 2
hue_most black = omega arith
hue_most red = omega arith

hue_used : (c : Colour) → code c ≢ free
hue_used black = omega arith
hue_used red = omega arith

module _ {t : Live} (fit : Fit t) (b : Built t) where
  member : (k : ℕ) → k < slots_of t.names → (P : Type 0) → (times k (slots b.tree) ≡ 0 → P) → (1 ≤ times k (slots b.tree) → P) → P
  member k l P none some = go (ℕ_discrete (times k (slots b.tree)) 0)
    where
      go : Dec (times k (slots b.tree) ≡ 0) → P
      go (yes e) = none e
      go (no d) = some (omega arith)

  -- A slot is used exactly where it stands in the tree.
  uses : (k : ℕ) → k < slots_of t.names → used t.cells k ≡ times k (slots b.tree)
  uses k l =
      member k l (used t.cells k ≡ times k (slots b.tree))
      (λ e. (let z : used t.cells k ≡ 0 = rw (eq-eqb (cell t.cells k state) free (b.others k l e).0) in omega arith))
      (λ y. (let s = hangs_stand (slots_of t.names) t.cells b.rooted.hangs y in
      omega (arith, used_hued t.cells k s.hue s.words.hued, b.rooted.once k)))

  links : (k : ℕ) → k < slots_of t.names → LinksNamed (slots_of t.names) t.cells k
  links k l =
      member k l (LinksNamed (slots_of t.names) t.cells k)
      (λ e. (let c = (b.others k l e).1 in
      record {
        parents = inl c.parents;
        lefts = inl c.lefts;
        rights = inl c.rights;
        prevs = inl c.prevs;
        nexts = inl c.nexts;
      }))
      (λ y. (let h = hangs_links k (inl refl) b.rooted.hangs y in
      let c = chain_links k (inl refl) b.linked (omega (arith, b.same k l)) in
      record { parents = h.parents; lefts = h.lefts; rights = h.rights; prevs = c.0; nexts = c.1 }))

  states : (k : ℕ) → k < slots_of t.names → cell t.cells k state ≤ 2
  states k l =
      member k l (cell t.cells k state ≤ 2) (λ e. omega (arith, (b.others k l e).0))
      (λ y. (let s = hangs_stand (slots_of t.names) t.cells b.rooted.hangs y in omega (arith, s.words.hued, hue_most s.hue)))

  cleared : (k : ℕ) → k < slots_of t.names → cell t.cells k state ≡ free → Cleared t k
  cleared k l z =
      member k l (Cleared t k) (λ e. (b.others k l e).1)
      (λ y. (let s = hangs_stand (slots_of t.names) t.cells b.rooted.hangs y in
      absurd (hue_used s.hue (sym s.words.hued ∙ z))))

  tree_inside : (k : ℕ) → 1 ≤ times k (slots b.tree) → k < slots_of t.names
  tree_inside k z = hangs_inside (slots_of t.names) t.cells b.rooted.hangs z

  tallied : length (slots b.tree) ≡ Rattle.tree_rules.specs.Chain.tally (slots_of t.names) (used t.cells)
  tallied = exactly_length (slots_of t.names) (slots b.tree) tree_inside (used t.cells) uses

  chained_same : length b.chain ≡ length (slots b.tree)
  chained_same =
      exactly_length (slots_of t.names) b.chain (λ k z. chain_inside (slots_of t.names) t.cells b.linked z) (used t.cells)
      (λ k l. uses k l ∙ b.same k l)
      ∙ sym tallied

  root_null : (u : Tree) → {q : ℕ} → Hangs (slots_of t.names) t.cells q u → (top u ≡ null) ↔ (length (slots u) ≡ 0)
  unfolding slots
  root_null leaf hangsNone = (λ e. refl, λ e. refl)
  root_null (node c l i r) (hangsSome k x y) =
      (λ e. absurd (omega (arith, k.inside, small fit)), λ e. absurd (omega (arith, length_node c l i r)))

  first_null : {q i : ℕ} {l : List ℕ} → Chain (slots_of t.names) t.cells q i l → (i ≡ null) ↔ (length l ≡ 0)
  first_null (ended e) = (λ z. refl, λ z. e)
  first_null (linked w p c) = (λ e. absurd (omega (arith, small fit)), λ e. absurd (omega arith))

  pub built_sound : Sound t
  built_sound =
      record {
        tree = b.tree;
        chain = b.chain;
        t1 =
            record {
              links = links;
              root = rw b.rooted.from (top-named b.rooted.hangs);
              first = chain_head b.linked;
              states = states;
              cleared = cleared;
              count = b.count ∙ tallied;
            };
        t2 = record { root = root_is; first = first_is };
        t3 = record { rooted = b.rooted; all = uses };
        t4 = b.rising;
        t5 = b.coloured;
        t6 = b.level;
        t7 = record { linked = b.linked; all = λ k l. uses k l ∙ b.same k l };
        t8 = b.sized;
      }
    where
      root_is : (root_of t ≡ null) ↔ (count_of t ≡ 0)
      root_is =
          let h = root_null b.tree b.rooted.hangs in
          (λ e. b.count ∙ h.0 (sym b.rooted.from ∙ e), λ e. b.rooted.from ∙ h.1 (sym b.count ∙ e))

      first_is : (first_of t ≡ null) ↔ (count_of t ≡ 0)
      first_is =
          let h = first_null b.linked in (λ e. b.count ∙ sym chained_same ∙ h.0 e, λ e. h.1 (chained_same ∙ sym b.count ∙ e))

  -- Its tree and its chain are those it was built of.
  pub built_tree : built_sound.tree ≡ b.tree
  unfolding built_sound
  built_tree = refl

  pub built_chain : built_sound.chain ≡ b.chain
  unfolding built_sound
  built_chain = refl
