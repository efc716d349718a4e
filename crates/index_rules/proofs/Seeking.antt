-- The search on a rising tree finds the pair exactly where it is: every look goes to the side on which the order has it,
-- and where the look goes by a null child the other side is empty.
use mathlib.Core.Path.{◌≡◌, refl, ap, subst, sym, ◌∙◌}
use mathlib.Core.Logic.{◌⊎◌, inl, inr}
use mathlib.Core.List.{List, ◌∷◌}
use Prim.Native.Nat.{ℕ, zero, suc, ◌<◌, ◌≤◌}
use native.Mathlib.Decide.{ℕ_discrete, dec_lt}
use native.Mathlib.Omega.{arith}
use lib.ListN.{length}
use Rattle.slots.specs.Words.{null, left, right, cell, name_of, hash_part, key_part, Colour}
use Rattle.slots.specs.Pairs.{Pair, pair, pair_of, Less}
use Rattle.slots.specs.Answers.{Answer, given, nothing}
use Rattle.tree_rules.specs.Find.{Look, here, on, looked, Search, looked_then, slots_of, searched, found}
use Rattle.tree_rules.specs.Tree.{Tree, leaf, node, top, slots, times, Hangs, Rising}
use Rattle.tree_rules.specs.Tree.Hangs.{none as hangsNone, some as hangsSome}
use Rattle.tree_rules.specs.Claims.{Looks}
use Rattle.tree_rules.proofs.Searching.{at_null, at_slot}
use Rattle.tree_rules.proofs.Counting.{times_append, times_head, times_rest, times-around}
use Rattle.tree_rules.proofs.Reaching.{length_node, rooted_most}
use Rattle.tree_rules.proofs.Claims.{claims}
use Rattle.redblack.specs.Holding.{Has}
use Rattle.index_rules.specs.Live.{Live, Fit, root_of}
use Rattle.index_rules.specs.Sound.{Sound}
use Rattle.index_rules.proofs.Rules.{small}
use Rattle.tree_rules.proofs.Order.{rising_before, rising_after, rising_front, rising_back}

-- Neither below, nor above.
below-not : {a b c d : ℕ} → b ≤ a → (a ≡ b → d ≤ c) → (a < b) ⊎ ((a ≡ b) × (c < d)) → ⊥
below-not h k (inl l) = omega arith
below-not h k (inr l) = omega (arith, k l.0, l.1)

module _ (names cells : List ℕ) (few : slots_of names ≤ null) (hash key : ℕ) where
  abbrev pub Sought : ℕ → Type 0
  Sought k = pair_of names k ≡ pair hash key

  -- What a search that ends with this answer says of the tree.
  pub record Answers (t : Tree) (a : Answer) : Type 0 where
    pub at : (x : ℕ) → 1 ≤ times x (slots t) → Sought x → a ≡ given x
    pub none : ((k : ℕ) → 1 ≤ times k (slots t) → Sought k → ⊥) → a ≡ nothing

  tail : {j : ℕ} {m : List ℕ} → Rising names (j ∷ m) → Rising names m
  tail (Rising.rise h r) = r

  -- A pair that is sought and lies below another, or above it, by its parts.
  under : (x i : ℕ) → Sought x → Less (pair_of names x) (pair_of names i)
      → (hash < name_of names i hash_part) ⊎ ((hash ≡ name_of names i hash_part) × (key < name_of names i key_part))
  unfolding Less
  under x i s h = subst (λ (p : Pair). Less p (pair_of names i)) s h

  over : (x i : ℕ) → Sought x → Less (pair_of names i) (pair_of names x)
      → (name_of names i hash_part < hash) ⊎ ((name_of names i hash_part ≡ hash) × (name_of names i key_part < key))
  unfolding Less
  over x i s h = subst (λ (p : Pair). Less (pair_of names i) p) s h

  own : (i : ℕ) → Sought i → (name_of names i hash_part ≡ hash) × (name_of names i key_part ≡ key)
  own i s = (ap (λ (p : Pair). p.hash) s, ap (λ (p : Pair). p.key) s)

  -- What goes on to a subtree answers for the whole, where the pair can only be there.
  goes : {c : Colour} {l r u : Tree} {i : ℕ} {a : Answer} → Answers u a
      → ((x : ℕ) → 1 ≤ times x (slots (node c l i r)) → Sought x → 1 ≤ times x (slots u))
      → ((x : ℕ) → 1 ≤ times x (slots u) → 1 ≤ times x (slots (node c l i r)))
      → Answers (node c l i r) a
  goes h into out = record { at = λ x z s. h.at x (into x z s) s; none = λ f. h.none (λ k z s. f k (out k z) s) }

  in_left : (c : Colour) (l r : Tree) (i x : ℕ) → 1 ≤ times x (slots l) → 1 ≤ times x (slots (node c l i r))
  unfolding slots
  in_left c l r i x z = omega (arith, times_append x (slots l) (i ∷ slots r))

  own_in : (c : Colour) (l r : Tree) (i : ℕ) → 1 ≤ times i (slots (node c l i r))
  unfolding slots
  own_in c l r i = omega (arith, times_append i (slots l) (i ∷ slots r), times_head i (slots r))

  in_right : (c : Colour) (l r : Tree) (i x : ℕ) → 1 ≤ times x (slots r) → 1 ≤ times x (slots (node c l i r))
  unfolding slots
  in_right c l r i x z = omega (arith, times_append x (slots l) (i ∷ slots r), times_rest x i (slots r))

  -- Where a sought slot stands in a node: on the left below it, there, or on the right above it.
  where_is : (c : Colour) (l r : Tree) (i x : ℕ) → Rising names (slots (node c l i r)) → 1 ≤ times x (slots (node c l i r))
      → Sought x → {A : Type 0}
      → (1 ≤ times x (slots l)
      → (hash < name_of names i hash_part) ⊎ ((hash ≡ name_of names i hash_part) × (key < name_of names i key_part)) → A)
      → (x ≡ i → A)
      → (1 ≤ times x (slots r)
      → (name_of names i hash_part < hash) ⊎ ((name_of names i hash_part ≡ hash) × (name_of names i key_part < key))
      → A)
      → A
  unfolding slots
  where_is c l r i x rising z s lefts same rights =
      times-around x (slots l) i (slots r) z
      (λ y. lefts y (under x i s (rising_before (slots l) i (slots r) x rising y)))
      same
      (λ y. rights y (over x i s (rising_after (slots l) i (slots r) x rising y)))

  no_slots : (t : Tree) {q : ℕ} → Hangs (slots_of names) cells q t → top t ≡ null → (x : ℕ) → 1 ≤ times x (slots t) → ⊥
  unfolding slots times
  no_slots leaf h e x z = omega arith
  no_slots (node c l i r) (hangsSome k a b) e x z = omega (arith, k.inside)

  -- The answer of a look that goes on, and of one that ends.
  step_on : {i q : ℕ} (v : ℕ) → i < slots_of names → looked names cells i hash key ≡ on q
      → (searched names cells (suc v) i hash key).answer ≡ (searched names cells v q hash key).answer
  step_on {i} v l e =
      ap (λ (s : Search). s.answer)
      (at_slot names cells hash key v i (omega arith) l ∙ ap (λ (o : Look). looked_then o i (λ q. searched names cells v q hash key)) e)

  step_here : {i : ℕ} (v : ℕ) → i < slots_of names → looked names cells i hash key ≡ here
      → (searched names cells (suc v) i hash key).answer ≡ given i
  step_here {i} v l e =
      ap (λ (s : Search). s.answer)
      (at_slot names cells hash key v i (omega arith) l ∙ ap (λ (o : Look). looked_then o i (λ q. searched names cells v q hash key)) e)

  answered : {t : Tree} {a b : Answer} → a ≡ b → Answers t b → Answers t a
  answered e h = record { at = λ x z s. e ∙ h.at x z s; none = λ f. e ∙ h.none f }

  -- A look at a node goes where the pair can be.
  node_seeks : (c : Colour) (l r : Tree) (i v : ℕ) → i < slots_of names → cell cells i left ≡ top l → cell cells i right ≡ top r
      → Hangs (slots_of names) cells i l → Hangs (slots_of names) cells i r → Rising names (slots (node c l i r))
      → Answers l (searched names cells v (top l) hash key).answer → Answers r (searched names cells v (top r) hash key).answer
      → Answers (node c l i r) (searched names cells (suc v) i hash key).answer
  unfolding looked
  node_seeks c l r i v w el er hl hr rising al ar =
      go (dec_lt hash own_hash) (dec_lt own_hash hash) (ℕ_discrete own_key key) (ℕ_discrete (cell cells i left) null)
      (ℕ_discrete (cell cells i right) null) (dec_lt key own_key)
    where
      own_hash : ℕ
      own_hash = name_of names i hash_part

      own_key : ℕ
      own_key = name_of names i key_part

      look : Looks (name_of names i hash_part) (name_of names i key_part) (cell cells i left) (cell cells i right) hash key
      look = claims.looks (name_of names i hash_part) (name_of names i key_part) (cell cells i left) (cell cells i right) hash key

      to_left : looked names cells i hash key ≡ on (cell cells i left)
          → ((x : ℕ) → 1 ≤ times x (slots (node c l i r)) → Sought x → 1 ≤ times x (slots l))
          → Answers (node c l i r) (searched names cells (suc v) i hash key).answer
      to_left e into =
          answered (step_on v w e ∙ ap (λ (q : ℕ). (searched names cells v q hash key).answer) el) (goes al into (in_left c l r i))

      to_right : looked names cells i hash key ≡ on (cell cells i right)
          → ((x : ℕ) → 1 ≤ times x (slots (node c l i r)) → Sought x → 1 ≤ times x (slots r))
          → Answers (node c l i r) (searched names cells (suc v) i hash key).answer
      to_right e into =
          answered (step_on v w e ∙ ap (λ (q : ℕ). (searched names cells v q hash key).answer) er) (goes ar into (in_right c l r i))

      lefts : ((x : ℕ) → x ≡ i → Sought x → ⊥)
          → ((name_of names i hash_part < hash) ⊎ ((name_of names i hash_part ≡ hash) × (name_of names i key_part < key)) → ⊥)
          → (x : ℕ) → 1 ≤ times x (slots (node c l i r)) → Sought x → 1 ≤ times x (slots l)
      lefts no_own no_right x z s = where_is c l r i x rising z s (λ y h. y) (λ e. absurd (no_own x e s)) (λ y h. absurd (no_right h))

      rights : ((x : ℕ) → x ≡ i → Sought x → ⊥)
          → ((hash < name_of names i hash_part) ⊎ ((hash ≡ name_of names i hash_part) × (key < name_of names i key_part)) → ⊥)
          → (x : ℕ) → 1 ≤ times x (slots (node c l i r)) → Sought x → 1 ≤ times x (slots r)
      rights no_own no_left x z s = where_is c l r i x rising z s (λ y h. absurd (no_left h)) (λ e. absurd (no_own x e s)) (λ y h. y)

      not_own : (name_of names i hash_part ≡ hash → name_of names i key_part ≡ key → ⊥) → (x : ℕ) → x ≡ i → Sought x → ⊥
      not_own n x e s = let o = own i (subst (λ (j : ℕ). Sought j) e s) in n o.0 o.1

      here_only : name_of names i hash_part ≡ hash → name_of names i key_part ≡ key → (x : ℕ) → 1 ≤ times x (slots (node c l i r))
          → Sought x → x ≡ i
      here_only eh ek x z s =
          where_is c l r i x rising z s
          (λ y h. absurd (below-not (omega arith) (λ e. omega arith) h))
          (λ e. e)
          (λ y h. absurd (below-not (omega arith) (λ e. omega arith) h))

      go : Dec (hash < name_of names i hash_part) → Dec (name_of names i hash_part < hash) → Dec (name_of names i key_part ≡ key)
          → Dec (cell cells i left ≡ null)
          → Dec (cell cells i right ≡ null) → Dec (key < name_of names i key_part)
          → Answers (node c l i r) (searched names cells (suc v) i hash key).answer
      go (yes h) b k x y d =
          to_left (look.greater h) (lefts (not_own (λ e f. omega arith)) (below-not (omega arith) (λ e. absurd (omega arith))))
      go (no a) (yes h) k x y d =
          to_right (look.less h) (rights (not_own (λ e f. omega arith)) (below-not (omega arith) (λ e. absurd (omega arith))))
      go (no a) (no b) (yes k) x y d =
          let eh : name_of names i hash_part ≡ hash = omega arith in
          answered (step_here v w (look.equal eh k)) (record {
            at = λ j z s. ap given (sym (here_only eh k j z s));
            none = λ f. absurd (f i (own_in c l r i) (λ u. pair (eh u) (k u)));
          })
      go (no a) (no b) (no k) (yes x) y d =
          let eh : name_of names i hash_part ≡ hash = omega arith in
          to_right (look.null-left eh k x)
          (λ j z s. where_is c l r i j rising z s (λ m h. absurd (no_slots l hl (sym el ∙ x) j m))
          (λ e. absurd (not_own (λ u f. k f) j e s)) (λ m h. m))
      go (no a) (no b) (no k) (no x) (yes y) d =
          let eh : name_of names i hash_part ≡ hash = omega arith in
          to_left (look.null-right eh k x y)
          (λ j z s. where_is c l r i j rising z s (λ m h. m) (λ e. absurd (not_own (λ u f. k f) j e s))
          (λ m h. absurd (no_slots r hr (sym er ∙ y) j m)))
      go (no a) (no b) (no k) (no x) (no y) (yes d) =
          let eh : name_of names i hash_part ≡ hash = omega arith in
          to_left (look.key_greater eh d x y) (lefts (not_own (λ e f. k f)) (below-not (omega arith) (λ e. omega arith)))
      go (no a) (no b) (no k) (no x) (no y) (no d) =
          let eh : name_of names i hash_part ≡ hash = omega arith in
          to_right (look.key_less eh (omega arith) x y) (rights (not_own (λ e f. k f)) (below-not (omega arith) (λ e. omega arith)))

  -- From a subtree's top, with a visit for each of its slots.
  pub seeks : {q : ℕ} {t : Tree} → Hangs (slots_of names) cells q t → Rising names (slots t) → (v : ℕ) → length (slots t) ≤ v
      → Answers t (searched names cells v (top t) hash key).answer
  unfolding slots times
  seeks hangsNone rising v l =
      let e = ap (λ (s : Search). s.answer) (at_null names cells hash key v null refl) in
      record { at = λ x z s. absurd (omega arith); none = λ f. e }
  seeks (hangsSome {c = c} {l} {i} {r} k a b) rising zero w = absurd (omega (arith, length_node c l i r))
  seeks (hangsSome {c = c} {l} {i} {r} k a b) rising (suc v) w =
      node_seeks c l r i v k.inside k.lefts k.rights a b rising
      (seeks a (rising_front (slots l) (i ∷ slots r) rising) v (omega (arith, length_node c l i r)))
      (seeks b (tail (rising_back (slots l) (i ∷ slots r) rising)) v (omega (arith, length_node c l i r)))

-- On a sound tree: the slot where the pair is, Nothing where it is not.
module _ {t : Live} (fit : Fit t) (h : Sound t) (hash key : ℕ) where
  whole : Answers t.names t.cells (small fit) hash key h.tree (found t.names t.cells (root_of t) hash key).answer
  unfolding found
  whole =
      rw h.t3.rooted.from
      (seeks t.names t.cells (small fit) hash key h.t3.rooted.hangs h.t4 (slots_of t.names)
      (rooted_most (slots_of t.names) t.cells (small fit) (root_of t) h.t3.rooted))

  pub found_at : (x : ℕ) → 1 ≤ times x (slots h.tree) → pair_of t.names x ≡ pair hash key
      → (found t.names t.cells (root_of t) hash key).answer ≡ given x
  found_at x z s = whole.at x z s

  pub found_none : (Has t.names h.tree hash key → ⊥) → (found t.names t.cells (root_of t) hash key).answer ≡ nothing
  found_none n = whole.none (λ k z s. n (record { slot = k; stands = z; named = s }))
