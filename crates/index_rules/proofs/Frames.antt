-- A tree, a chain and an order each read few words, so they stay where those words stay.
-- A list with one slot less is counted and ordered like the longer one.
use mathlib.Core.Path.{◌≡◌, refl, ap, sym, subst, ◌∙◌}
use mathlib.Core.Logic.{◌≢◌, ◌⊎◌, inl, inr}
use mathlib.Core.Bool.{true, false}
use mathlib.Core.List.{List, [], ◌∷◌, ◌++◌}
use Prim.Native.Nat.{ℕ, ◌+◌, ◌*◌, ◌<◌, ◌≤◌}
use native.Mathlib.Decide.{ℕ_discrete}
use native.Mathlib.Omega.{arith}
use lib.ListN.{length, get_or, set, length-set, length-append}
use lib.Seq.{get_or-set_same, get_or-set_other}
use lib.Dec.{ltb, eqb}
use borrow.Author.Tests.{le-leb, eq-eqb, ne_eqb}
use Rattle.slots.specs.Words.{null, free, state, parent, left, right, prev, next, cell, name_of, rename, parts, fields, roomy}
use Rattle.slots.specs.Pairs.{Pair, pair_of, Less}
use Rattle.slots.proofs.Laws.{word_same, word_across, word_else, length-store, roomy-store}
use Rattle.tree_rules.specs.Tree.{Tree, slots, times, Hangs, Below, last, before, Rising, empty, rise}
use Rattle.tree_rules.specs.Tree.Hangs.{none as hangsNone, some as hangsSome}
use Rattle.tree_rules.specs.Chain.{Chain, ended, linked}
use Rattle.tree_rules.proofs.Counting.{times_append, times_head, times_else, times_rest, times_cases, exactly_length}
use Rattle.tree_rules.proofs.Reaching.{hangs_inside}
use Rattle.redblack.specs.Balance.{OneFewer as Without}
use Rattle.redblack.specs.Holding.{RedBlackTree}
use Rattle.index_rules.specs.Live.{Live, Fit, count_of}
use Rattle.index_rules.specs.Sound.{Sound, used}
use Rattle.index_rules.specs.Insert.{headed}
use Rattle.index_rules.proofs.Rules.{small}
use Rattle.tree_rules.specs.Find.{slots_of}

-- What stands in a list is none that does not.
pub none_of : {x k : ℕ} (l : List ℕ) → times x l ≡ 0 → 1 ≤ times k l → k ≢ x
none_of {x} {k} l e z f = let y : times k l ≡ times x l = ap (λ (j : ℕ). times j l) f in omega arith

-- A member of a list can be taken out of it.
pub member : (x : ℕ) (l : List ℕ) → 1 ≤ times x l → (m : List ℕ) × Without x l m
unfolding times
member x [] z = absurd (omega arith)
member x (y ∷ l) z =
    times_cases x y l z (λ e. (l, record { before = []; after = l; whole = ap (λ (j : ℕ). j ∷ l) (sym e); rest = refl }))
    (λ w. onward (member x l w))
  where
    onward : (m : List ℕ) × Without x l m → (m : List ℕ) × Without x (y ∷ l) m
    onward (m, h) = (
      y ∷ m,
      record {
        before = y ∷ h.before;
        after = h.after;
        whole = ap (λ (j : List ℕ). y ∷ j) h.whole;
        rest = ap (λ (j : List ℕ). y ∷ j) h.rest;
      },
    )

-- From the cells c to d the slot k keeps its colour and its links of the tree.
pub record Still (c d : List ℕ) (k : ℕ) : Type 0 where
  pub states : cell d k state ≡ cell c k state
  pub parents : cell d k parent ≡ cell c k parent
  pub lefts : cell d k left ≡ cell c k left
  pub rights : cell d k right ≡ cell c k right

pub hangs_frame : {n : ℕ} {c d : List ℕ} {q : ℕ} {t : Tree} → ((k : ℕ) → 1 ≤ times k (slots t) → Still c d k) → Hangs n c q t
    → Hangs n d q t
unfolding slots
hangs_frame e hangsNone = hangsNone
hangs_frame e (hangsSome {l = l} {i} {r} w a b) =
    let s = e i (omega (arith, times_append i (slots l) (i ∷ slots r), times_head i (slots r))) in
    hangsSome (record {
      inside = w.inside;
      above = s.parents ∙ w.above;
      lefts = s.lefts ∙ w.lefts;
      rights = s.rights ∙ w.rights;
      hued = s.states ∙ w.hued;
    })
    (hangs_frame (λ k z. e k (omega (arith, times_append k (slots l) (i ∷ slots r)))) a)
    (hangs_frame (λ k z. e k (omega (arith, times_append k (slots l) (i ∷ slots r), times_rest k i (slots r)))) b)

-- From the cells c to d the slot k keeps its links of the chain.
pub record Held (c d : List ℕ) (k : ℕ) : Type 0 where
  pub prevs : cell d k prev ≡ cell c k prev
  pub nexts : cell d k next ≡ cell c k next

pub chain_frame : {n : ℕ} {c d : List ℕ} {q i : ℕ} {l : List ℕ} → ((k : ℕ) → 1 ≤ times k l → Held c d k) → Chain n c q i l → Chain n d q i l
chain_frame e (ended z) = ended z
chain_frame e (linked {i = i} {l} w p c) =
    let s = e i (omega (arith, times_head i l)) in
    linked {l = l} w (s.prevs ∙ p) (rw s.nexts (chain_frame (λ k z. e k (omega (arith, times_rest k i l))) c))

-- The same chain after another slot: only the prev of its head is another.
pub chain_behind : {n q q' i : ℕ} {c d l : List ℕ} → ((k : ℕ) → times k l ≤ 1) → (i < n → cell d i prev ≡ q')
    → ((k : ℕ) → 1 ≤ times k l → k ≢ i → cell d k prev ≡ cell c k prev)
    → ((k : ℕ) → 1 ≤ times k l → cell d k next ≡ cell c k next) → Chain n c q i l → Chain n d q' i l
chain_behind once head prevs nexts (ended z) = ended z
chain_behind {c = c} {d} once head prevs nexts (linked {i = i} {l} w p rest) =
    linked {l = l} w (head w) (rw (nexts i (omega (arith, times_head i l)))
    (chain_frame
    (λ k z. record { prevs = prevs k (omega (arith, times_rest k i l)) (other k z); nexts = nexts k (omega (arith, times_rest k i l)) })
    rest))
  where
    other : (k : ℕ) → 1 ≤ times k l → k ≢ i
    other k z = none_of l (omega (arith, once i, times_head i l)) z

-- The head of a chain is null or one of its slots.
pub chain_starts : {n q i : ℕ} {c l : List ℕ} → Chain n c q i l → (i ≡ null) ⊎ (1 ≤ times i l)
chain_starts (ended e) = inl e
chain_starts (linked {i = i} {l} w p c) = inr (omega (arith, times_head i l))

-- A slot x that is seated behind y: the words of both, of the follower, and no others of the chain.
pub record Seated (n : ℕ) (c d : List ℕ) (x y q : ℕ) : Type 0 where
  pub inside : x < n
  pub x_prev : cell d x prev ≡ y
  pub x_next : cell d x next ≡ q
  pub y_next : y < n → cell d y next ≡ x
  pub q_prev : q < n → cell d q prev ≡ x
  pub prevs : (k : ℕ) → k ≢ x → k ≢ q → cell d k prev ≡ cell c k prev
  pub nexts : (k : ℕ) → k ≢ x → k ≢ y → cell d k next ≡ cell c k next

-- What follows in a chain is null or another slot of it.
pub chain_next : {n q i : ℕ} {c : List ℕ} (a : List ℕ) (y : ℕ) (b : List ℕ) → Chain n c q i (a ++ (y ∷ b))
    → (cell c y next ≡ null) ⊎ (1 ≤ times (cell c y next) b)
chain_next [] y b (linked w p r) = chain_starts r
chain_next {q = q} (z ∷ a) y b (linked w p r) = chain_next {q = z} a y b r

pub seated_front : {n x q : ℕ} {c d l : List ℕ} → Seated n c d x null q → ((k : ℕ) → times k l ≤ 1) → times x l ≡ 0
    → ((k : ℕ) → 1 ≤ times k l → k < null)
    → Chain n c null q l → Chain n d null x (x ∷ l)
seated_front {n} {x} {q} {l = l} s once away below chain =
    linked {l = l} s.inside s.x_prev
    (rw s.x_next
    (chain_behind once s.q_prev (λ k z d. s.prevs k (none_of l away z) d)
    (λ k z. s.nexts k (none_of l away z) (λ e. omega (arith, below k z))) chain))

pub seated-behind : {n q i x y : ℕ} {c d : List ℕ} (a b : List ℕ) → Seated n c d x y (cell c y next) → n ≤ null
    → ((k : ℕ) → times k (a ++ (y ∷ b)) ≤ 1)
    → times x (a ++ (y ∷ b)) ≡ 0 → (f : (cell c y next ≡ null) ⊎ (1 ≤ times (cell c y next) b)) → Chain n c q i (a ++ (y ∷ b))
    → Chain n d q i (a ++ (y ∷ (x ∷ b)))
seated-behind {n} {q} {i} {x} {y} {c} {d} [] b s bound once away f (linked w p r) =
    let not_x : (k : ℕ) → 1 ≤ times k (y ∷ b) → k ≢ x = λ k z. none_of (y ∷ b) away z in
    let own = not_x y (omega (arith, times_head y b)) in
    linked {l = x ∷ b} w (s.prevs y own (follows f) ∙ p)
    (rw (s.y_next w)
    (linked {l = b} s.inside s.x_prev
    (rw s.x_next
    (chain_behind (λ k. omega (arith, once k, times_rest k y b)) s.q_prev
    (λ k z e. s.prevs k (not_x k (omega (arith, times_rest k y b))) e)
    (λ k z. s.nexts k (not_x k (omega (arith, times_rest k y b))) (apart k z)) r))))
  where
    follows : (cell c y next ≡ null) ⊎ (1 ≤ times (cell c y next) b) → y ≢ cell c y next
    follows (inl e) g = omega arith
    follows (inr z) g =
        let m : times (cell c y next) b ≡ times y b = ap (λ (k : ℕ). times k b) (sym g) in omega (arith, once y, times_head y b)

    apart : (k : ℕ) → 1 ≤ times k b → k ≢ y
    apart k z g = let m : times k b ≡ times y b = ap (λ (j : ℕ). times j b) g in omega (arith, once y, times_head y b)
seated-behind {n} {q} {i} {x} {y} {c} {d} (u ∷ a) b s bound once away f (linked w p r) =
    let own : u ≢ x = none_of (u ∷ (a ++ (y ∷ b))) away (omega (arith, times_head u (a ++ (y ∷ b)))) in
    linked {l = a ++ (y ∷ (x ∷ b))} w (s.prevs u own (before f) ∙ p)
    (rw (s.nexts u own (other y (omega (arith, times_append y a (y ∷ b), times_head y b))))
    (seated-behind {q = u} a b s bound (λ k. omega (arith, once k, times_rest k u (a ++ (y ∷ b))))
    (omega (arith, times_rest x u (a ++ (y ∷ b)))) f r))
  where
    -- what stands further on is another slot
    other : (k : ℕ) → 1 ≤ times k (a ++ (y ∷ b)) → u ≢ k
    other k z g =
        let m : times k (a ++ (y ∷ b)) ≡ times u (a ++ (y ∷ b)) = ap (λ (j : ℕ). times j (a ++ (y ∷ b))) (sym g) in
        omega (arith, once u, times_head u (a ++ (y ∷ b)))

    before : (cell c y next ≡ null) ⊎ (1 ≤ times (cell c y next) b) → u ≢ cell c y next
    before (inl e) g = omega arith
    before (inr z) g = other (cell c y next) (omega (arith, times_append (cell c y next) a (y ∷ b), times_rest (cell c y next) y b)) g

-- The order reads the pairs of its slots.
below_frame : {names other : List ℕ} {p : Pair} {l : List ℕ} → ((k : ℕ) → 1 ≤ times k l → pair_of other k ≡ pair_of names k)
    → Below names p l → Below other p l
below_frame e last = last
below_frame {p = p} e (before {i} {l} h b) =
    before (subst (λ (q : Pair). Less p q) (sym (e i (omega (arith, times_head i l)))) h)
    (below_frame (λ k z. e k (omega (arith, times_rest k i l))) b)

pub rising_frame : {names other l : List ℕ} → ((k : ℕ) → 1 ≤ times k l → pair_of other k ≡ pair_of names k) → Rising names l
    → Rising other l
rising_frame e empty = empty
rising_frame {other = other} e (rise {i} {l} h r) =
    let f : (k : ℕ) → 1 ≤ times k l → pair_of other k ≡ pair_of _ k = λ k z. e k (omega (arith, times_rest k i l)) in
    rise (subst (λ (q : Pair). Below other q l) (sym (e i (omega (arith, times_head i l)))) (below_frame f h)) (rising_frame f r)

-- An order without one of its slots.
below-without : {names : List ℕ} {p : Pair} (a : List ℕ) (x : ℕ) (b : List ℕ) → Below names p (a ++ (x ∷ b)) → Below names p (a ++ b)
below-without [] x b (before h r) = r
below-without (y ∷ a) x b (before h r) = before h (below-without a x b r)

rising_around : {names : List ℕ} (a : List ℕ) (x : ℕ) (b : List ℕ) → Rising names (a ++ (x ∷ b)) → Rising names (a ++ b)
rising_around [] x b (rise h r) = r
rising_around (y ∷ a) x b (rise h r) = rise (below-without a x b h) (rising_around a x b r)

pub rising_without : {names : List ℕ} {x : ℕ} {l m : List ℕ} → Without x l m → Rising names l → Rising names m
rising_without {names} {x} e r =
    subst (λ (k : List ℕ). Rising names k) (sym e.rest)
    (rising_around e.before x e.after (subst (λ (k : List ℕ). Rising names k) e.whole r))

-- How often a slot stands in a list with one slot less.
pub without_else : {x : ℕ} {l m : List ℕ} (k : ℕ) → Without x l m → k ≢ x → times k l ≡ times k m
without_else {x} k e d =
    ap (λ (j : List ℕ). times k j) e.whole
    ∙ omega (arith, times_append k e.before (x ∷ e.after), times_else k x e.after d, times_append k e.before e.after)
    ∙ ap (λ (j : List ℕ). times k j) (sym e.rest)

pub without_same : {x : ℕ} {l m : List ℕ} → Without x l m → times x l ≡ 1 + times x m
without_same {x} {l} {m} e =
    let a : times x l ≡ times x (e.before ++ (x ∷ e.after)) = ap (λ (j : List ℕ). times x j) e.whole in
    let b : times x m ≡ times x (e.before ++ e.after) = ap (λ (j : List ℕ). times x j) e.rest in
    omega (arith, times_append x e.before (x ∷ e.after), times_head x e.after, times_append x e.before e.after)

pub without-length : {x : ℕ} {l m : List ℕ} → Without x l m → length l ≡ length m + 1
without-length {x} {l} {m} e =
    let a : length l ≡ length (e.before ++ (x ∷ e.after)) = ap (λ (j : List ℕ). length j) e.whole in
    let b : length m ≡ length (e.before ++ e.after) = ap (λ (j : List ℕ). length j) e.rest in
    omega (arith, length-append e.before (x ∷ e.after), length-append e.before e.after)

-- A slot of n has all its words.
pub roomy_cells : {n : ℕ} (l : List ℕ) (i : ℕ) → length l ≡ 7 * n → i < n → roomy fields l i ≡ true
unfolding roomy
roomy_cells {n} l i e h = le-leb (7 * i + 7) (length l) (omega arith)

pub roomy_names : {n : ℕ} (l : List ℕ) (i : ℕ) → length l ≡ 2 * n → i < n → roomy parts l i ≡ true
unfolding roomy
roomy_names {n} l i e h = le-leb (2 * i + 2) (length l) (omega arith)

-- Reads of names after a write, in the form that `simp` takes.
pub name_same : (l : List ℕ) (i f v : ℕ) → roomy parts l i ≡ true → ltb f parts ≡ true → name_of (rename l i f v) i f ≡ v
unfolding rename name_of
name_same l i f v r h = word_same parts 0 l i f v r h

pub name_across : (l : List ℕ) (i f v j g : ℕ) → eqb f g ≡ false → ltb f parts ≡ true → ltb g parts ≡ true
    → name_of (rename l i f v) j g ≡ name_of l j g
unfolding rename name_of
name_across l i f v j g e hf hg = word_across parts 0 l i f v j g e hf hg

pub name_else : (l : List ℕ) (i f v j g : ℕ) → j ≢ i → ltb f parts ≡ true → ltb g parts ≡ true
    → name_of (rename l i f v) j g ≡ name_of l j g
unfolding rename name_of
name_else l i f v j g n hf hg = word_else parts 0 l i f v j g n hf hg

pub roomy-rename : (l : List ℕ) (i f v j : ℕ) → roomy parts (rename l i f v) j ≡ roomy parts l j
unfolding rename
roomy-rename l i f v j = roomy-store parts l i f v j

pub length-rename : (l : List ℕ) (i f v : ℕ) → length (rename l i f v) ≡ length l
unfolding rename
length-rename l i f v = length-store parts l i f v

-- The header with its three words.
module _ (head : List ℕ) (root first count : ℕ) where
  pub headed-length : length (headed head root first count) ≡ length head
  headed-length = simp length-set

  pub headed_root : length head ≡ 3 → get_or (headed head root first count) 0 null ≡ root
  headed_root e =
      get_or-set_other (set (set head 0 root) 1 first) 2 0 count null (omega arith)
      ∙ get_or-set_other (set head 0 root) 1 0 first null (omega arith)
      ∙ get_or-set_same head 0 root null (omega arith)

  pub headed_first : length head ≡ 3 → get_or (headed head root first count) 1 null ≡ first
  headed_first e =
      get_or-set_other (set (set head 0 root) 1 first) 2 1 count null (omega arith)
      ∙ get_or-set_same (set head 0 root) 1 first null (omega (arith, length-set head 0 root))

  pub headed-count : length head ≡ 3 → get_or (headed head root first count) 2 null ≡ count
  headed-count e =
      get_or-set_same (set (set head 0 root) 1 first) 2 count null
      (omega (arith, length-set (set head 0 root) 1 first, length-set head 0 root))

-- In a sound tree the slots of the tree, of the chain and the used ones are the same, and the count is their number.
module _ {t : Live} (h : Sound t) where
  pub tree_inside : (k : ℕ) → 1 ≤ times k (slots h.tree) → k < slots_of t.names
  tree_inside k z = hangs_inside (slots_of t.names) t.cells h.t3.rooted.hangs z

  pub same_slots : (k : ℕ) → k < slots_of t.names → times k (slots h.tree) ≡ times k h.chain
  same_slots k l = sym (h.t3.all k l) ∙ h.t7.all k l

  pub free_nowhere : (k : ℕ) → k < slots_of t.names → cell t.cells k state ≡ free → times k (slots h.tree) ≡ 0
  free_nowhere k l e = sym (h.t3.all k l) ∙ rw (eq-eqb (cell t.cells k state) free e)

  pub nowhere_free : (k : ℕ) → k < slots_of t.names → times k (slots h.tree) ≡ 0 → cell t.cells k state ≡ free
  nowhere_free k l e = go (ℕ_discrete (cell t.cells k state) free)
    where
      go : Dec (cell t.cells k state ≡ free) → cell t.cells k state ≡ free
      go (yes z) = z
      go (no d) = let z : used t.cells k ≡ 1 = rw (ne_eqb (cell t.cells k state) free d) in absurd (omega (arith, h.t3.all k l))

  pub sound-count : count_of t ≡ length (slots h.tree)
  sound-count = h.t1.count ∙ sym (exactly_length (slots_of t.names) (slots h.tree) tree_inside (used t.cells) h.t3.all)

  -- A slot outside the tree is no link of the chain.
  pub off_chain : Fit t → (k j : ℕ) → k < slots_of t.names → times k (slots h.tree) ≡ 0 → (j ≡ null) ⊎ (1 ≤ times j h.chain) → j ≢ k
  off_chain fit k j l z (inl e) f = omega (arith, small fit)
  off_chain fit k j l z (inr y) f = none_of h.chain (sym (same_slots k l) ∙ z) y f

  pub sound_balanced : RedBlackTree h.tree
  sound_balanced = record { coloured = h.t5; level = h.t6 }
