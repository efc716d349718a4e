-- T4: the walk reads the slots left, self, right and compares each pair with the last one read. That is enough: the order of pairs is
-- transitive, so each pair is then below all that come after it.
use Rattle.std.proofs.Common.{◌≡◌, ℕ, zero, suc, ◌≤◌, Bool, true, false, eqb, ◌≢◌, ◌⊎◌, ◌↔◌, List, [], ◌∷◌, ◌++◌, length, sym, refl, ap}
use Rattle.std.proofs.Common.{◌∙◌, inl, inr, arith, eq-eqb, ne_eqb}
use mathlib.Core.Bool.{false≢true}
use Rattle.slots.specs.Words.{null, pick, name_of, hash_part, key_part}
use Rattle.slots.specs.Pairs.{Pair, pair_of, Less, before}
use Rattle.slots.specs.Answers.{Value, none, some}
use Rattle.slots.proofs.Order.{less_transitive, before_less}
use Rattle.tree_rules.specs.Find.{slots_of}
use Rattle.tree_rules.specs.Tree.{Tree, top, slots, times, Hangs, Rooted, Below, Rising, last, empty, rise}
use Rattle.tree_rules.specs.Rules.{then, follows, risen, is_some, rises}
use Rattle.tree_rules.proofs.Counting.{times_head, times_rest}
use Rattle.tree_rules.proofs.Reaching.{length_node, solid, hangs_inside, rooted_most}

-- The slots of a list read in order, where m was read last.
read : List ℕ → ℕ → List ℕ → Value
read names m [] = some m
read names m (i ∷ l) = pick (follows names m i) (read names i l) none

read_append : (names : List ℕ) (m : ℕ) (a b : List ℕ) → read names m (a ++ b) ≡ then (read names m a) (λ k. read names k b)
unfolding read
read_append names m [] b = refl
read_append names m (i ∷ a) b = go (follows names m i) (read_append names i a b)
  where
    go : (x : Bool) → read names i (a ++ b) ≡ then (read names i a) (λ k. read names k b)
        → pick x (read names i (a ++ b)) none ≡ then (pick x (read names i a) none) (λ k. read names k b)
    go true e = e
    go false e = refl

-- What is below the first of a rising list is below the rest.
pub below_less : {names : List ℕ} {p q : Pair} {l : List ℕ} → Less p q → Below names q l → Below names p l
below_less h last = last
below_less h (Below.before k r) = Below.before (less_transitive _ _ _ h k) (below_less h r)

module _ (names : List ℕ) where
  followed : (m i : ℕ) → follows names m i ≡ true → m ≢ null → Less (pair_of names m) (pair_of names i)
  unfolding follows
  followed m i e d = (before_less _ _ _ _).0 (rw (ne_eqb m null d) at e)

  less_follows : (m i : ℕ) → (m ≡ null) ⊎ Less (pair_of names m) (pair_of names i) → follows names m i ≡ true
  unfolding follows
  less_follows m i (inl e) = simp (eq-eqb m null e)
  less_follows m i (inr h) = go (eqb m null)
    where
      go : (x : Bool)
          → pick x true
          (before (name_of names m hash_part) (name_of names m key_part) (name_of names i hash_part) (name_of names i key_part))
          ≡ true
      go true = refl
      go false = (before_less _ _ _ _).1 h

  -- Read in order, a list of slots rises, and from m on where m is a slot.
  record Risen (m : ℕ) (l : List ℕ) : Type 0 where
    under : m ≢ null → Below names (pair_of names m) l
    rising : Rising names l

  read-risen : (m : ℕ) (l : List ℕ) → ((k : ℕ) → 1 ≤ times k l → k ≢ null) → is_some (read names m l) ≡ true → Risen m l
  unfolding read
  read-risen m [] solid e = record { under = λ d. last; rising = empty }
  read-risen m (i ∷ l) solid e = go (follows names m i) refl e (λ h. read-risen i l (λ k y. solid k (omega (arith, times_rest k i l))) h)
    where
      go : (x : Bool) → follows names m i ≡ x → is_some (pick x (read names i l) none) ≡ true
          → (is_some (read names i l) ≡ true → Risen i l)
          → Risen m (i ∷ l)
      go true f e again =
          let h = again e in
          let b : Below names (pair_of names i) l = h.under (solid i (omega (arith, times_head i l))) in
          record { under = λ d. Below.before (followed m i f d) (below_less (followed m i f d) b); rising = rise b h.rising }
      go false f e again = absurd (false≢true e)

  risen-read : (m : ℕ) (l : List ℕ) → (m ≡ null) ⊎ Below names (pair_of names m) l → Rising names l → is_some (read names m l) ≡ true
  unfolding read
  risen-read m [] h r = refl
  risen-read m (i ∷ l) h (rise b r) = rw (less_follows m i (go h)) (risen-read i l (inr b) r)
    where
      go : (m ≡ null) ⊎ Below names (pair_of names m) (i ∷ l) → (m ≡ null) ⊎ Less (pair_of names m) (pair_of names i)
      go (inl e) = inl e
      go (inr (Below.before k r)) = inr k

  -- The walk over a tree reads its slots in order.
  module _ (n : ℕ) (cells : List ℕ) (small : n ≤ null) where
    walk_reads : (depth m : ℕ) {q : ℕ} {t : Tree} → Hangs n cells q t → length (slots t) ≤ depth
        → risen depth names cells m (top t) ≡ read names m (slots t)
    unfolding risen slots read
    walk_reads zero m Hangs.none h = refl
    walk_reads (suc depth) m Hangs.none h = refl
    walk_reads zero m (Hangs.some {c = c} {l} {i} {r} w a b) h = absurd (omega (arith, length_node c l i r))
    walk_reads (suc depth) m (Hangs.some {c = c} {l} {i} {r} w a b) h =
        rw (
          ne_eqb i null (omega arith),
          w.lefts,
          w.rights,
          walk_reads depth m a (omega (arith, length_node c l i r)),
          walk_reads depth i b (omega (arith, length_node c l i r)),
        )
        (sym (read_append names m (slots l) (i ∷ slots r)))

  module _ (cells : List ℕ) (small : slots_of names ≤ null) (root : ℕ) {t : Tree} (tree : Rooted (slots_of names) cells root t) where
    rises-read : rises names cells root ≡ is_some (read names null (slots t))
    unfolding rises
    rises-read =
        rw tree.from
        (ap is_some
        (walk_reads (slots_of names) cells small (slots_of names) null tree.hangs (rooted_most (slots_of names) cells small root tree)))

    pub rises_rising : (rises names cells root ≡ true) ↔ Rising names (slots t)
    rises_rising = (
      λ e. (read-risen null (slots t) (λ k y. solid small (hangs_inside (slots_of names) cells tree.hangs y)) (sym rises-read ∙ e)).rising,
      λ r. rises-read ∙ risen-read null (slots t) (inl refl) r,
    )
