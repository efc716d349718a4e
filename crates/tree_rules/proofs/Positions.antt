-- The size of the left subtree is the number of slots before the slot itself, so the ways down by sizes find the slot of a position and the
-- position of a pair.
use Rattle.std.proofs.Common.{◌≡◌, ℕ, zero, suc, ◌+◌, ◌-◌, ◌<◌, ◌≤◌, Bool, true, false, eqb, ◌≢◌, ◌⊎◌, List, [], ◌∷◌, ◌++◌, length, get_or}
use Rattle.std.proofs.Common.{sym, refl, ap, ◌∙◌, inl, inr, arith, get_or-append-add, le-ltb, lt-ltb, eq-eqb, ne_eqb}
use mathlib.Core.Bool.{false≢true}
use native.Mathlib.Decide.{ℕ_discrete, dec_lt}
use lib.ListN.{get_or-append}
use lib.Seq.{get_or-append_seam}
use Rattle.slots.specs.Words.{null, pick, left, right, cell, name_of, hash_part, key_part, Colour, sum}
use Rattle.slots.specs.Pairs.{pair, pair_of, Less, before}
use Rattle.slots.specs.Answers.{Value, some, none}
use Rattle.slots.proofs.Laws.{none_some}
use Rattle.slots.proofs.Order.{less_irreflexive, less_transitive, less_total, before_less}
use Rattle.tree_rules.specs.Tree.{Tree, node, top, slots, times, Rising}
use Rattle.tree_rules.specs.Tree as Plain
use Rattle.tree_rules.specs.Sizes.{size_word}
use Rattle.tree_rules.specs.Ranks.{kth_from, rank_from}
use Rattle.tree_rules.proofs.Reaching.{length_node}
use Rattle.tree_rules.proofs.Counting.{times_append, times_head, times_rest, times_cases}
use Rattle.tree_rules.proofs.Order.{rising_before, rising_after, rising_front, rising_back, rising_tail}
use Rattle.tree_rules.proofs.Weighing.{Each, nothing, each, whole_size}

-- The slots of a node, by position.
module _ (c : Colour) (l : Tree) (i : ℕ) (r : Tree) where
  slot_left : (k : ℕ) → k < length (slots l) → get_or (slots (node c l i r)) k null ≡ get_or (slots l) k null
  unfolding slots
  slot_left k h = get_or-append (slots l) (i ∷ slots r) null k h

  slot_here : get_or (slots (node c l i r)) (length (slots l)) null ≡ i
  unfolding slots
  slot_here = get_or-append_seam (slots l) i (slots r) null

  slot_right : (k : ℕ) → get_or (slots (node c l i r)) (length (slots l) + suc k) null ≡ get_or (slots r) k null
  unfolding slots
  slot_right k = get_or-append-add (slots l) (i ∷ slots r) (suc k) null

module _ (cells sizes : List ℕ) (small : length sizes ≤ null) where
  -- A slot whose two subtrees are searched rightly is.
  at_node : (m : ℕ) (c : Colour) (l : Tree) (i : ℕ) (r : Tree) (k : ℕ) → cell cells i left ≡ top l → cell cells i right ≡ top r
      → size_word sizes (top l) ≡ length (slots l) → k < length (slots (node c l i r))
      → ((j : ℕ) → j < length (slots l) → kth_from m cells sizes (top l) j ≡ get_or (slots l) j null)
      → ((j : ℕ) → j < length (slots r) → kth_from m cells sizes (top r) j ≡ get_or (slots r) j null)
      → kth_from (suc m) cells sizes i k ≡ get_or (slots (node c l i r)) k null
  unfolding kth_from
  at_node m c l i r k el er ew h f g = go (dec_lt k (length (slots l))) (ℕ_discrete k (length (slots l)))
    where
      go : Dec (k < length (slots l)) → Dec (k ≡ length (slots l)) → kth_from (suc m) cells sizes i k ≡ get_or (slots (node c l i r)) k null
      go (yes u) v = rw (kth_from, el, er, ew, lt-ltb k (length (slots l)) u) (f k u ∙ sym (slot_left c l i r k u))
      go (no u) (yes v) =
          rw (kth_from, el, er, ew, le-ltb k (length (slots l)) (omega arith), eq-eqb k (length (slots l)) v)
          (sym (slot_here c l i r) ∙ ap (λ (j : ℕ). get_or (slots (node c l i r)) j null) (sym v))
      go (no u) (no v) =
          let p : k ≡ length (slots l) + suc (k - (length (slots l) + 1)) = omega arith in
          rw (kth_from, el, er, ew, le-ltb k (length (slots l)) (omega arith), ne_eqb k (length (slots l)) v)
          (g _ (omega (arith, length_node c l i r)) ∙ sym (slot_right c l i r (k - (length (slots l) + 1)))
          ∙ ap (λ (j : ℕ). get_or (slots (node c l i r)) j null) (sym p))

  -- Down a subtree that hangs in the links, with the sizes added up: the k-th of its slots in order.
  pub kth_slot : {n q : ℕ} {t : Tree} (m k : ℕ) → Plain.Hangs n cells q t → Each sizes t → length (slots t) ≤ m → k < length (slots t)
      → kth_from m cells sizes (top t) k ≡ get_or (slots t) k null
  unfolding slots
  kth_slot m k Plain.none nothing d h = absurd (omega arith)
  kth_slot zero k (Plain.some x y z) (each e a b) d h = absurd (omega arith)
  kth_slot (suc m) k (Plain.some {c = c} {l} {i} {r} x y z) (each e a b) d h =
      at_node m c l i r k x.lefts x.rights (whole_size small a) h
      (λ j u. kth_slot m j y a (omega (arith, length_node c l i r)) u) (λ j u. kth_slot m j z b (omega (arith, length_node c l i r)) u)

-- A member by its position.
pub nth_in : (l : List ℕ) (k : ℕ) → k < length l → 1 ≤ times (get_or l k null) l
unfolding times
nth_in [] k h = absurd (omega arith)
nth_in (x ∷ l) zero h = omega (arith, times_head x l)
nth_in (x ∷ l) (suc k) h = omega (arith, nth_in l k (omega arith), times_rest (get_or l k null) x l)

pub in_nth : (x : ℕ) (l : List ℕ) → 1 ≤ times x l → (k : ℕ) × (k < length l) × (get_or l k null ≡ x)
unfolding times
in_nth x [] z = absurd (omega arith)
in_nth x (y ∷ l) z = times_cases x y l z (λ e. (0, omega arith, sym e)) (λ w. onward (in_nth x l w))
  where
    onward : (k : ℕ) × (k < length l) × (get_or l k null ≡ x) → (k : ℕ) × (k < length (y ∷ l)) × (get_or (y ∷ l) k null ≡ x)
    onward (k, h, e) = (suc k, omega arith, e)

-- The tests of the order.
lower : (names : List ℕ) (x y : ℕ) → Less (pair_of names x) (pair_of names y)
    → before (name_of names x hash_part) (name_of names x key_part) (name_of names y hash_part) (name_of names y key_part) ≡ true
lower names x y h = (before_less _ _ _ _).1 h

not_lower : (names : List ℕ) (x y : ℕ) → (Less (pair_of names x) (pair_of names y) → ⊥)
    → before (name_of names x hash_part) (name_of names x key_part) (name_of names y hash_part) (name_of names y key_part) ≡ false
not_lower names x y n = go _ refl
  where
    go : (b : Bool)
        → before (name_of names x hash_part) (name_of names x key_part) (name_of names y hash_part) (name_of names y key_part) ≡ b
        → before (name_of names x hash_part) (name_of names x key_part) (name_of names y hash_part) (name_of names y key_part) ≡ false
    go true e = absurd (n ((before_less _ _ _ _).0 e))
    go false e = e

-- Of two pairs neither of which comes before the other, there is one.
neither_less : (names : List ℕ) (i hash key : ℕ) → before hash key (name_of names i hash_part) (name_of names i key_part) ≡ false
    → before (name_of names i hash_part) (name_of names i key_part) hash key ≡ false → pair_of names i ≡ pair hash key
neither_less names i hash key p q = go (less_total (pair_of names i) (pair hash key))
  where
    go : Less (pair_of names i) (pair hash key) ⊎ ((pair_of names i ≡ pair hash key) ⊎ Less (pair hash key) (pair_of names i))
        → pair_of names i ≡ pair hash key
    go (inl h) = absurd (false≢true (sym q ∙ (before_less _ _ _ _).1 h))
    go (inr (inl e)) = e
    go (inr (inr h)) = absurd (false≢true (sym p ∙ (before_less _ _ _ _).1 h))

-- A sum of words that does not reach the end is a sum.
sum_is : (m n : ℕ) → m + n < 4294967296 → sum m n ≡ m + n
unfolding sum
sum_is m n h = omega arith

module _ (names cells sizes : List ℕ) (small : length sizes ≤ null) where
  -- The way down for the pair of slot x, past m others.
  abbrev ranked : ℕ → ℕ → ℕ → ℕ → Value
  ranked fuel i x m = rank_from fuel names cells sizes i (name_of names x hash_part) (name_of names x key_part) m

  rank_lower : (fuel i x m : ℕ) → i ≢ null → Less (pair_of names x) (pair_of names i)
      → ranked (suc fuel) i x m ≡ ranked fuel (cell cells i left) x m
  unfolding rank_from
  rank_lower fuel i x m d h = rw (ne_eqb i null d, lower names x i h)

  rank_here : (fuel i m : ℕ) → i ≢ null → ranked (suc fuel) i i m ≡ some (sum m (size_word sizes (cell cells i left)))
  unfolding rank_from
  rank_here fuel i m d = let n = not_lower names i i (less_irreflexive (pair_of names i)) in rw (ne_eqb i null d, n)

  rank_upper : (fuel i x m : ℕ) → i ≢ null → Less (pair_of names i) (pair_of names x)
      → ranked (suc fuel) i x m ≡ ranked fuel (cell cells i right) x (sum (sum m (size_word sizes (cell cells i left))) 1)
  unfolding rank_from
  rank_upper fuel i x m d h =
      let n =
      not_lower names x i
      (λ g. less_irreflexive (pair_of names x) (less_transitive (pair_of names x) (pair_of names i) (pair_of names x) g h)) in
      rw (ne_eqb i null d, n, lower names i x h)

  rank_node : (fuel k m : ℕ) (c : Colour) (l : Tree) (i : ℕ) (r : Tree) → i ≢ null → cell cells i left ≡ top l → cell cells i right ≡ top r
      → size_word sizes (top l) ≡ length (slots l) → Rising names (slots (node c l i r)) → k < length (slots (node c l i r))
      → m + length (slots (node c l i r)) < 4294967296
      → ((j : ℕ) → j < length (slots l) → ranked fuel (top l) (get_or (slots l) j null) m ≡ some (m + j))
      → ((j : ℕ) → j < length (slots r)
      → ranked fuel (top r) (get_or (slots r) j null) (m + length (slots l) + 1) ≡ some (m + length (slots l) + 1 + j))
      → ranked (suc fuel) i (get_or (slots (node c l i r)) k null) m ≡ some (m + k)
  unfolding slots
  rank_node fuel k m c l i r d el er ew up h b f g = go (dec_lt k (length (slots l))) (ℕ_discrete k (length (slots l)))
    where
      w : size_word sizes (cell cells i left) ≡ length (slots l)
      w = ap (size_word sizes) el ∙ ew

      go : Dec (k < length (slots l)) → Dec (k ≡ length (slots l))
          → ranked (suc fuel) i (get_or (slots (node c l i r)) k null) m ≡ some (m + k)
      go (yes u) v =
          let x = get_or (slots l) k null in
          ap (λ (y : ℕ). ranked (suc fuel) i y m) (slot_left c l i r k u)
          ∙ rank_lower fuel i x m d (rising_before (slots l) i (slots r) x up (nth_in (slots l) k u))
          ∙ ap (λ (j : ℕ). ranked fuel j x m) el ∙ f k u
      go (no u) (yes v) =
          ap (λ (y : ℕ). ranked (suc fuel) i y m) (ap (λ (j : ℕ). get_or (slots (node c l i r)) j null) v ∙ slot_here c l i r)
          ∙ rank_here fuel i m d
          ∙ ap some (ap (sum m) w ∙ sum_is m (length (slots l)) (omega (arith, length_node c l i r)) ∙ ap (λ (j : ℕ). m + j) (sym v))
      go (no u) (no v) =
          let j = k - (length (slots l) + 1) in
          let x = get_or (slots r) j null in
          let p : k ≡ length (slots l) + suc j = omega arith in
          let inside : j < length (slots r) = omega (arith, length_node c l i r) in
          let s : sum (sum m (size_word sizes (cell cells i left))) 1 ≡ m + length (slots l) + 1 =
          ap (λ (q : ℕ). sum q 1) (ap (sum m) w ∙ sum_is m (length (slots l)) (omega (arith, length_node c l i r)))
          ∙ sum_is (m + length (slots l)) 1 (omega (arith, length_node c l i r)) in
          ap (λ (y : ℕ). ranked (suc fuel) i y m) (ap (λ (q : ℕ). get_or (slots (node c l i r)) q null) p ∙ slot_right c l i r j)
          ∙ rank_upper fuel i x m d (rising_after (slots l) i (slots r) x up (nth_in (slots r) j inside))
          ∙ (λ q. ranked fuel (er q) x (s q)) ∙ g j inside ∙ ap some (omega arith)

  -- The number of slots before the one at position k is k.
  pub rank_of_lem : {n q : ℕ} {t : Tree} (fuel k m : ℕ) → n ≤ null → Plain.Hangs n cells q t → Each sizes t → Rising names (slots t)
      → length (slots t) ≤ fuel
      → k < length (slots t) → m + length (slots t) < 4294967296 → ranked fuel (top t) (get_or (slots t) k null) m ≡ some (m + k)
  unfolding slots
  rank_of_lem fuel k m few Plain.none nothing up d h b = absurd (omega arith)
  rank_of_lem zero k m few (Plain.some x y z) (each e a u) up d h b = absurd (omega arith)
  rank_of_lem (suc fuel) k m few (Plain.some {c = c} {l} {i} {r} x y z) (each e a u) up d h b =
      rank_node fuel k m c l i r (omega (arith, x.inside)) x.lefts x.rights (whole_size small a) up h b
      (λ j v. rank_of_lem fuel j m few y a (rising_front (slots l) (i ∷ slots r) up) (omega (arith, length_node c l i r)) v
      (omega (arith, length_node c l i r)))
      (λ j v. rank_of_lem fuel j (m + length (slots l) + 1) few z u (rising_tail (rising_back (slots l) (i ∷ slots r) up))
      (omega (arith, length_node c l i r)) v (omega (arith, length_node c l i r)))

  -- Where a position is found the subtree has the pair.
  pub rank_has : {n q : ℕ} {t : Tree} (fuel hash key m v : ℕ) → Plain.Hangs n cells q t
      → rank_from fuel names cells sizes (top t) hash key m ≡ some v
      → (x : ℕ) × (1 ≤ times x (slots t)) × (pair_of names x ≡ pair hash key)
  unfolding rank_from slots
  rank_has zero hash key m v Plain.none e = absurd (none_some e)
  rank_has (suc fuel) hash key m v Plain.none e = absurd (none_some e)
  rank_has zero hash key m v (Plain.some x y z) e = absurd (none_some e)
  rank_has (suc fuel) hash key m v (Plain.some {c = c} {l} {i} {r} x y z) e =
      go (eqb i null) (before hash key (name_of names i hash_part) (name_of names i key_part)) refl
      (before (name_of names i hash_part) (name_of names i key_part) hash key) refl e
      (λ f. rank_has fuel hash key m v y (ap (λ (j : ℕ). rank_from fuel names cells sizes j hash key m) (sym x.lefts) ∙ f))
      (λ w f. rank_has fuel hash key w v z (ap (λ (j : ℕ). rank_from fuel names cells sizes j hash key w) (sym x.rights) ∙ f))
    where
      up : (a : List ℕ) → ((k : ℕ) → times k a ≤ times k (slots l ++ (i ∷ slots r)))
          → (k : ℕ) × (1 ≤ times k a) × (pair_of names k ≡ pair hash key)
          → (k : ℕ) × (1 ≤ times k (slots l ++ (i ∷ slots r))) × (pair_of names k ≡ pair hash key)
      up a w (k, p, q) = (k, omega (arith, w k), q)

      go : (nothing low : Bool) → before hash key (name_of names i hash_part) (name_of names i key_part) ≡ low → (high : Bool)
          → before (name_of names i hash_part) (name_of names i key_part) hash key ≡ high
          → pick nothing none (pick low (rank_from fuel names cells sizes (cell cells i left) hash key m)
          (pick high (rank_from fuel names cells sizes (cell cells i right) hash key (sum (sum m (size_word sizes (cell cells i left))) 1))
          (some (sum m (size_word sizes (cell cells i left)))))) ≡ some v
          → (rank_from fuel names cells sizes (cell cells i left) hash key m ≡ some v
          → (k : ℕ) × (1 ≤ times k (slots l)) × (pair_of names k ≡ pair hash key))
          → ((w : ℕ) → rank_from fuel names cells sizes (cell cells i right) hash key w ≡ some v
          → (k : ℕ) × (1 ≤ times k (slots r)) × (pair_of names k ≡ pair hash key))
          → (k : ℕ) × (1 ≤ times k (slots l ++ (i ∷ slots r))) × (pair_of names k ≡ pair hash key)
      go true low p high q f left right = absurd (none_some f)
      go false true p high q f left right = up (slots l) (λ k. omega (arith, times_append k (slots l) (i ∷ slots r))) (left f)
      go false false p true q f left right =
          up (slots r) (λ k. omega (arith, times_append k (slots l) (i ∷ slots r), times_rest k i (slots r))) (right _ f)
      go false false p false q f left right =
          (i, omega (arith, times_append i (slots l) (i ∷ slots r), times_head i (slots r)), neither_less names i hash key p q)
