-- No two bins of an accepted set name one head, so there are at most as many lists as slots and as many trees as headers. The row of all
-- bin words is the bins of table after table.
use mathlib.Core.Path.{◌≡◌, refl, ap, sym, ◌∙◌}
use mathlib.Core.List.{List, [], ◌∷◌, ◌++◌}
use Prim.Native.Nat.{ℕ, zero, suc, ◌+◌, ◌-◌, ◌<◌, ◌≤◌}
use native.Mathlib.Decide.{ℕ_discrete, dec_le}
use native.Mathlib.Omega.{arith}
use lib.ListN.{length, get_or, length-append}
use Rattle.tree_rules.specs.Tree.{times}
use Rattle.tree_rules.specs.Chain.{tally}
use Rattle.tree_rules.specs.Find.{slots_of}
use Rattle.tree_rules.proofs.Counting.{times_append, times_cases, times_head, times_else, tally_same, length_most}
use Rattle.set_rules.specs.Words.{Set, Fit, tables_of, headers_in, bins_before, Bin, empty, moved, bad, list, tree, bin_at, word_bin}
use Rattle.set_rules.specs.Accepted.{Accepted, BinThere}
use Rattle.set_rules.proofs.Naming.{begins_there}
use Rattle.set_rules.proofs.Claims.{claims as set-claims}
use Rattle.figure_rules.specs.Added.{is_list, is_tree, over_bins}
use Rattle.figure_rules.proofs.Sums.{tally_split}
use Rattle.figure_rules.proofs.Finding.{slots_most}

-- The numbers that the first q places hold, where each number stands at one place at most.
module _ (g : ℕ → List ℕ) where
  held_up_to : ℕ → List ℕ
  held_up_to zero = []
  held_up_to (suc q) = g q ++ held_up_to q

  held_long : (q : ℕ) → length (held_up_to q) ≡ tally q (λ p. length (g p))
  unfolding held_up_to tally
  held_long zero = refl
  held_long (suc q) = length-append (g q) (held_up_to q) ∙ omega (arith, held_long q)

  held_from : (q h : ℕ) → 1 ≤ times h (held_up_to q) → (p : ℕ) × (p < q) × (1 ≤ times h (g p))
  unfolding held_up_to times
  held_from zero h m = absurd (omega arith)
  held_from (suc q) h m = go (dec_le 1 (times h (g q))) (λ n. held_from q h n)
    where
      go : Dec (1 ≤ times h (g q)) → (1 ≤ times h (held_up_to q) → (p : ℕ) × (p < q) × (1 ≤ times h (g p)))
          → (p : ℕ) × (p < suc q) × (1 ≤ times h (g p))
      go (yes y) again = (q, omega arith, y)
      go (no d) again = let r = again (omega (arith, times_append h (g q) (held_up_to q))) in (r.0, omega (arith, r.1), r.2)

  module _ (m n : ℕ) (single : (p h : ℕ) → times h (g p) ≤ 1) (inside : (p h : ℕ) → p < m → 1 ≤ times h (g p) → h < n)
      (once : (p q h : ℕ) → p < m → q < m → 1 ≤ times h (g p) → 1 ≤ times h (g q) → p ≡ q) where
    held_once : (q : ℕ) → q ≤ m → (h : ℕ) → times h (held_up_to q) ≤ 1
    unfolding held_up_to times
    held_once zero b h = omega arith
    held_once (suc q) b h = go (dec_le 1 (times h (g q))) (dec_le 1 (times h (held_up_to q))) (held_once q (omega arith) h)
      where
        go : Dec (1 ≤ times h (g q)) → Dec (1 ≤ times h (held_up_to q)) → times h (held_up_to q) ≤ 1 → times h (g q ++ held_up_to q) ≤ 1
        go (yes y) (yes z) k =
            let r = held_from q h z in
            let e = once r.0 q h (omega (arith, r.1)) (omega arith) r.2 y in
            absurd (omega (arith, r.1))
        go (yes y) (no z) k = omega (arith, times_append h (g q) (held_up_to q), single q h)
        go (no y) z k = omega (arith, times_append h (g q) (held_up_to q))

    pub places_most : tally m (λ p. length (g p)) ≤ n
    places_most =
        let e = held_long m in
        let l = length_most n (held_up_to m) (λ h k. let r = held_from m h k in inside r.0 h r.1 r.2) (held_once m (omega arith)) in
        omega arith

-- A sum over the row is the sum over the tables.
row_sum : (l : List ℕ) (f : ℕ → ℕ) (t : ℕ) → tally (bins_before l t) f ≡ tally t (λ k. tally (get_or l k 0) (λ i. f (bins_before l k + i)))
unfolding bins_before tally
row_sum l f zero = refl
row_sum l f (suc t) = tally_split (bins_before l t) (get_or l t 0) f ∙ omega (arith, row_sum l f t)

pub over_row : (s : Set) → Fit s → (f : Bin → ℕ) → tally (length s.bins) (λ p. f (word_bin s p)) ≡ over_bins s f
over_row s fit f =
    ap (λ (n : ℕ). tally n (λ p. f (word_bin s p))) fit.all ∙ row_sum s.lengths (λ p. f (word_bin s p)) (tables_of s)

list_at : Bin → List ℕ
list_at empty = []
list_at moved = []
list_at bad = []
list_at (list a) = a ∷ []
list_at (tree h) = []

tree_at : Bin → List ℕ
tree_at empty = []
tree_at moved = []
tree_at bad = []
tree_at (list a) = []
tree_at (tree h) = h ∷ []

lists_are : (b : Bin) → length (list_at b) ≡ is_list b
unfolding list_at
lists_are empty = refl
lists_are moved = refl
lists_are bad = refl
lists_are (list a) = refl
lists_are (tree h) = refl

trees_are : (b : Bin) → length (tree_at b) ≡ is_tree b
unfolding tree_at
trees_are empty = refl
trees_are moved = refl
trees_are bad = refl
trees_are (list a) = refl
trees_are (tree h) = refl

one_once : (h a : ℕ) → times h (a ∷ []) ≤ 1
one_once h a = go (ℕ_discrete h a)
  where
    go : Dec (h ≡ a) → times h (a ∷ []) ≤ 1
    go (yes e) = rw e (unfold times in omega (arith, times_head a []))
    go (no d) = unfold times in omega (arith, times_else h a [] d)

no_times : (h : ℕ) → 1 ≤ times h [] → ⊥
unfolding times
no_times h m = omega arith

none_once : (h : ℕ) → times h [] ≤ 1
unfolding times
none_once h = omega arith

lists_once : (b : Bin) (h : ℕ) → times h (list_at b) ≤ 1
unfolding list_at
lists_once empty h = none_once h
lists_once moved h = none_once h
lists_once bad h = none_once h
lists_once (list a) h = one_once h a
lists_once (tree a) h = none_once h

trees_once : (b : Bin) (h : ℕ) → times h (tree_at b) ≤ 1
unfolding tree_at
trees_once empty h = none_once h
trees_once moved h = none_once h
trees_once bad h = none_once h
trees_once (list a) h = none_once h
trees_once (tree a) h = one_once h a

lists_head : (b : Bin) (h : ℕ) → 1 ≤ times h (list_at b) → b ≡ list h
unfolding list_at
lists_head empty h m = absurd (no_times h m)
lists_head moved h m = absurd (no_times h m)
lists_head bad h m = absurd (no_times h m)
lists_head (list a) h m = times_cases h a [] m (λ e. ap list (sym e)) (λ n. absurd (no_times h n))
lists_head (tree a) h m = absurd (no_times h m)

trees_head : (b : Bin) (h : ℕ) → 1 ≤ times h (tree_at b) → b ≡ tree h
unfolding tree_at
trees_head empty h m = absurd (no_times h m)
trees_head moved h m = absurd (no_times h m)
trees_head bad h m = absurd (no_times h m)
trees_head (list a) h m = absurd (no_times h m)
trees_head (tree a) h m = times_cases h a [] m (λ e. ap tree (sym e)) (λ n. absurd (no_times h n))

module _ (s : Set) (fit : Fit s) (acc : Accepted s) where
  WordPlace : ℕ → Type 0
  WordPlace p = (k : ℕ) × (i : ℕ) × BinThere s k i × (bins_before s.lengths k + i ≡ p)

  word_there : (p : ℕ) → p < length s.bins → WordPlace p
  unfolding WordPlace
  word_there p b =
      let q = begins_there s.lengths (tables_of s) p (omega (arith, fit.all)) in
      (q.0, q.1, record { table = q.2; index = q.3 }, q.4)

  module _ (make : ℕ → Bin) (heads : (k i l j a : ℕ) → BinThere s k i → BinThere s l j → bin_at s k i ≡ make a → bin_at s l j ≡ make a
      → (k ≡ l) × (i ≡ j)) where
    words_once : (p q h : ℕ) → p < length s.bins → q < length s.bins → word_bin s p ≡ make h → word_bin s q ≡ make h → p ≡ q
    unfolding WordPlace
    words_once p q h b c e f =
        let u = word_there p b in
        let v = word_there q c in
        let r = heads u.0 u.1 v.0 v.1 h u.2 v.2 (ap (word_bin s) u.3 ∙ e) (ap (word_bin s) v.3 ∙ f) in
        cc (r.0, r.1, u.3, v.3)

  pub lists_most : over_bins s is_list ≤ 4096
  lists_most =
      let e = over_row s fit is_list in
      let f = tally_same (length s.bins) (λ p. length (list_at (word_bin s p))) (λ p. is_list (word_bin s p))
      (λ p b. lists_are (word_bin s p)) in
      let l = places_most (λ p. list_at (word_bin s p)) (length s.bins) (slots_of s.names)
      (λ p h. lists_once (word_bin s p) h)
      (λ p h b m. (((set-claims.judged.ranges _ _ (get_or s.bins p 0)).lists h).0 (lists_head (word_bin s p) h m)).3)
      (λ p q h b c m n. words_once list acc.heads.lists p q h b c (lists_head (word_bin s p) h m) (lists_head (word_bin s q) h n)) in
      omega (arith, slots_most s fit)

  pub trees_most : over_bins s is_tree ≤ 4096
  trees_most =
      let e = over_row s fit is_tree in
      let f = tally_same (length s.bins) (λ p. length (tree_at (word_bin s p))) (λ p. is_tree (word_bin s p))
      (λ p b. trees_are (word_bin s p)) in
      let l = places_most (λ p. tree_at (word_bin s p)) (length s.bins) (headers_in s)
      (λ p h. trees_once (word_bin s p) h)
      (λ p h b m. (((set-claims.judged.ranges _ _ (get_or s.bins p 0)).trees h).0 (trees_head (word_bin s p) h m)).3)
      (λ p q h b c m n. words_once tree acc.heads.trees p q h b c (trees_head (word_bin s p) h m) (trees_head (word_bin s q) h n)) in
      let three = fit.three in
      let most = fit.headers_most in
      omega arith
