-- What an accepted set adds, word by word: the model's share is the rules' sums, within its limit, and its rows agree.
use mathlib.Core.Path.{◌≡◌, refl, ap, sym, ◌∙◌}
use mathlib.Core.Logic.{◌≢◌}
use mathlib.Core.Bool.{Bool, true, false}
use mathlib.Core.List.{List}
use Prim.Native.Nat.{ℕ, suc, ◌+◌, ◌-◌, ◌*◌, ◌<◌, ◌≤◌}
use native.Mathlib.Decide.{ℕ_discrete, dec_le}
use native.Mathlib.Omega.{arith}
use native.Mathlib.Nat.{mul-zero, mul_left_comm}
use lib.ListN.{length}
use lib.Dec.{eqb, leb}
use borrow.Author.Tests.{ne_eqb, le-leb, lt-leb}
use Rattle.slots.specs.Words.{pick, state, free, cell}
use Rattle.tree_rules.specs.Find.{slots_of}
use Rattle.tree_rules.specs.Chain.{tally}
use Rattle.tree_rules.proofs.Counting.{hit, hit_same, hit_other, tally-zero, tally_most, tally_same}
use Rattle.index_rules.specs.Sound.{used}
use Rattle.set_rules.specs.Words.{Set, Fit, Bin, word_bin}
use Rattle.set_rules.specs.Accepted.{Accepted}
use Rattle.figure_rules.specs.Totals.{most_added}
use Rattle.figure_rules.specs.Added.{looks_of, is_list, is_tree, over_entries, over_bins}
use Rattle.figure_rules.specs.Tally.{row_word, slot_looks}
use Rattle.figure_rules.proofs.Sums.{hit-times, hit_none, hit_most, tally_bound, tally-at, tally_swap, tally_scaled}
use Rattle.figure_rules.proofs.Adding.{row_low, row_high, row_range, entry_share, slot_share, bin_share, share}
use Rattle.figure_rules.proofs.Finding.{looks_are, slots_most, looks_most, used_looks}
use Rattle.figure_rules.proofs.Heads.{over_row, lists_most, trees_most}

-- What an entry of k looks adds to each word.
entry_low : (k j : ℕ) → j < 5 → j ≢ 2 → entry_share k j ≡ 0
entry_low k j l d =
    let r = (row_range k).0 in
    omega (arith, hit_other {k = j} {i = 2} d, hit_none k {a = j} {b = 5} (omega arith), hit_other {k = j} {i = row_word k} (omega arith))

entry_two : (k : ℕ) → entry_share k 2 ≡ 1
entry_two k =
    let r = (row_range k).0 in
    omega (arith, hit_none k {a = 2} {b = 5} (omega arith), hit_other {k = 2} {i = row_word k} (omega arith))

-- The row of an entry that is found, counted from 0.
record RowOf (k : ℕ) : Type 0 where
  index : ℕ
  range : index < 33
  is : row_word k ≡ 6 + index
  least : suc index ≤ k

row_of : (k : ℕ) → 1 ≤ k → RowOf k
row_of k l = go (dec_le k 32)
  where
    go : Dec (k ≤ 32) → RowOf k
    go (yes m) = record { index = k - 1; range = omega arith; is = omega (arith, row_low k m); least = omega arith }
    go (no m) = record { index = 32; range = omega arith; is = row_high k (omega arith); least = omega arith }

entry_looks : (k : ℕ) → 1 ≤ k → entry_share k 5 ≡ k
entry_looks k l =
    let e = (row_of k l).is in omega (arith, hit-times k {a = 5} {b = 5} refl, hit_other {k = 5} {i = row_word k} (omega arith))

entry_high : (k j : ℕ) → 6 ≤ j → entry_share k j ≡ hit j (row_word k)
entry_high k j l = omega (arith, hit_other {k = j} {i = 2} (omega arith), hit_none k {a = j} {b = 5} (omega arith))

entry_row : (k i : ℕ) → 1 ≤ k → 1 ≤ i → i ≤ 32 → entry_share k (5 + i) ≡ hit k i
entry_row k i l m n = entry_high k (5 + i) (omega arith) ∙ go (dec_le k 32) (ℕ_discrete k i)
  where
    go : Dec (k ≤ 32) → Dec (k ≡ i) → hit (5 + i) (row_word k) ≡ hit k i
    go (yes h) (yes z) = hit_same {k = 5 + i} {i = row_word k} (omega (arith, row_low k h)) ∙ sym (hit_same {k = k} z)
    go (yes h) (no d) = hit_other {k = 5 + i} {i = row_word k} (omega (arith, row_low k h)) ∙ sym (hit_other {k = k} d)
    go (no h) (yes z) = absurd (omega arith)
    go (no h) (no d) = hit_other {k = 5 + i} {i = row_word k} (omega (arith, row_high k (omega arith))) ∙ sym (hit_other {k = k} d)

entry_last : (k : ℕ) → 1 ≤ k → entry_share k 38 ≡ pick (leb 33 k) 1 0
entry_last k l = entry_high k 38 (omega arith) ∙ go (dec_le k 32)
  where
    go : Dec (k ≤ 32) → hit 38 (row_word k) ≡ pick (leb 33 k) 1 0
    go (yes h) = rw (lt-leb 33 k (omega arith)) (hit_other {k = 38} {i = row_word k} (omega (arith, row_low k h)))
    go (no h) = rw (le-leb 33 k (omega arith)) (hit_same {k = 38} {i = row_word k} (sym (row_high k (omega arith))))

-- What is summed over the entries need only be told of used slots.
used_same : (cells : List ℕ) (x m n : ℕ) → (used cells x ≡ 1 → m ≡ n) → used cells x * m ≡ used cells x * n
used_same cells x m n h = go (eqb (cell cells x state) free) h
  where
    go : (b : Bool) → (◌≡◌ {A = ℕ} (pick b 0 1) 1 → m ≡ n) → pick b 0 1 * m ≡ pick b 0 1 * n
    go true h = omega arith
    go false h = omega (arith, h refl)

used_less : (cells : List ℕ) (x m n : ℕ) → (used cells x ≡ 1 → m ≤ n) → used cells x * m ≤ used cells x * n
used_less cells x m n h = go (eqb (cell cells x state) free) h
  where
    go : (b : Bool) → (◌≡◌ {A = ℕ} (pick b 0 1) 1 → m ≤ n) → pick b 0 1 * m ≤ pick b 0 1 * n
    go true h = omega arith
    go false h = omega (arith, h refl)

used_most : (cells : List ℕ) (x m n : ℕ) → m ≤ n → used cells x * m ≤ n
used_most cells x m n h = go (eqb (cell cells x state) free)
  where
    go : (b : Bool) → pick b 0 1 * m ≤ n
    go true = omega arith
    go false = omega arith

bin_none : (b : Bin) (j : ℕ) → j ≢ 3 → j ≢ 4 → bin_share b j ≡ 0
bin_none b j d e = omega (arith, hit_none (is_list b) {a = j} {b = 3} d, hit_none (is_tree b) {a = j} {b = 4} e)

module _ (s : Set) where
  abbrev n : ℕ
  n = slots_of s.names

  bins_none : (j : ℕ) → j ≢ 3 → j ≢ 4 → tally (length s.bins) (λ p. bin_share (word_bin s p) j) ≡ 0
  bins_none j d e = tally-zero (length s.bins) (λ p. bin_share (word_bin s p) j) (λ p b. bin_none (word_bin s p) j d e)

  slots_none : (j : ℕ) → j < 5 → j ≢ 2 → tally n (slot_share s j) ≡ 0
  slots_none j l d = tally-zero n (slot_share s j) (λ x b. rw (entry_low (slot_looks s x) j l d) (mul-zero (used s.cells x)))

  pub share_sets : share s 0 ≡ 1
  unfolding share
  share_sets = omega (arith, slots_none 0 (omega arith) (omega arith), bins_none 0 (omega arith) (omega arith))

  pub share_refused : share s 1 ≡ 0
  unfolding share
  share_refused = omega (arith, slots_none 1 (omega arith) (omega arith), bins_none 1 (omega arith) (omega arith))

  module _ (fit : Fit s) where
    -- Entries, looks and rows are sums over the slots alone.
    share_slots : (j : ℕ) → 1 ≤ j → j ≢ 3 → j ≢ 4 → share s j ≡ over_entries s (λ x. entry_share (looks_of s x) j)
    unfolding share
    share_slots j l d e =
        let m = tally_same n (slot_share s j) (λ x. used s.cells x * entry_share (looks_of s x) j)
        (λ x b. ap (λ (k : ℕ). used s.cells x * entry_share k j) (looks_are s fit x)) in
        omega (arith, hit_other {k = j} {i = 0} (omega arith), bins_none j d e)

    pub share_entries : share s 2 ≡ over_entries s (λ x. 1)
    share_entries =
        share_slots 2 (omega arith) (omega arith) (omega arith)
        ∙ tally_same n (λ x. used s.cells x * entry_share (looks_of s x) 2) (λ x. used s.cells x * 1)
        (λ x b. ap (λ (m : ℕ). used s.cells x * m) (entry_two (looks_of s x)))

    pub share_lists : share s 3 ≡ over_bins s is_list
    unfolding share
    share_lists =
        let e = tally_same (length s.bins) (λ p. bin_share (word_bin s p) 3) (λ p. is_list (word_bin s p)) (λ p b. omega arith) in
        omega (arith, slots_none 3 (omega arith) (omega arith), over_row s fit is_list)

    pub share_trees : share s 4 ≡ over_bins s is_tree
    unfolding share
    share_trees =
        let e = tally_same (length s.bins) (λ p. bin_share (word_bin s p) 4) (λ p. is_tree (word_bin s p)) (λ p b. omega arith) in
        omega (arith, slots_none 4 (omega arith) (omega arith), over_row s fit is_tree)

    module _ (acc : Accepted s) where
      -- A word that goes by each entry's looks, at least one.
      by_looks : (j : ℕ) (f : ℕ → ℕ) → ((k : ℕ) → 1 ≤ k → entry_share k j ≡ f k)
          → over_entries s (λ x. entry_share (looks_of s x) j) ≡ over_entries s (λ x. f (looks_of s x))
      by_looks j f h =
          tally_same n (λ x. used s.cells x * entry_share (looks_of s x) j) (λ x. used s.cells x * f (looks_of s x))
          (λ x b. used_same s.cells x (entry_share (looks_of s x) j) (f (looks_of s x))
          (λ u. h (looks_of s x) (used_looks s fit acc x b u)))

      pub share_looks : share s 5 ≡ over_entries s (looks_of s)
      share_looks = share_slots 5 (omega arith) (omega arith) (omega arith) ∙ by_looks 5 (λ k. k) entry_looks

      pub share_row : (i : ℕ) → 1 ≤ i → i ≤ 32 → share s (5 + i) ≡ over_entries s (λ x. pick (eqb (looks_of s x) i) 1 0)
      share_row i l m =
          share_slots (5 + i) (omega arith) (omega arith) (omega arith) ∙ by_looks (5 + i) (λ k. hit k i) (λ k h. entry_row k i h l m)

      pub share_last : share s 38 ≡ over_entries s (λ x. pick (leb 33 (looks_of s x)) 1 0)
      share_last = share_slots 38 (omega arith) (omega arith) (omega arith) ∙ by_looks 38 (λ k. pick (leb 33 k) 1 0) entry_last

      high_most : (j : ℕ) → 6 ≤ j → share s j ≤ 4096
      high_most j l =
          let e = share_slots j (omega arith) (omega arith) (omega arith) in
          let b = tally_bound n 1 (λ x. used s.cells x * entry_share (looks_of s x) j)
          (λ x b. used_most s.cells x (entry_share (looks_of s x) j) 1
          (rw (entry_high (looks_of s x) j l) (hit_most j (row_word (looks_of s x))))) in
          omega (arith, slots_most s fit)

      looks_bound : share s 5 ≤ 16777216
      looks_bound =
          let e = share_looks in
          let m = slots_most s fit in
          let b = tally_bound n 4096 (λ x. used s.cells x * looks_of s x)
          (λ x b. used_most s.cells x (looks_of s x) 4096 (omega (arith, looks_most s fit x))) in
          omega arith

      entries_bound : share s 2 ≤ 4096
      entries_bound =
          let e = share_entries in
          let b = tally_bound n 1 (λ x. used s.cells x * 1) (λ x b. used_most s.cells x 1 1 (omega arith)) in
          omega (arith, slots_most s fit)

      -- What a set adds to a word is within its limit.
      pub share_most : (j : ℕ) → 2 ≤ j → share s j ≤ most_added j
      share_most j l = go (ℕ_discrete j 5) (ℕ_discrete j 2) (ℕ_discrete j 3) (ℕ_discrete j 4)
        where
          go : Dec (j ≡ 5) → Dec (j ≡ 2) → Dec (j ≡ 3) → Dec (j ≡ 4) → share s j ≤ most_added j
          go (yes e) a b c = rw e (omega (arith, looks_bound))
          go (no d) (yes e) b c = rw e (omega (arith, entries_bound))
          go (no d) (no a) (yes e) c = rw e (omega (arith, share_lists, lists_most s fit acc))
          go (no d) (no a) (no b) (yes e) = rw e (omega (arith, share_trees, trees_most s fit acc))
          go (no d) (no a) (no b) (no c) = simp (ne_eqb j 5 d) (omega (arith, high_most j (omega arith)))

      -- The rows.
      abbrev in_row : ℕ → ℕ → ℕ
      in_row i x = used s.cells x * hit (6 + i) (row_word (looks_of s x))

      row_is : (i : ℕ) → share s (5 + suc i) ≡ tally n (in_row i)
      row_is i =
          let e : 5 + suc i ≡ 6 + i = omega arith in
          rw e (share_slots (6 + i) (omega arith) (omega arith) (omega arith)
          ∙ tally_same n (λ x. used s.cells x * entry_share (looks_of s x) (6 + i)) (in_row i)
          (λ x b. ap (λ (m : ℕ). used s.cells x * m) (entry_high (looks_of s x) (6 + i) (omega arith))))

      at_row : (k i : ℕ) (r : RowOf k) → hit (6 + i) (row_word k) ≡ hit i r.index
      at_row k i r = ap (hit (6 + i)) r.is ∙ go (ℕ_discrete i r.index)
        where
          go : Dec (i ≡ r.index) → hit (6 + i) (6 + r.index) ≡ hit i r.index
          go (yes e) = hit_same {k = 6 + i} {i = 6 + r.index} (omega arith) ∙ sym (hit_same {k = i} e)
          go (no d) = hit_other {k = 6 + i} {i = 6 + r.index} (omega arith) ∙ sym (hit_other {k = i} d)

      -- A weight for each row: the rows come to the weights of the entries' rows.
      weigh : (w : ℕ → ℕ) (x : ℕ) (r : RowOf (looks_of s x)) → tally 33 (λ i. w i * hit (6 + i) (row_word (looks_of s x))) ≡ w r.index
      weigh w x r =
          tally_same 33 (λ i. w i * hit (6 + i) (row_word (looks_of s x))) (λ i. w i * hit i r.index)
          (λ i b. ap (λ (m : ℕ). w i * m) (at_row (looks_of s x) i r))
          ∙ tally-at 33 w r.index r.range

      weighted_sum : (w : ℕ → ℕ)
          → tally 33 (λ i. w i * share s (5 + suc i))
          ≡ over_entries s (λ x. tally 33 (λ i. w i * hit (6 + i) (row_word (looks_of s x))))
      weighted_sum w =
          tally_same 33 (λ i. w i * share s (5 + suc i)) (λ i. tally n (λ x. w i * in_row i x))
          (λ i b. ap (λ (m : ℕ). w i * m) (row_is i) ∙ sym (tally_scaled n (w i) (in_row i)))
          ∙ tally_swap 33 n (λ i x. w i * in_row i x)
          ∙ tally_same n (λ x. tally 33 (λ i. w i * in_row i x))
          (λ x. used s.cells x * tally 33 (λ i. w i * hit (6 + i) (row_word (looks_of s x))))
          (λ x b.
          tally_same 33 (λ i. w i * in_row i x) (λ i. used s.cells x * (w i * hit (6 + i) (row_word (looks_of s x))))
          (λ i c. mul_left_comm (w i) (used s.cells x) (hit (6 + i) (row_word (looks_of s x))))
          ∙ tally_scaled 33 (used s.cells x) (λ i. w i * hit (6 + i) (row_word (looks_of s x))))

      -- The rows of a set add up to its entries, and weighted to at most its looks.
      pub rows_entries : tally 33 (λ i. share s (5 + suc i)) ≡ share s 2
      rows_entries =
          tally_same 33 (λ i. share s (5 + suc i)) (λ i. 1 * share s (5 + suc i)) (λ i b. omega arith)
          ∙ weighted_sum (λ i. 1)
          ∙ tally_same n (λ x. used s.cells x * tally 33 (λ i. 1 * hit (6 + i) (row_word (looks_of s x)))) (λ x. used s.cells x * 1)
          (λ x b.
          used_same s.cells x (tally 33 (λ i. 1 * hit (6 + i) (row_word (looks_of s x)))) 1
          (λ u. weigh (λ i. 1) x (row_of (looks_of s x) (used_looks s fit acc x b u))))
          ∙ sym share_entries

      pub rows_looks : tally 33 (λ i. suc i * share s (5 + suc i)) ≤ share s 5
      rows_looks =
          let e = weighted_sum (λ i. suc i) in
          let f = share_looks in
          let m = tally_most n (λ x. used s.cells x * tally 33 (λ i. suc i * hit (6 + i) (row_word (looks_of s x))))
          (λ x. used s.cells x * looks_of s x)
          (λ x b.
          used_less s.cells x (tally 33 (λ i. suc i * hit (6 + i) (row_word (looks_of s x)))) (looks_of s x)
          (λ u.
          let r = row_of (looks_of s x) (used_looks s fit acc x b u) in
          omega (arith, weigh (λ i. suc i) x r, r.least))) in
          omega arith
