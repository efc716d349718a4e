-- Many tallies: each word is what the sets' shares add up to, and a sum does not depend on the order.
use mathlib.Core.Path.{◌≡◌, refl, ap, sym, ◌∙◌}
use mathlib.Core.List.{List, [], ◌∷◌}
use Prim.Native.Nat.{ℕ, suc, ◌+◌, ◌*◌, ◌<◌, ◌≤◌}
use native.Mathlib.Decide.{dec_lt}
use native.Mathlib.Nat.{mul-zero, add-mul}
use native.Mathlib.Omega.{arith}
use lib.ListN.{length, get_or-replicate, get_or-eq_default}
use lib.Seq.{ext_get_or}
use lib.Dec.{eqb, leb}
use Rattle.slots.specs.Words.{pick}
use Rattle.tree_rules.proofs.Counting.{hit, tally-zero}
use Rattle.set_rules.specs.Words.{Set, Fit}
use Rattle.set_rules.specs.Accepted.{Accepted}
use Rattle.figure_rules.specs.Totals.{total_at, row_in, counted_in, most_sets, FitTotals, no_totals, RowsAgree}
use Rattle.figure_rules.specs.Added.{looks_of, is_list, is_tree, over_entries, over_bins, Sifted, over_sets, Week}
use Rattle.figure_rules.specs.Added.{Reordered, nothing, keep, swap, then}
use Rattle.figure_rules.specs.Tally.{tallies, all_tallied}
use Rattle.figure_rules.proofs.Sums.{hit_none}
use Rattle.figure_rules.proofs.Adding.{share}
use Rattle.figure_rules.proofs.Sharing.{share_sets, share_refused, share_entries, share_lists, share_trees, share_looks, share_row}
use Rattle.figure_rules.proofs.Sharing.{share_last}
use Rattle.figure_rules.proofs.Tallying.{counted_share, counted_yes, counted_no, counts_word, counts_one, counts_fit, counts_agree}

pub all_fit : (l : List Set) (t : List ℕ) → FitTotals t → FitTotals (all_tallied t l)
unfolding all_tallied
all_fit [] t f = f
all_fit (s ∷ l) t f = all_fit l (tallies s t).totals (counts_fit s t f)

pub all_agree : (l : List Set) (t : List ℕ) → FitTotals t → RowsAgree t → RowsAgree (all_tallied t l)
unfolding all_tallied
all_agree [] t f a = a
all_agree (s ∷ l) t f a = all_agree l (tallies s t).totals (counts_fit s t f) (counts_agree s t f a)

pub all_counted : (l : List Set) (t : List ℕ) → FitTotals t → counted_in t + length l ≤ most_sets
    → counted_in (all_tallied t l) ≡ counted_in t + length l
unfolding all_tallied
all_counted [] t f b = omega arith
all_counted (s ∷ l) t f b =
    let o = counts_one s t f (omega arith) in
    all_counted l (tallies s t).totals (counts_fit s t f) (omega arith) ∙ omega arith

pub all_word : (l : List Set) (t : List ℕ) → FitTotals t → counted_in t + length l ≤ most_sets → (j : ℕ)
    → total_at (all_tallied t l) j ≡ total_at t j + over_sets l (λ s. counted_share s j)
unfolding all_tallied over_sets
all_word [] t f b j = omega arith
all_word (s ∷ l) t f b j =
    let o = counts_one s t f (omega arith) in
    let w = counts_word s t f (omega arith) j in
    all_word l (tallies s t).totals (counts_fit s t f) (omega arith) j ∙ omega arith

pub order_length : {l m : List Set} → Reordered l m → length l ≡ length m
order_length nothing = refl
order_length (keep r) = ap suc (order_length r)
order_length swap = refl
order_length (then r q) = order_length r ∙ order_length q

order_sum : (f : Set → ℕ) {l m : List Set} → Reordered l m → over_sets l f ≡ over_sets m f
unfolding over_sets
order_sum f nothing = refl
order_sum f (keep {a = a} r) = ap (λ (x : ℕ). f a + x) (order_sum f r)
order_sum f (swap {a = a} {b = b} {l = l}) = omega arith
order_sum f (then r q) = order_sum f r ∙ order_sum f q

-- Up to a million sets in any order give the hit totals.
pub ordered : {l m : List Set} → Reordered l m → (t : List ℕ) → FitTotals t → counted_in t + length l ≤ most_sets
    → all_tallied t l ≡ all_tallied t m
ordered {l} {m} r t f b =
    let e = order_length r in
    let x = (all_fit l t f).long in
    let y = (all_fit m t f).long in
    ext_get_or 0 (all_tallied t l) (all_tallied t m) (x ∙ sym y)
    (λ j k.
    all_word l t f b j ∙ ap (λ (n : ℕ). total_at t j + n) (order_sum (λ s. counted_share s j) r)
    ∙ sym (all_word m t f (omega arith) j))

-- The totals at the start.
pub no_word : (j : ℕ) → total_at no_totals j ≡ 0
no_word j = go (dec_lt j 39)
  where
    go : Dec (j < 39) → total_at no_totals j ≡ 0
    go (yes l) = get_or-replicate 39 j 0 0 l
    go (no d) = get_or-eq_default no_totals 0 {n = j} (omega arith)

pub no_fit : FitTotals no_totals
no_fit =
    record {
      long = refl;
      counted = omega arith;
      entries = omega arith;
      lists = omega arith;
      trees = omega arith;
      looks = omega arith;
      rows = λ i a b. omega (arith, no_word (5 + i));
    }

pub no_agree : RowsAgree no_totals
no_agree =
    record {
      rows = tally-zero 33 (λ i. row_in no_totals (suc i)) (λ i b. no_word (5 + suc i));
      weighted =
          let e = tally-zero 33 (λ i. suc i * row_in no_totals (suc i))
          (λ i b. ap (λ (x : ℕ). suc i * x) (no_word (5 + suc i)) ∙ mul-zero (suc i)) in
          omega arith;
    }

-- The totals over a week.
sifted_share : (j : ℕ) {l a : List Set} {r : ℕ} → Sifted l a r
    → over_sets l (λ s. counted_share s j) ≡ over_sets a (λ s. share s j) + r * hit j 1
unfolding over_sets
sifted_share j Sifted.no_set_lem = omega arith
sifted_share j (Sifted.taken {s = s} f a o) = omega (arith, counted_yes s j f a, sifted_share j o)
sifted_share j (Sifted.left_out {s = s} {r = r} n o) =
    omega (arith, counted_no s j n, sifted_share j o, add-mul r 1 (hit j 1))

sifted_same : (f g : Set → ℕ) → ((s : Set) → Fit s → Accepted s → f s ≡ g s) → {l a : List Set} {r : ℕ} → Sifted l a r
    → over_sets a f ≡ over_sets a g
unfolding over_sets
sifted_same f g h Sifted.no_set_lem = refl
sifted_same f g h (Sifted.taken {s = s} k a o) = omega (arith, h s k a, sifted_same f g h o)
sifted_same f g h (Sifted.left_out n o) = sifted_same f g h o

over_ones : (l : List Set) → over_sets l (λ s. 1) ≡ length l
unfolding over_sets
over_ones [] = refl
over_ones (s ∷ l) = omega (arith, over_ones l)

over_none : (l : List Set) → over_sets l (λ s. 0) ≡ 0
unfolding over_sets
over_none [] = refl
over_none (s ∷ l) = omega (arith, over_none l)

module _ {l a : List Set} {r : ℕ} (o : Sifted l a r) (b : length l ≤ most_sets) where
  abbrev u : List ℕ
  u = all_tallied no_totals l

  week_word : (j : ℕ) → total_at u j ≡ over_sets a (λ s. share s j) + r * hit j 1
  week_word j =
      let n = no_word j in
      let w = all_word l no_totals no_fit (omega (arith, no_word 0, no_word 1)) j in
      omega (arith, sifted_share j o)

  week_other : (j : ℕ) (f : Set → ℕ) → 2 ≤ j → ((s : Set) → Fit s → Accepted s → share s j ≡ f s) → total_at u j ≡ over_sets a f
  week_other j f k h =
      let z = hit_none r {a = j} {b = 1} (omega arith) in
      omega (arith, week_word j, sifted_same (λ s. share s j) f h o)

  pub week : Week a r u
  week =
      record {
        long = (all_fit l no_totals no_fit).long;
        sets = omega (arith, week_word 0, sifted_same (λ s. share s 0) (λ s. 1) (λ s f x. share_sets s) o, over_ones a);
        refused = omega (arith, week_word 1, sifted_same (λ s. share s 1) (λ s. 0) (λ s f x. share_refused s) o, over_none a);
        entries = week_other 2 (λ s. over_entries s (λ x. 1)) (omega arith) (λ s f x. share_entries s f);
        lists = week_other 3 (λ s. over_bins s is_list) (omega arith) (λ s f x. share_lists s f);
        trees = week_other 4 (λ s. over_bins s is_tree) (omega arith) (λ s f x. share_trees s f);
        looks = week_other 5 (λ s. over_entries s (looks_of s)) (omega arith) (λ s f x. share_looks s f x);
        rows = λ i m n.
            week_other (5 + i) (λ s. over_entries s (λ x. pick (eqb (looks_of s x) i) 1 0)) (omega arith) (λ s f x. share_row s f x i m n);
        more = week_other 38 (λ s. over_entries s (λ x. pick (leb 33 (looks_of s x)) 1 0)) (omega arith) (λ s f x. share_last s f x);
      }
