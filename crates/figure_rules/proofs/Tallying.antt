-- A tally adds to each word what the set's part is, or changes nothing where it is refused: so what is in range stays in range, and rows
-- that agreed agree.
use mathlib.Core.Path.{◌≡◌, refl, ap, sym, ◌∙◌}
use mathlib.Core.Logic.{◌≢◌}
use mathlib.Core.Bool.{Bool, true, false, false≢true}
use mathlib.Core.List.{List}
use Prim.Native.Nat.{ℕ, zero, suc, ◌+◌, ◌-◌, ◌*◌, ◌^◌, ◌<◌, ◌≤◌}
use native.Mathlib.Decide.{ℕ_discrete, dec_le, dec_lt}
use native.Mathlib.Omega.{arith}
use native.Mathlib.Nat.{mul-suc, mul-add, mul-le-mul, le_refl}
use lib.ListN.{length, get_or-eq_default}
use lib.Dec.{eqb, leb}
use borrow.Author.Tests.{eqb-true, eq-eqb, ne_eqb, leb-true, le-leb, ltb-true, ltb-false}
use Rattle.slots.specs.Words.{pick}
use Rattle.slots.specs.Answers.{given, refused}
use Rattle.tree_rules.proofs.Counting.{hit, hit_other, tally-add, tally_same}
use Rattle.index_rules.proofs.Fit.{both, false_of}
use Rattle.index_rules.proofs.Rules.{and}
use Rattle.upload_rules.proofs.Ranges.{pick_by}
use Rattle.set_rules.specs.Words.{Set, Fit, fits}
use Rattle.set_rules.specs.Accepted.{Accepted}
use Rattle.set_rules.specs.Accepting.{accepted}
use Rattle.set_rules.proofs.Accepting.{yes_accepted, accepted_yes}
use Rattle.set_rules.proofs.Claims.{claims as set-claims}
use Rattle.figure_rules.specs.Totals.{total_at, sets_in, row_in, counted_in, most_sets, most_added, FitTotals, words_fit, fits_totals}
use Rattle.figure_rules.specs.Totals.{RowsAgree}
use Rattle.figure_rules.specs.Added.{RefusedOnly}
use Rattle.figure_rules.specs.Tally.{with_more, set_tallied, TallyOutcome, tally_outcome, is_taken, tallies}
use Rattle.figure_rules.proofs.Adding.{more_long, more-word, share, set_long, set_word}
use Rattle.figure_rules.proofs.Sharing.{share_sets, share_refused, share_most, rows_entries, rows_looks}

-- The test of the ranges.
within_in : (n : ℕ) (t : List ℕ) → words_fit n t ≡ true → (j : ℕ) → j < n → total_at t (2 + j) ≤ most_added (2 + j) * sets_in t
unfolding words_fit
within_in zero t e j l = absurd (omega arith)
within_in (suc n) t e j l =
    go (ℕ_discrete j n) (both (leb (total_at t (2 + n)) (most_added (2 + n) * sets_in t)) (words_fit n t) e)
    (λ d z. within_in n t z j (omega arith))
  where
    go : Dec (j ≡ n) → (leb (total_at t (2 + n)) (most_added (2 + n) * sets_in t) ≡ true) × (words_fit n t ≡ true)
        → (j ≢ n → words_fit n t ≡ true → total_at t (2 + j) ≤ most_added (2 + j) * sets_in t)
        → total_at t (2 + j) ≤ most_added (2 + j) * sets_in t
    go (yes z) h again = rw z (leb-true (total_at t (2 + n)) (most_added (2 + n) * sets_in t) h.0)
    go (no d) h again = again d h.1

in_within : (n : ℕ) (t : List ℕ) → ((j : ℕ) → j < n → total_at t (2 + j) ≤ most_added (2 + j) * sets_in t) → words_fit n t ≡ true
unfolding words_fit
in_within zero t h = refl
in_within (suc n) t h = and (le-leb _ _ (h n (omega arith))) (in_within n t (λ j l. h j (omega arith)))

-- The ranges word by word, as the test asks them.
abbrev WordsIn : List ℕ → Type 0
WordsIn t = (j : ℕ) → 2 ≤ j → j < 39 → total_at t j ≤ most_added j * sets_in t

low_most : (j sets n : ℕ) → j ≢ 5 → n ≤ most_added j * sets → n ≤ 4096 * sets
low_most j sets n d h = rw (ne_eqb j 5 d) at h

most_low : (j sets n : ℕ) → j ≢ 5 → n ≤ 4096 * sets → n ≤ most_added j * sets
most_low j sets n d h = rw (ne_eqb j 5 d) h

ranges_in : {t : List ℕ} → length t ≡ 39 → counted_in t ≤ most_sets → WordsIn t → FitTotals t
ranges_in {t} l c w =
    record {
      long = l;
      counted = c;
      entries = low_most 2 (sets_in t) (total_at t 2) (omega arith) (w 2 (omega arith) (omega arith));
      lists = low_most 3 (sets_in t) (total_at t 3) (omega arith) (w 3 (omega arith) (omega arith));
      trees = low_most 4 (sets_in t) (total_at t 4) (omega arith) (w 4 (omega arith) (omega arith));
      looks = omega (arith, w 5 (omega arith) (omega arith));
      rows = λ i a b. low_most (5 + i) (sets_in t) (total_at t (5 + i)) (omega arith) (w (5 + i) (omega arith) (omega arith));
    }

in_ranges : {t : List ℕ} → FitTotals t → WordsIn t
in_ranges {t} f j l m = go (ℕ_discrete j 2) (ℕ_discrete j 3) (ℕ_discrete j 4) (ℕ_discrete j 5)
  where
    go : Dec (j ≡ 2) → Dec (j ≡ 3) → Dec (j ≡ 4) → Dec (j ≡ 5) → total_at t j ≤ most_added j * sets_in t
    go (yes e) a b c = rw e f.entries
    go (no d) (yes e) b c = rw e f.lists
    go (no d) (no a) (yes e) c = rw e f.trees
    go (no d) (no a) (no b) (yes e) = rw e (omega (arith, f.looks))
    go (no d) (no a) (no b) (no c) =
        let z : 5 + (j - 5) ≡ j = omega arith in
        most_low j (sets_in t) (total_at t j) c (rw z at (f.rows (j - 5) (omega arith) (omega arith)))

pub fit_totals : (t : List ℕ) → fits_totals t ≡ true → FitTotals t
unfolding fits_totals
fit_totals t e =
    let a = both (eqb (length t) 39) _ e in
    let b = both (leb (counted_in t) most_sets) _ a.1 in
    ranges_in (eqb-true (length t) 39 a.0) (leb-true (counted_in t) most_sets b.0)
    (λ j l m. (let z : 2 + (j - 2) ≡ j = omega arith in rw z at (within_in 37 t b.1 (j - 2) (omega arith))))

pub totals_fit : {t : List ℕ} → FitTotals t → fits_totals t ≡ true
unfolding fits_totals
totals_fit {t} f =
    and (eq-eqb (length t) 39 f.long)
    (and (le-leb (counted_in t) most_sets f.counted) (in_within 37 t (λ j l. in_ranges f (2 + j) (omega arith) (omega arith))))

-- The test of the set.
pub taken_is : (s : Set) → is_taken s ≡ true → Fit s × Accepted s
taken_is s e =
    let h = both (fits s) (accepted s) e in
    let f = (set-claims.judged.fitness s).0 h.0 in
    (f, yes_accepted f h.1)

pub is-taken : (s : Set) → Fit s → Accepted s → is_taken s ≡ true
is-taken s f a = and ((set-claims.judged.fitness s).1 f) (accepted_yes f a)

pub not_taken : (s : Set) → (Fit s → Accepted s → ⊥) → is_taken s ≡ false
not_taken s n = false_of (is_taken s) (λ e. (let h = taken_is s e in n h.0 h.1))

pub refused-only : (t : List ℕ) → FitTotals t → RefusedOnly t (with_more t 1 1)
refused-only t f =
    let long = f.long in
    let b : 1 < length t = omega arith in
    record {
      long = more_long t 1 1;
      refused = omega (arith, more-word t 1 1 1 b);
      others = λ j d. omega (arith, more-word t 1 1 j b, hit_other {k = j} {i = 1} d);
    }

pub only-word : {t u : List ℕ} → RefusedOnly t u → (j : ℕ) → total_at u j ≡ total_at t j + hit j 1
only-word {t} {u} o j = go (ℕ_discrete j 1)
  where
    go : Dec (j ≡ 1) → total_at u j ≡ total_at t j + hit j 1
    go (yes e) = rw e o.refused
    go (no d) = omega (arith, o.others j d, hit_other {k = j} d)

-- The four ways of a tally.
pub data TallyWay (s : Set) (t : List ℕ) : TallyOutcome → Type 0 where
  unfit_way : (FitTotals t → ⊥) → TallyWay s t (tally_outcome (refused 1) t)
  many_way : FitTotals t → counted_in t ≡ most_sets → TallyWay s t (tally_outcome (refused 17) t)
  taken_way : FitTotals t → counted_in t < most_sets → Fit s → Accepted s → TallyWay s t (tally_outcome (given 1) (set_tallied s t))
  turned_way : {u : List ℕ} → FitTotals t → counted_in t < most_sets → (Fit s → Accepted s → ⊥) → RefusedOnly t u
      → TallyWay s t (tally_outcome (given 0) u)

pub tally_way : (s : Set) (t : List ℕ) → TallyWay s t (tallies s t)
unfolding tallies
tally_way s t =
    pick_by (TallyWay s t) _ _ _
    (λ e.
    let f = fit_totals t e in
    pick_by (TallyWay s t) _ _ _
    (λ l.
    let m = ltb-true (counted_in t) most_sets l in
    pick_by (TallyWay s t) _ _ _ (λ h. (let g = taken_is s h in taken_way f m g.0 g.1))
    (λ h. turned_way f m (λ g a. false≢true (sym h ∙ is-taken s g a)) (refused-only t f)))
    (λ l. (let m = ltb-false (counted_in t) most_sets l in many_way f (omega (arith, f.counted)))))
    (λ e. unfit_way (λ f. false≢true (sym e ∙ totals_fit f)))

-- What a set that is counted adds to word j, accepted or not.
unfoldable pub counted_share : Set → ℕ → ℕ
counted_share s j = pick (is_taken s) (share s j) (hit j 1)

pub counted_yes : (s : Set) (j : ℕ) → Fit s → Accepted s → counted_share s j ≡ share s j
unfolding counted_share
counted_yes s j f a = rw (is-taken s f a)

pub counted_no : (s : Set) (j : ℕ) → (Fit s → Accepted s → ⊥) → counted_share s j ≡ hit j 1
unfolding counted_share
counted_no s j n = rw (not_taken s n)

module _ (s : Set) (t : List ℕ) (f : FitTotals t) where
  pub counts_word : counted_in t < most_sets → (j : ℕ) → total_at (tallies s t).totals j ≡ total_at t j + counted_share s j
  counts_word l j = go (tallies s t) (tally_way s t)
    where
      go : (r : TallyOutcome) → TallyWay s t r → total_at r.totals j ≡ total_at t j + counted_share s j
      go _ (unfit_way n) = absurd (n f)
      go _ (many_way g e) = absurd (omega arith)
      go _ (taken_way g m h a) = set_word s t j f.long ∙ ap (λ (x : ℕ). total_at t j + x) (sym (counted_yes s j h a))
      go _ (turned_way g m n o) = omega (arith, only-word o j, counted_no s j n)

  counts_long : length (tallies s t).totals ≡ 39
  counts_long = go (tallies s t) (tally_way s t)
    where
      go : (r : TallyOutcome) → TallyWay s t r → length r.totals ≡ 39
      go _ (unfit_way n) = f.long
      go _ (many_way g e) = f.long
      go _ (taken_way g m h a) = set_long s t ∙ f.long
      go _ (turned_way g m n o) = o.long ∙ f.long

  -- One more set is counted.
  pub counts_one : counted_in t < most_sets → counted_in (tallies s t).totals ≡ suc (counted_in t)
  counts_one l = go (tallies s t) (tally_way s t)
    where
      go : (r : TallyOutcome) → TallyWay s t r → counted_in r.totals ≡ suc (counted_in t)
      go _ (unfit_way n) = absurd (n f)
      go _ (many_way g e) = absurd (omega arith)
      go _ (taken_way g m h a) =
          omega (arith, set_word s t 0 f.long, set_word s t 1 f.long, share_sets s, share_refused s)
      go _ (turned_way g m n o) = omega (arith, only-word o 0, only-word o 1)

  -- The ranges stay.
  pub counts_fit : FitTotals (tallies s t).totals
  counts_fit = go (tallies s t) (tally_way s t) counts_long
    where
      go : (r : TallyOutcome) → TallyWay s t r → length r.totals ≡ 39 → FitTotals r.totals
      go _ (unfit_way n) e = f
      go _ (many_way g z) e = f
      go _ (taken_way g m h a) e =
          let z : sets_in (set_tallied s t) ≡ suc (sets_in t) = omega (arith, set_word s t 0 f.long, share_sets s) in
          ranges_in e (omega (arith, set_word s t 0 f.long, set_word s t 1 f.long, share_sets s, share_refused s))
          (λ j l k.
          rw z
          (omega (arith, set_word s t j f.long, in_ranges f j l k, share_most s h a j l, mul-suc (most_added j) (sets_in t))))
      go _ (turned_way {u = u} g m n w) e =
          let z : sets_in u ≡ sets_in t = omega (arith, only-word w 0) in
          ranges_in e (omega (arith, only-word w 0, only-word w 1))
          (λ j l k. rw z (omega (arith, only-word w j, hit_other {k = j} {i = 1} (omega arith), in_ranges f j l k)))

  pub counts_agree : RowsAgree t → RowsAgree (tallies s t).totals
  counts_agree h = go (tallies s t) (tally_way s t)
    where
      go : (r : TallyOutcome) → TallyWay s t r → RowsAgree r.totals
      go _ (unfit_way n) = h
      go _ (many_way g z) = h
      go _ (turned_way {u = u} g m n o) =
          let row : (i : ℕ) → row_in u (suc i) ≡ row_in t (suc i) = λ i. o.others (5 + suc i) (omega arith) in
          record {
            rows = tally_same 33 (λ i. row_in u (suc i)) (λ i. row_in t (suc i)) (λ i c. row i)
                ∙ omega (arith, h.rows, only-word o 2);
            weighted =
                let e = tally_same 33 (λ i. suc i * row_in u (suc i)) (λ i. suc i * row_in t (suc i))
                (λ i c. ap (λ (x : ℕ). suc i * x) (row i)) in
                omega (arith, h.weighted, only-word o 5);
          }
      go _ (taken_way g m p a) =
          let u = set_tallied s t in
          let word : (j : ℕ) → total_at u j ≡ total_at t j + share s j = λ j. set_word s t j f.long in
          record {
            rows =
                let e = tally_same 33 (λ i. row_in u (suc i)) (λ i. row_in t (suc i) + share s (5 + suc i)) (λ i c. word (5 + suc i)) in
                let k = tally-add 33 (λ i. row_in t (suc i)) (λ i. share s (5 + suc i)) in
                omega (arith, h.rows, rows_entries s p a, word 2);
            weighted =
                let e = tally_same 33 (λ i. suc i * row_in u (suc i)) (λ i. suc i * row_in t (suc i) + suc i * share s (5 + suc i))
                (λ i c. ap (λ (x : ℕ). suc i * x) (word (5 + suc i)) ∙ mul-add (suc i) (row_in t (suc i)) (share s (5 + suc i))) in
                let k = tally-add 33 (λ i. suc i * row_in t (suc i)) (λ i. suc i * share s (5 + suc i)) in
                omega (arith, h.weighted, rows_looks s p a, word 5);
          }

-- No word in range is above 4,096 * 4,096 * 1,000,000.
pub word_most : (t : List ℕ) → FitTotals t → (j : ℕ) → total_at t j ≤ 16777216000000
word_most t f j = go (dec_lt j 39) (dec_le 2 j) (ℕ_discrete j 0)
  where
    limits : (b : Bool) → pick b 16777216 4096 ≤ 16777216
    limits true = omega arith
    limits false = omega arith

    go : Dec (j < 39) → Dec (2 ≤ j) → Dec (j ≡ 0) → total_at t j ≤ 16777216000000
    go (no d) a b = rw (get_or-eq_default t 0 {n = j} (omega (arith, f.long))) (omega arith)
    go (yes l) (yes m) b =
        let c = f.counted in
        let k = limits (eqb j 5) in
        let e = mul-le-mul k (le_refl (sets_in t)) in
        omega (arith, in_ranges f j m l)
    go (yes l) (no m) (yes z) = rw z (omega (arith, f.counted))
    go (yes l) (no m) (no d) = let z : j ≡ 1 = omega arith in rw z (omega (arith, f.counted))

pub narrow : (t : List ℕ) → FitTotals t → (j : ℕ) → total_at t j < 2 ^ 64
narrow t f j = omega (arith, word_most t f j)
