-- Up to a million sets the figures are the totals and no set came after; a set more is told, and the totals stay.
use mathlib.Core.Path.{◌≡◌, refl, ap, sym, ◌∙◌}
use mathlib.Core.Bool.{Bool, true, false}
use mathlib.Core.List.{List, [], ◌∷◌, ◌++◌}
use Prim.Native.Nat.{ℕ, suc, ◌+◌, ◌<◌, ◌≤◌}
use native.Mathlib.Omega.{arith}
use lib.ListN.{length}
use lib.Dec.{eqb}
use borrow.Author.Tests.{ne_eqb}
use Rattle.slots.specs.Words.{pick}
use Rattle.set_rules.specs.Words.{Set}
use Rattle.figure_rules.specs.Totals.{counted_in, most_sets, FitTotals, no_totals}
use Rattle.figure_rules.specs.Added.{Sifted, Week, Reordered, nothing, keep, swap, then}
use Rattle.figure_rules.specs.Tally.{TallyOutcome, tallies, all_tallied}
use Rattle.figure_rules.specs.Stream.{no_set, Figures, figures, no_figures, with_set, with_sets, figures_of}
use Rattle.figure_rules.specs.Input.{blocks, Files, file_sets, CutShort}
use Rattle.figure_rules.proofs.Tallying.{TallyWay, unfit_way, many_way, taken_way, turned_way, tally_way, counts_one, counts_fit}
use Rattle.figure_rules.proofs.Ordering.{ordered, week, no_fit, no_word, all_fit, all_counted}
use Rattle.figure_rules.proofs.Streaming.{whole_figures, cut_figures}

module _ (s : Set) (t : List ℕ) (o : Bool) (f : FitTotals t) where
  counts_past : most_sets ≤ counted_in t → with_set (figures t o) s ≡ figures t true
  unfolding with_set
  counts_past l = go (tallies s t) (tally_way s t)
    where
      go : (r : TallyOutcome) → TallyWay s t r → figures r.totals (pick (eqb r.answer.number 17) true o) ≡ figures t true
      go _ (unfit_way n) = absurd (n f)
      go _ (many_way g c) = refl
      go _ (taken_way g m h a) = absurd (omega arith)
      go _ (turned_way g m n w) = absurd (omega arith)

  counts_plain : counted_in t < most_sets → with_set (figures t o) s ≡ figures (tallies s t).totals o
  unfolding with_set
  counts_plain l =
      ap (λ (b : Bool). figures (tallies s t).totals (pick b true o))
      (ne_eqb (tallies s t).answer.number 17 (go (tallies s t) (tally_way s t)))
    where
      go : (r : TallyOutcome) → TallyWay s t r → r.answer.number ≡ 17 → ⊥
      go _ (unfit_way n) e = n f
      go _ (many_way g c) e = omega arith
      go _ (taken_way g m h a) e = omega arith
      go _ (turned_way g m n o) e = omega arith

pub all_figures : (l : List Set) (t : List ℕ) (o : Bool) → FitTotals t → counted_in t + length l ≤ most_sets
    → with_sets (figures t o) l ≡ figures (all_tallied t l) o
unfolding with_sets all_tallied
all_figures [] t o f b = refl
all_figures (s ∷ l) t o f b =
    let e = counts_one s t f (omega arith) in
    ap (λ (x : Figures). with_sets x l) (counts_plain s t o f (omega arith))
    ∙ all_figures l (tallies s t).totals o (counts_fit s t f) (omega arith)

-- A million counted, the totals stay.
past : (l : List Set) (t : List ℕ) → FitTotals t → most_sets ≤ counted_in t → with_sets (figures t true) l ≡ figures t true
unfolding with_sets
past [] t f b = refl
past (s ∷ l) t f b = ap (λ (x : Figures). with_sets x l) (counts_past s t true f b) ∙ past l t f b

counts_append : (f : Figures) (l m : List Set) → with_sets f (l ++ m) ≡ with_sets (with_sets f l) m
unfolding with_sets
counts_append f [] m = refl
counts_append f (s ∷ l) m = counts_append (with_set f s) l m

-- A million sets, and then one or more.
pub past_million : (l m : List Set) → length l ≡ most_sets → 1 ≤ length m
    → with_sets no_figures (l ++ m) ≡ figures (all_tallied no_totals l) true
unfolding with_sets
past_million l [] e h = absurd (omega arith)
past_million l (s ∷ m) e h =
    let f = all_fit l no_totals no_fit in
    let z : counted_in no_totals + length l ≤ most_sets = omega (arith, no_word 0, no_word 1) in
    let c : most_sets ≤ counted_in (all_tallied no_totals l) = omega (arith, all_counted l no_totals no_fit z, no_word 0, no_word 1) in
    counts_append no_figures l (s ∷ m) ∙ ap (λ (x : Figures). with_sets x (s ∷ m)) (all_figures l no_totals false no_fit z)
    ∙ ap (λ (x : Figures). with_sets x m) (counts_past s (all_tallied no_totals l) false f c) ∙ past m (all_tallied no_totals l) f c

pub up_to_million : (l : List Set) → length l ≤ most_sets → with_sets no_figures l ≡ figures (all_tallied no_totals l) false
up_to_million l b = all_figures l no_totals false no_fit (omega (arith, no_word 0, no_word 1))

-- Files in another order.
order_files : {l m : List (List ℕ)} → Reordered l m → Files l → Files m
order_files nothing fs = fs
order_files (keep r) (Files.one_more_lem k b fs) = Files.one_more_lem k b (order_files r fs)
order_files swap (Files.one_more_lem k b (Files.one_more_lem j c fs)) = Files.one_more_lem j c (Files.one_more_lem k b fs)
order_files (then r q) fs = order_files q (order_files r fs)

order_sets : {l m : List (List ℕ)} → Reordered l m → Reordered (file_sets l) (file_sets m)
unfolding file_sets
order_sets nothing = nothing
order_sets (keep r) = keep (order_sets r)
order_sets swap = swap
order_sets (then r q) = then (order_sets r) (order_sets q)

order_many : {l m : List (List ℕ)} → Reordered l m → length l ≡ length m
order_many nothing = refl
order_many (keep r) = ap suc (order_many r)
order_many swap = refl
order_many (then r q) = order_many r ∙ order_many q

sets_many : (l : List (List ℕ)) → length (file_sets l) ≡ length l
unfolding file_sets
sets_many [] = refl
sets_many (a ∷ l) = ap suc (sets_many l)

-- The totals of files.
pub file_words : (ls : List (List ℕ)) → Files ls → length ls ≤ most_sets → {a : List Set} {r : ℕ} → Sifted (file_sets ls) a r
    → Week a r (figures_of (blocks ls)).totals
file_words ls fs b o =
    let l = sets_many ls in
    rw (whole_figures ls fs ∙ up_to_million (file_sets ls) (omega arith)) (week o (omega arith))

order_counts : {l m : List (List ℕ)} → Reordered l m → length l ≤ most_sets
    → with_sets no_figures (file_sets l) ≡ with_sets no_figures (file_sets m)
order_counts {l} {m} r b =
    let e = sets_many l in
    let f = sets_many m in
    let g = order_many r in
    up_to_million (file_sets l) (omega arith)
    ∙ ap (λ (t : List ℕ). figures t false) (ordered (order_sets r) no_totals no_fit (omega (arith, no_word 0, no_word 1)))
    ∙ sym (up_to_million (file_sets m) (omega arith))

pub order_whole : {l m : List (List ℕ)} → Reordered l m → Files l → length l ≤ most_sets → figures_of (blocks l) ≡ figures_of (blocks m)
order_whole {l} {m} r fs b = whole_figures l fs ∙ order_counts r b ∙ sym (whole_figures m (order_files r fs))

pub order_cut : {l m : List (List ℕ)} → Reordered l m → Files l → length l ≤ most_sets → (rest : List ℕ) → CutShort rest
    → figures_of (blocks l ++ rest) ≡ figures_of (blocks m ++ rest)
order_cut {l} {m} r fs b rest c =
    cut_figures l rest fs c ∙ ap (λ (f : Figures). with_set f no_set) (order_counts r b) ∙ sym (cut_figures m rest (order_files r fs) c)

-- A rest that is cut short is one more set.
pub cut_last : (ls : List (List ℕ)) (rest : List ℕ) → Files ls → CutShort rest
    → figures_of (blocks ls ++ rest) ≡ with_sets no_figures (file_sets ls ++ (no_set ∷ []))
unfolding with_sets
cut_last ls rest fs c = cut_figures ls rest fs c ∙ sym (counts_append no_figures (file_sets ls) (no_set ∷ []))
