-- The words of the journal after a line is written, appended or cleared: those six words, and no other.
use mathlib.Core.Path.{◌≡◌, refl, ◌∙◌}
use mathlib.Core.Logic.{◌≢◌}
use mathlib.Core.Bool.{true}
use mathlib.Core.List.{List}
use Prim.Native.Nat.{ℕ, zero, suc, ◌+◌, ◌-◌, ◌*◌, ◌<◌, ◌≤◌}
use native.Mathlib.Decide.{dec_lt}
use native.Mathlib.Omega.{arith}
use lib.ListN.{length, get_or, set, length-set}
use lib.Seq.{get_or-set_same, get_or-set_other}
use lib.Dec.{leb}
use borrow.Author.Tests.{eqb-true, leb-true, eq-eqb, le-leb}
use Rattle.slots.specs.Words.{most_lines}
use Rattle.index_rules.specs.Live.{fits}
use Rattle.index_rules.specs.Index.{Index, FitIndex, JournalLine, line_words, whole_lines, fits_journal, fits_index, length_of, lines_of}
use Rattle.index_rules.specs.Index.{at, plain_line, line_word, line_of, lined, appended}
use Rattle.index_rules.specs.Rollback.{blanked}
use Rattle.index_rules.specs.Calls.{OneLine, BackTo}
use Rattle.index_rules.proofs.Fit.{both, fits_fit, fit_fits}
use Rattle.index_rules.proofs.Rules.{and}

-- The test of whole lines.
pub whole_is : (lines : List ℕ) → whole_lines lines ≡ true
    → (lines_of lines ≤ most_lines) × (length lines ≡ 1 + line_words * lines_of lines)
unfolding whole_lines
whole_is lines e =
    let h = both (leb (lines_of lines) most_lines) _ e in
    (leb-true _ _ h.0, eqb-true _ _ h.1)

pub is_whole : (lines : List ℕ) (c : ℕ) → c ≤ most_lines → length lines ≡ 1 + line_words * c → whole_lines lines ≡ true
unfolding whole_lines
is_whole lines c l e =
    let z : lines_of lines ≡ c = omega arith in
    rw z (and (le-leb c most_lines l) (eq-eqb (length lines) (1 + line_words * c) e))

-- The test of the whole index.
pub fits-index : (ix : Index) → fits_index ix ≡ true → FitIndex ix
unfolding fits_index fits_journal
fits-index ix e =
    let h = both (fits ix.live) _ e in
    let j = both (whole_lines ix.lines) _ h.1 in
    let w = whole_is ix.lines j.0 in
    record {
      tree = fits_fit ix.live h.0;
      capacity = lines_of ix.lines;
      most = w.0;
      words = w.1;
      within = leb-true _ _ j.1;
    }

pub lines_capacity : {ix : Index} (f : FitIndex ix) → lines_of ix.lines ≡ f.capacity
lines_capacity f = omega (arith, f.words)

pub index-fits : (ix : Index) → FitIndex ix → fits_index ix ≡ true
unfolding fits_index fits_journal
index-fits ix f =
    and (fit_fits ix.live f.tree)
    (and (is_whole ix.lines f.capacity f.most f.words)
    (le-leb (length_of ix.lines) (lines_of ix.lines) (omega (arith, f.within, lines_capacity f))))

module _ (lines : List ℕ) (k : ℕ) (j : JournalLine) where
  abbrev one : List ℕ
  one = set lines (at k 0) j.kind

  abbrev two : List ℕ
  two = set one (at k 1) j.hash

  abbrev three : List ℕ
  three = set two (at k 2) j.key

  abbrev four : List ℕ
  four = set three (at k 3) j.place

  abbrev five : List ℕ
  five = set four (at k 4) j.prior_hash

  pub lined-length : length (lined lines k j) ≡ length lines
  unfolding lined
  lined-length = simp length-set

  -- A word that is none of the line's stays.
  lined_else : (i : ℕ) → ((f : ℕ) → f < line_words → i ≢ at k f) → get_or (lined lines k j) i 0 ≡ get_or lines i 0
  unfolding lined
  lined_else i d =
      get_or-set_other five (at k 5) i j.prior_key 0 (d 5 (omega arith))
      ∙ get_or-set_other four (at k 4) i j.prior_hash 0 (d 4 (omega arith))
      ∙ get_or-set_other three (at k 3) i j.place 0 (d 3 (omega arith)) ∙ get_or-set_other two (at k 2) i j.key 0 (d 2 (omega arith))
      ∙ get_or-set_other one (at k 1) i j.hash 0 (d 1 (omega arith)) ∙ get_or-set_other lines (at k 0) i j.kind 0 (d 0 (omega arith))

  pub lined-other : (i : ℕ) → i < at k 0 → get_or (lined lines k j) i 0 ≡ get_or lines i 0
  lined-other i l = lined_else i (λ f w. omega arith)

  pub lined_past : (i : ℕ) → at (suc k) 0 ≤ i → get_or (lined lines k j) i 0 ≡ get_or lines i 0
  lined_past i l = lined_else i (λ f w. omega arith)

  -- A write of word f leaves the other words of the line, and is read back.
  off : (l : List ℕ) (f g v : ℕ) → g ≢ f → line_word (set l (at k f) v) k g ≡ line_word l k g
  off l f g v d = get_or-set_other l (at k f) (at k g) v 0 (omega arith)

  on : (l : List ℕ) (f v : ℕ) → length l ≡ length lines → at (suc k) 0 ≤ length lines → f < line_words
      → line_word (set l (at k f) v) k f ≡ v
  on l f v e room w = get_or-set_same l (at k f) v 0 (omega arith)

  pub lined_line : at (suc k) 0 ≤ length lines → line_of (lined lines k j) k ≡ j
  unfolding lined
  lined_line room =
      λ i. record {
        kind =
            (off five 5 0 j.prior_key (omega arith) ∙ off four 4 0 j.prior_hash (omega arith) ∙ off three 3 0 j.place (omega arith)
            ∙ off two 2 0 j.key (omega arith) ∙ off one 1 0 j.hash (omega arith)
            ∙ on lines 0 j.kind refl room (omega arith)) i;
        hash =
            (off five 5 1 j.prior_key (omega arith) ∙ off four 4 1 j.prior_hash (omega arith) ∙ off three 3 1 j.place (omega arith)
            ∙ off two 2 1 j.key (omega arith)
            ∙ on one 1 j.hash (simp length-set) room (omega arith)) i;
        key =
            (off five 5 2 j.prior_key (omega arith) ∙ off four 4 2 j.prior_hash (omega arith) ∙ off three 3 2 j.place (omega arith)
            ∙ on two 2 j.key (simp length-set) room (omega arith)) i;
        place =
            (off five 5 3 j.prior_key (omega arith) ∙ off four 4 3 j.prior_hash (omega arith)
            ∙ on three 3 j.place (simp length-set) room (omega arith)) i;
        prior_hash = (off five 5 4 j.prior_key (omega arith) ∙ on four 4 j.prior_hash (simp length-set) room (omega arith)) i;
        prior_key = on five 5 j.prior_key (simp length-set) room (omega arith) i;
      }

-- A line goes by its words.
pub same_line : (lines lines' : List ℕ) (k : ℕ) → ((i : ℕ) → at k 0 ≤ i → i < at (suc k) 0 → get_or lines' i 0 ≡ get_or lines i 0)
    → line_of lines' k ≡ line_of lines k
same_line lines lines' k h =
    λ i. record {
      kind = h (at k 0) (omega arith) (omega arith) i;
      hash = h (at k 1) (omega arith) (omega arith) i;
      key = h (at k 2) (omega arith) (omega arith) i;
      place = h (at k 3) (omega arith) (omega arith) i;
      prior_hash = h (at k 4) (omega arith) (omega arith) i;
      prior_key = h (at k 5) (omega arith) (omega arith) i;
    }

-- A line more: the length is one more, the lines below are as they were, and this one is the last.
module _ (lines : List ℕ) (j : JournalLine) (room : at (length_of lines + 1) 0 ≤ length lines) where
  appended-word : (i : ℕ) → 0 < i → get_or (appended lines j) i 0 ≡ get_or (lined lines (length_of lines) j) i 0
  unfolding appended
  appended-word i l = get_or-set_other (lined lines (length_of lines) j) 0 i (length_of lines + 1) 0 (omega arith)

  pub one_line : OneLine lines (appended lines j) j
  unfolding appended
  one_line =
      record {
        long = length-set (lined lines (length_of lines) j) 0 (length_of lines + 1) ∙ lined-length lines (length_of lines) j;
        count =
            get_or-set_same (lined lines (length_of lines) j) 0 (length_of lines + 1) 0
            (omega (arith, lined-length lines (length_of lines) j));
        line = same_line (lined lines (length_of lines) j) (appended lines j) (length_of lines) (λ i l h. appended-word i (omega arith))
            ∙ lined_line lines (length_of lines) j (omega arith);
        below = λ i l h. appended-word i l ∙ lined-other lines (length_of lines) j i h;
        past = λ i l. appended-word i (omega arith) ∙ lined_past lines (length_of lines) j i (omega arith);
      }

-- Lines from m on cleared: those words are zero, and no other changes.
pub blanked-length : (c : ℕ) (lines : List ℕ) (m : ℕ) → length (blanked c lines m) ≡ length lines
unfolding blanked
blanked-length zero lines m = refl
blanked-length (suc c) lines m =
    blanked-length c (lined lines (m + c) (plain_line 0 0 0 0)) m ∙ lined-length lines (m + c) (plain_line 0 0 0 0)

pub blanked-below : (c : ℕ) (lines : List ℕ) (m j : ℕ) → j < at m 0 → get_or (blanked c lines m) j 0 ≡ get_or lines j 0
unfolding blanked
blanked-below zero lines m j l = refl
blanked-below (suc c) lines m j l =
    blanked-below c (lined lines (m + c) (plain_line 0 0 0 0)) m j l ∙ lined-other lines (m + c) (plain_line 0 0 0 0) j (omega arith)

pub blanked_past : (c : ℕ) (lines : List ℕ) (m j : ℕ) → at (m + c) 0 ≤ j → get_or (blanked c lines m) j 0 ≡ get_or lines j 0
unfolding blanked
blanked_past zero lines m j l = refl
blanked_past (suc c) lines m j l =
    blanked_past c (lined lines (m + c) (plain_line 0 0 0 0)) m j (omega arith)
    ∙ lined_past lines (m + c) (plain_line 0 0 0 0) j (omega arith)

-- A word of a line is one of six.
nth : (P : ℕ → Type 0) → P 0 → P 1 → P 2 → P 3 → P 4 → P 5 → (f : ℕ) → f < line_words → P f
nth P a b c d e g zero l = a
nth P a b c d e g (suc zero) l = b
nth P a b c d e g (suc (suc zero)) l = c
nth P a b c d e g (suc (suc (suc zero))) l = d
nth P a b c d e g (suc (suc (suc (suc zero)))) l = e
nth P a b c d e g (suc (suc (suc (suc (suc zero))))) l = g
nth P a b c d e g (suc (suc (suc (suc (suc (suc f)))))) l = absurd (omega arith)

-- The words of a line of zeros.
zero_word : (lines : List ℕ) (k f : ℕ) → f < line_words → line_of lines k ≡ plain_line 0 0 0 0 → line_word lines k f ≡ 0
zero_word lines k f l e =
    nth (λ i. line_word lines k i ≡ 0) (λ i. (e i).kind) (λ i. (e i).hash) (λ i. (e i).key) (λ i. (e i).place) (λ i. (e i).prior_hash)
    (λ i. (e i).prior_key) f l

pub blanked-zero : (c : ℕ) (lines : List ℕ) (m i : ℕ) → at (m + c) 0 ≤ length lines → at m 0 ≤ i → i < at (m + c) 0
    → get_or (blanked c lines m) i 0 ≡ 0
unfolding blanked
blanked-zero zero lines m i room a b = absurd (omega arith)
blanked-zero (suc c) lines m i room a b =
    go (dec_lt i (at (m + c) 0))
    (λ l. blanked-zero c (lined lines (m + c) (plain_line 0 0 0 0)) m i
    (omega (arith, lined-length lines (m + c) (plain_line 0 0 0 0))) a l)
  where
    word : (i : ℕ) → at (m + c) 0 ≤ i → i < at (suc (m + c)) 0 → get_or (lined lines (m + c) (plain_line 0 0 0 0)) i 0 ≡ 0
    word i a b =
        let e : at (m + c) (i - at (m + c) 0) ≡ i = omega arith in
        rw e at (zero_word (lined lines (m + c) (plain_line 0 0 0 0)) (m + c) (i - at (m + c) 0) (omega arith)
        (lined_line lines (m + c) (plain_line 0 0 0 0) (omega arith)))

    go : Dec (i < at (m + c) 0) → (i < at (m + c) 0 → get_or (blanked c (lined lines (m + c) (plain_line 0 0 0 0)) m) i 0 ≡ 0)
        → get_or (blanked c (lined lines (m + c) (plain_line 0 0 0 0)) m) i 0 ≡ 0
    go (yes l) rest = rest l
    go (no n) rest = blanked_past c (lined lines (m + c) (plain_line 0 0 0 0)) m i (omega arith) ∙ word i (omega arith) (omega arith)

-- The journal after a rollback to m.
abbrev pub rolled_lines : ℕ → List ℕ → ℕ → List ℕ
rolled_lines c lines m = set (blanked c lines m) 0 m

module _ (c : ℕ) (lines : List ℕ) (m : ℕ) (room : at (m + c) 0 ≤ length lines) where
  pub rolled_length : length (rolled_lines c lines m) ≡ length lines
  rolled_length = length-set (blanked c lines m) 0 m ∙ blanked-length c lines m

  pub rolled_count : length_of (rolled_lines c lines m) ≡ m
  rolled_count = get_or-set_same (blanked c lines m) 0 m 0 (omega (arith, blanked-length c lines m))

  pub rolled_below : (j : ℕ) → 0 < j → j < at m 0 → get_or (rolled_lines c lines m) j 0 ≡ get_or lines j 0
  rolled_below j l h = get_or-set_other (blanked c lines m) 0 j m 0 (omega arith) ∙ blanked-below c lines m j h

  pub rolled_zero : (j : ℕ) → at m 0 ≤ j → j < at (m + c) 0 → get_or (rolled_lines c lines m) j 0 ≡ 0
  rolled_zero j l h = get_or-set_other (blanked c lines m) 0 j m 0 (omega arith) ∙ blanked-zero c lines m j room l h

  pub rolled_past : (j : ℕ) → at (m + c) 0 ≤ j → get_or (rolled_lines c lines m) j 0 ≡ get_or lines j 0
  rolled_past j l = get_or-set_other (blanked c lines m) 0 j m 0 (omega arith) ∙ blanked_past c lines m j l

pub back_to : (lines : List ℕ) (m : ℕ) → m ≤ length_of lines → at (length_of lines) 0 ≤ length lines
    → BackTo m lines (rolled_lines (length_of lines - m) lines m)
back_to lines m l room =
    let e : m + (length_of lines - m) ≡ length_of lines = omega arith in
    let fits : at (m + (length_of lines - m)) 0 ≤ length lines = rw e room in
    record {
      long = rolled_length (length_of lines - m) lines m fits;
      count = rolled_count (length_of lines - m) lines m fits;
      below = rolled_below (length_of lines - m) lines m fits;
      zeros = λ j a b. rolled_zero (length_of lines - m) lines m fits j a (rw e b);
      past = λ j a. rolled_past (length_of lines - m) lines m fits j (rw e a);
    }
