-- Loading what was saved gives the set back.
-- Parts: what the loader holds after so many sections; the numbers of a file are bytes; an accepted set may be loaded; its words are as
-- small as their bytes; slice by slice they come back, with zeros behind them; the whole load.
use mathlib.Core.Path.{◌≡◌, refl, ap, sym, ◌∙◌}
use mathlib.Core.Bool.{true}
use mathlib.Core.List.{List, [], ◌∷◌, ◌++◌}
use Prim.Native.Nat.{ℕ, zero, suc, ◌+◌, ◌-◌, ◌*◌, ◌/◌, ◌%◌, ◌^◌, ◌<◌, ◌≤◌}
use native.Mathlib.Decide.{ℕ_discrete}
use native.Mathlib.Omega.{arith}
use lib.ListN.{length, get_or, set, take, replicate, length-set}
use lib.Seq.{take_at, length-take-le, get_or-take, ext_get_or}
use Rattle.slots.specs.Words.{null, cell}
use Rattle.slots.specs.Answers.{given}
use Rattle.endian.specs.Bytes.{Bytes, nothing, little, words_bytes}
use Rattle.endian.proofs.Endian.{little_bytes}
use Rattle.tree_rules.specs.Find.{slots_of}
use Rattle.upload_rules.specs.Reader.{Note}
use Rattle.upload_rules.proofs.Cutting.{bytes_append}
use Rattle.set_rules.specs.Words.{Set, lent_set, tables_of, headers_in, Fit, fits, length_at, bins_before}
use Rattle.set_rules.specs.Accepted.{Accepted}
use Rattle.set_rules.specs.Accepting.{accepted}
use Rattle.set_rules.proofs.Fit.{fit_fits}
use Rattle.set_rules.proofs.Accepting.{accepted_yes}
use Rattle.file_rules.specs.File.{Wide, slot_bytes, slots_bytes, set_section, set_front, set_bytes, counts_in}
use Rattle.file_rules.specs.Layout.{Slice, ofLengths, ofBins, ofHeads, ofNames, ofCells, slice_in, slot_width, slot_field, field_of}
use Rattle.file_rules.specs.Layout.{section_words, field_in}
use Rattle.file_rules.specs.Loader.{Loader, loader_of, new_loader, note_in, taken_of}
use Rattle.file_rules.specs.Loading.{Loading, loading, load_outcome, may_count, bytes_loaded}
use Rattle.file_rules.specs.Loading.{cut_out, rest_zeroed, rests_zeroed, end_judged}
use Rattle.file_rules.specs.Loading.{end_loaded, load_whole}
use Rattle.file_rules.specs.Faults.{Larger, Loadable, MayHold}
use Rattle.file_rules.specs.Left.{padding, padded}
use Rattle.file_rules.proofs.Counting.{may_both, allowed_may, may_alike}
use Rattle.file_rules.proofs.Ranges.{end_open}
use Rattle.file_rules.proofs.Testing.{by_four, answered_by}
use Rattle.file_rules.proofs.Written.{fields_bytes, begun_bytes, wholes_bytes}
use Rattle.file_rules.proofs.Spelling.{slot_word, set_bytes_lem}
use Rattle.file_rules.proofs.CutOut.{whole_is, came_taken}
use Rattle.file_rules.proofs.Bringing.{bytes_loaded_append, between_words, filled_in, Small, run_section, filled_long, filled_own}
use Rattle.file_rules.proofs.Bringing.{filled-other}

-- The counts that have come after s sections, and the slices.
unfoldable pub up_to : List ℕ → ℕ → List ℕ
up_to cs zero = 0 ∷ (0 ∷ (0 ∷ (0 ∷ [])))
up_to cs (suc s) = set (up_to cs s) s (get_or cs s 0)

unfoldable pub filled_to : Set → Set → List ℕ → ℕ → Set
filled_to t u cs zero = t
filled_to t u cs (suc s) = filled_in (filled_to t u cs s) u s (section_words s (get_or cs s 0))

-- The counts may be taken, and the words are as small as their bytes.
pub record FairSet (t u : Set) (cs : List ℕ) : Type 0 where
  pub counts : (s : ℕ) → s < 4 → may_count t s (get_or cs s 0) ≡ true
  pub numbers : (s : ℕ) → s < 4 → get_or cs s 0 < 4294967296
  pub words : (s : ℕ) → s < 4 → Small u s (section_words s (get_or cs s 0))

module _ (t u : Set) (cs : List ℕ) where
  pub to_long : (s : ℕ) (x : Slice) → length (slice_in (filled_to t u cs s) x) ≡ length (slice_in t x)
  unfolding filled_to
  to_long zero x = refl
  to_long (suc s) x = filled_long (filled_to t u cs s) u s (section_words s (get_or cs s 0)) x ∙ to_long s x

  pub upto_long : (s : ℕ) → length (up_to cs s) ≡ 4
  unfolding up_to
  upto_long zero = refl
  upto_long (suc s) = length-set (up_to cs s) s (get_or cs s 0) ∙ upto_long s

  pub to_may : FairSet t u cs → (s : ℕ) → s < 4 → may_count (filled_to t u cs s) s (get_or cs s 0) ≡ true
  to_may h s l =
      may_alike (filled_to t u cs s) t (to_long s) s (get_or cs s 0) ∙ h.counts s l

  pub run_wholes : FairSet t u cs → (s : ℕ) → s ≤ 4
      → bytes_loaded (loading new_loader t) (wholes_bytes cs u s) ≡ loading (between_words s 0 (up_to cs s)) (filled_to t u cs s)
  unfolding wholes_bytes begun_bytes up_to filled_to bytes_loaded
  run_wholes h zero l = refl
  run_wholes h (suc s) l =
      let c = get_or cs s 0 in
      let b = little 4 c ++ fields_bytes u s (section_words s c) in
      bytes_loaded_append (loading new_loader t) (wholes_bytes cs u s) b
      ∙ ap (λ (d : Loading). bytes_loaded d b) (run_wholes h s (omega arith))
      ∙ run_section s c (up_to cs s) (filled_to t u cs s) u (omega arith) (upto_long s) (h.numbers s (omega arith))
      (to_may h s (omega arith))
      (h.words s (omega arith))

  to_own : FairSet t u cs → (s k n : ℕ) → s < n → n ≤ 4 → k < section_words s (get_or cs s 0)
      → field_in (filled_to t u cs n) (field_of s k) ≡ field_in u (field_of s k)
  unfolding filled_to
  to_own h s k zero a b m = absurd (omega arith)
  to_own h s k (suc n) a b m = go (ℕ_discrete s n) (λ l. to_own h s k n l (omega arith) m)
    where
      go : Dec (s ≡ n) → (s < n → field_in (filled_to t u cs n) (field_of s k) ≡ field_in u (field_of s k))
          → field_in (filled_in (filled_to t u cs n) u n (section_words n (get_or cs n 0))) (field_of s k) ≡ field_in u (field_of s k)
      go (yes e) before =
          let c = get_or cs n 0 in
          let held = (may_both (filled_to t u cs n) n c (to_may h n (omega arith))).1 in
          rw e (filled_own (filled_to t u cs n) u n c (omega arith) held (section_words n c) (omega arith) k (rw e at m))
      go (no d) before =
          filled-other (filled_to t u cs n) u n (section_words n (get_or cs n 0)) s k (omega arith) (omega arith) (λ z. d (sym z))
          ∙ before (omega arith)

-- A file's numbers are bytes.
words_are_bytes : (l : List ℕ) → Bytes (words_bytes 4 l)
unfolding words_bytes
words_are_bytes [] = nothing
words_are_bytes (x ∷ l) = bytes_append (little_bytes 4 x) (words_are_bytes l)

slots_are_bytes : (s : Set) (n : ℕ) → Bytes (slots_bytes s n)
unfolding slots_bytes slot_bytes
slots_are_bytes s zero = nothing
slots_are_bytes s (suc n) =
    bytes_append (slots_are_bytes s n)
    (bytes_append (little_bytes 8 _) (bytes_append (little_bytes 8 _) (bytes_append (little_bytes 4 _) (bytes_append (little_bytes 1 _)
    (bytes_append (little_bytes 4 _) (bytes_append (little_bytes 4 _) (bytes_append (little_bytes 4 _)
    (bytes_append (little_bytes 4 _) (little_bytes 4 _)))))))))

section_is_bytes : (s : Set) (n : ℕ) → Bytes (set_section s n)
unfolding set_section
section_is_bytes s zero = bytes_append (little_bytes 4 _) (words_are_bytes s.lengths)
section_is_bytes s (suc zero) = bytes_append (little_bytes 4 _) (words_are_bytes s.bins)
section_is_bytes s (suc (suc zero)) = bytes_append (little_bytes 4 _) (words_are_bytes s.heads)
section_is_bytes s (suc (suc (suc n))) = bytes_append (little_bytes 4 _) (slots_are_bytes s (slots_of s.names))

front_is_bytes : (s : Set) (n : ℕ) → Bytes (set_front s n)
unfolding set_front
front_is_bytes s zero = nothing
front_is_bytes s (suc n) = bytes_append (front_is_bytes s n) (section_is_bytes s n)

pub set_are_bytes : (s : Set) → Bytes (set_bytes s)
set_are_bytes s = front_is_bytes s 4

-- A fit set has at most 8,160 bins: the last of t tables has at most 4,096, and the first is the 2^(t-1)th part of it.
pub bins_most : (s : Set) → Fit s → length s.bins ≤ 8160
unfolding bins_before
bins_most s fit = let a = fit.all in let m = fit.most in let l = fit.least in go (tables_of s) refl fit.last a
  where
    go : (t : ℕ) → tables_of s ≡ t → length_at s (t - 1) ≤ 4096 → length s.bins ≡ bins_before s.lengths t → length s.bins ≤ 8160
    go zero e b a = absurd (omega (arith, fit.least))
    go (suc zero) e b a = omega arith
    go (suc (suc zero)) e b a = omega (arith, fit.twice 0 (omega arith))
    go (suc (suc (suc zero))) e b a = omega (arith, fit.twice 0 (omega arith), fit.twice 1 (omega arith))
    go (suc (suc (suc (suc zero)))) e b a =
        omega (arith, fit.twice 0 (omega arith), fit.twice 1 (omega arith), fit.twice 2 (omega arith))
    go (suc (suc (suc (suc (suc zero))))) e b a =
        omega (arith, fit.twice 0 (omega arith), fit.twice 1 (omega arith), fit.twice 2 (omega arith), fit.twice 3 (omega arith))
    go (suc (suc (suc (suc (suc (suc zero)))))) e b a =
        omega (
          arith,
          fit.twice 0 (omega arith),
          fit.twice 1 (omega arith),
          fit.twice 2 (omega arith),
          fit.twice 3 (omega arith),
          fit.twice 4 (omega arith),
        )
    go (suc (suc (suc (suc (suc (suc (suc zero))))))) e b a =
        omega (
          arith,
          fit.twice 0 (omega arith),
          fit.twice 1 (omega arith),
          fit.twice 2 (omega arith),
          fit.twice 3 (omega arith),
          fit.twice 4 (omega arith),
          fit.twice 5 (omega arith),
        )
    go (suc (suc (suc (suc (suc (suc (suc (suc zero)))))))) e b a =
        omega (
          arith,
          fit.twice 0 (omega arith),
          fit.twice 1 (omega arith),
          fit.twice 2 (omega arith),
          fit.twice 3 (omega arith),
          fit.twice 4 (omega arith),
          fit.twice 5 (omega arith),
          fit.twice 6 (omega arith),
        )
    go (suc (suc (suc (suc (suc (suc (suc (suc (suc t))))))))) e b a = absurd (omega (arith, fit.most))

-- An accepted set may be loaded: its states are 0, 1 or 2.
pub accepted_loadable : (s t : Set) → Fit s → Wide s → Accepted s → Larger s t → Loadable t s
accepted_loadable s t fit wide ok room =
    let two = fit.two in
    let seven = fit.seven in
    let three = fit.three in
    let sm = fit.slots_most in
    let hm = fit.headers_most in
    record {
      three = omega arith;
      two = omega arith;
      seven = omega arith;
      tables = fit.most;
      bins = bins_most s fit;
      headers = omega arith;
      slots = omega arith;
      larger = room;
      wide = wide;
      states = λ x l. let k = ok.words.states x l in omega arith;
    }

-- The words of a set that may be loaded are as small as their bytes.
module _ {t s : Set} (may : Loadable t s) where
  slot_small : (i f : ℕ) → i < slots_of s.names → field_in s (slot_field i f) < 256 ^ (slot_field i f).width
  unfolding slot_field slot_width cell
  slot_small i zero l = may.wide.names (2 * i + 0)
  slot_small i (suc zero) l = may.wide.names (2 * i + 1)
  slot_small i (suc (suc zero)) l = may.wide.cells (7 * i + 0)
  slot_small i (suc (suc (suc zero))) l = let k = may.states i l in omega arith
  slot_small i (suc (suc (suc (suc f)))) l = may.wide.cells (7 * i + suc (suc f))

  set-small : (k : ℕ) → k < 4 → Small s k (section_words k (get_or (counts_in s) k 0))
  unfolding field_of section_words
  set-small =
      by_four (λ (k : ℕ). Small s k (section_words k (get_or (counts_in s) k 0))) (λ j l. may.wide.lengths j) (λ j l. may.wide.bins j)
      (λ j l. may.wide.heads j)
      (λ j l. slot_small (j / 9) (j % 9) (omega arith))

module _ (s t : Set) (may : Loadable t s) where
  abbrev cs : List ℕ
  cs = counts_in s

  pub fair_set : FairSet t s cs
  unfolding MayHold
  fair_set =
      let two = may.two in
      let seven = may.seven in
      let three = may.three in
      let sm = may.slots in
      let hm = may.headers in
      let b = may.bins in
      record {
        counts = λ k l. allowed_may t k (get_or cs k 0)
            (by_four (λ (n : ℕ). MayHold t n (get_or cs n 0)) (may.tables, may.larger.lengths) (b, may.larger.bins)
            (omega arith, omega (arith, may.larger.heads))
            (omega arith, (omega (arith, may.larger.names), omega (arith, may.larger.cells)))
            k l);
        numbers = by_four (λ (k : ℕ). get_or cs k 0 < 4294967296) (omega (arith, may.tables)) (omega arith) (omega arith) (omega arith);
        words = set-small may;
      }

  abbrev filled_all : Set
  filled_all = filled_to t s cs 4

  abbrev last : Loader
  last = between_words 4 0 cs

  pub set_runs : bytes_loaded (loading new_loader t) (set_bytes s) ≡ loading last filled_all
  unfolding up_to
  set_runs =
      let three = may.three in
      ap (bytes_loaded (loading new_loader t)) (sym (set_bytes_lem s (omega arith))) ∙ run_wholes t s cs fair_set 4 (omega arith)

  word_back : (k j : ℕ) → k < 4 → j < section_words k (get_or cs k 0) → field_in filled_all (field_of k j) ≡ field_in s (field_of k j)
  word_back k j l m = to_own t s cs fair_set k j 4 l (omega arith) m

  slot_back : (i f : ℕ) → f < 9 → i < slots_of s.names → field_in filled_all (slot_field i f) ≡ field_in s (slot_field i f)
  unfolding section_words
  slot_back i f l m =
      let e = slot_word i f (9 * i + f) refl l in
      ap (field_in filled_all) (sym e) ∙ word_back 3 (9 * i + f) (omega arith) (omega arith) ∙ ap (field_in s) e

  row_back : (d c : ℕ) (l m : List ℕ) → c ≤ length l → length m ≡ c → ((i : ℕ) → i < c → get_or l i d ≡ get_or m i d) → take c l ≡ m
  row_back d c l m k e h =
      let n = length-take-le c l k in
      ext_get_or d (take c l) m (n ∙ sym e) (λ i b. get_or-take c l i d (omega arith) ∙ h i (omega arith))

  name_back : (q f : ℕ) → f < 2 → q < slots_of s.names → get_or filled_all.names (2 * q + f) 0 ≡ get_or s.names (2 * q + f) 0
  unfolding slot_field
  name_back q zero l m = slot_back q 0 (omega arith) m
  name_back q (suc zero) l m = slot_back q 1 (omega arith) m
  name_back q (suc (suc f)) l m = absurd (omega arith)

  cell_back : (q f : ℕ) → f < 7 → q < slots_of s.names → get_or filled_all.cells (7 * q + f) null ≡ get_or s.cells (7 * q + f) null
  unfolding slot_field
  cell_back q f l m = slot_back q (suc (suc f)) (omega arith) m

  lengths_back : take (tables_of s) filled_all.lengths ≡ s.lengths
  unfolding field_of section_words
  lengths_back =
      row_back 0 (tables_of s) filled_all.lengths s.lengths (omega (arith, to_long t s cs 4 ofLengths, may.larger.lengths)) refl
      (λ i b. word_back 0 i (omega arith) b)

  bins_back : take (length s.bins) filled_all.bins ≡ s.bins
  unfolding field_of section_words
  bins_back =
      row_back 0 (length s.bins) filled_all.bins s.bins (omega (arith, to_long t s cs 4 ofBins, may.larger.bins)) refl
      (λ i b. word_back 1 i (omega arith) b)

  heads_back : take (3 * headers_in s) filled_all.heads ≡ s.heads
  unfolding field_of section_words
  heads_back =
      let three = may.three in
      row_back null (3 * headers_in s) filled_all.heads s.heads (omega (arith, to_long t s cs 4 ofHeads, may.larger.heads))
      (omega arith)
      (λ i b. word_back 2 i (omega arith) b)

  names_back : take (2 * slots_of s.names) filled_all.names ≡ s.names
  names_back =
      let two = may.two in
      row_back 0 (2 * slots_of s.names) filled_all.names s.names (omega (arith, to_long t s cs 4 ofNames, may.larger.names))
      (omega arith)
      (λ i b. let e : 2 * (i / 2) + i % 2 ≡ i = omega arith in rw e at (name_back (i / 2) (i % 2) (omega arith) (omega arith)))

  cells_back : take (7 * slots_of s.names) filled_all.cells ≡ s.cells
  cells_back =
      let two = may.two in
      let seven = may.seven in
      row_back null (7 * slots_of s.names) filled_all.cells s.cells (omega (arith, to_long t s cs 4 ofCells, may.larger.cells))
      (omega arith)
      (λ i b. let e : 7 * (i / 7) + i % 7 ≡ i = omega arith in rw e at (cell_back (i / 7) (i % 7) (omega arith) (omega arith)))

  pub cut_back : cut_out last filled_all ≡ s
  unfolding cut_out
  cut_back = λ i. lent_set (lengths_back i) (bins_back i) (heads_back i) (names_back i) (cells_back i)

  -- Each slice is the set's words and zeros.
  rest_back_lem : (c : ℕ) (l m k : List ℕ) → take c l ≡ m → length l ≡ length k → length m ≡ c → rest_zeroed c l ≡ padding m k
  rest_back_lem c l m k e f g = λ i. e i ++ replicate (f i - sym g i) 0

  rests_back : rests_zeroed last filled_all ≡ padded s t
  unfolding rests_zeroed padded
  rests_back =
      let two = may.two in
      let seven = may.seven in
      let three = may.three in
      let a = rest_back_lem (tables_of s) filled_all.lengths s.lengths t.lengths lengths_back (to_long t s cs 4 ofLengths) refl in
      let b = rest_back_lem (length s.bins) filled_all.bins s.bins t.bins bins_back (to_long t s cs 4 ofBins) refl in
      let c = rest_back_lem (3 * headers_in s) filled_all.heads s.heads t.heads heads_back (to_long t s cs 4 ofHeads) (omega arith) in
      let d =
      rest_back_lem (2 * slots_of s.names) filled_all.names s.names t.names names_back (to_long t s cs 4 ofNames) (omega arith) in
      let e =
      rest_back_lem (7 * slots_of s.names) filled_all.cells s.cells t.cells cells_back (to_long t s cs 4 ofCells) (omega arith) in
      λ i. lent_set (a i) (b i) (c i) (d i) (e i)

  -- The set that the counts cut out of its own words and zeros.
  pub padded_cut : (n : Note) → cut_out (loader_of 4 0 0 cs n) (padded s t) ≡ s
  unfolding cut_out padded
  padded_cut n =
      let two = may.two in
      let seven = may.seven in
      let three = may.three in
      let one : (k : ℕ) (l m : List ℕ) → length l ≡ k → take k (padding l m) ≡ l =
      λ k l m e. take_at l (replicate (length m - length l) 0) k e in
      λ i. lent_set (one (tables_of s) s.lengths t.lengths refl i) (one (length s.bins) s.bins t.bins refl i)
      (one (3 * headers_in s) s.heads t.heads (omega arith) i)
      (one (2 * slots_of s.names) s.names t.names (omega arith) i)
      (one (7 * slots_of s.names) s.cells t.cells (omega arith) i)

module _ (s t : Set) (may : Loadable t s) (fit : Fit s) (ok : Accepted s) where
  abbrev end : Loader
  end = between_words 4 0 (counts_in s)

  abbrev full : Set
  full = filled_to t s (counts_in s) 4

  ends : end_judged end full ≡ loading (note_in end (given (taken_of end))) (padded s t)
  unfolding end_judged
  ends =
      let f : fits (cut_out end full) ≡ true = ap fits (cut_back s t may) ∙ fit_fits fit in
      let g : accepted (cut_out end full) ≡ true = ap accepted (cut_back s t may) ∙ accepted_yes fit ok in
      rw (f, g) (ap (λ (x : Set). loading (note_in end (given (taken_of end))) x) (rests_back s t may))

  came_back : end_loaded (bytes_loaded (loading new_loader t) (set_bytes s)) ≡ loading (note_in end (given (taken_of end))) (padded s t)
  came_back = ap end_loaded (set_runs s t may) ∙ end_open (loading end full) refl ∙ ends

  taken_back_lem : taken_of end ≡ length (set_bytes s)
  taken_back_lem =
      let r = set_runs s t may in
      ap (λ (d : Loading). taken_of d.loader) (sym r)
      ∙ came_taken t (set_bytes s) (set_are_bytes s) (ap (λ (d : Loading). d.loader.note) r)

  pub returned : load_whole t (set_bytes s)
      ≡ load_outcome (given (length (set_bytes s))) (loading (note_in end (given (length (set_bytes s)))) (padded s t))
  returned =
      whole_is t (set_bytes s) (set_are_bytes s) ∙ ap answered_by came_back
      ∙ ap (λ (n : ℕ). load_outcome (given n) (loading (note_in end (given n)) (padded s t))) taken_back_lem
