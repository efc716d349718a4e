-- A fresh index is sound and empty: each slot is cleared at its turn and stays so, and the empty tree obeys every rule.
-- Parts: one slot cleared; the slots below k cleared; a tree of blank slots is sound; the test of the lengths; when the call is refused,
-- and what it leaves; that index is fit, sound and empty; all in one law.
use mathlib.Core.Path.{◌≡◌, refl, ap, sym, ◌∙◌}
use mathlib.Core.Logic.{◌≢◌, inl}
use mathlib.Core.Bool.{Bool, true, false}
use mathlib.Core.List.{List, []}
use Prim.Native.Nat.{ℕ, zero, suc, ◌+◌, ◌*◌, ◌/◌, ◌<◌, ◌≤◌}
use native.Mathlib.Decide.{ℕ_discrete, dec_lt}
use native.Mathlib.Omega.{arith}
use lib.ListN.{length, get_or, set, length-set, get_or-eq_default}
use lib.Seq.{get_or-set_same, get_or-set_other}
use lib.Dec.{ltb}
use borrow.Author.Tests.{eq-eqb}
use Rattle.slots.specs.Words.{null, place, state, parent, left, right, prev, next, free, fields, parts, cell, name_of, rename, hash_part}
use Rattle.slots.specs.Words.{key_part}
use Rattle.slots.specs.Answers.{given, refused}
use Rattle.slots.proofs.Laws.{number, cell_same, cell_across, cell_else, roomy-write, length-write}
use Rattle.tree_rules.specs.Tree.{leaf, slots, times, Hangs, Rising, Calm, Meets, end}
use Rattle.tree_rules.specs.Chain.{Chain}
use Rattle.tree_rules.specs.Sizes.{size_word, size_in}
use Rattle.tree_rules.proofs.Counting.{exactly_length}
use Rattle.index_rules.specs.Live.{Live, Fit, fits, root_of, first_of, count_of}
use Rattle.index_rules.specs.Sound.{Sound, Cleared, used}
use Rattle.index_rules.specs.Index.{Index, FitIndex, lines_of, at}
use Rattle.index_rules.specs.Insert.{headed}
use Rattle.index_rules.specs.Remove.{wiped}
use Rattle.index_rules.specs.Fresh.{FitLengths, fits_lengths, bared, freshes}
use Rattle.index_rules.specs.Contents.{contents}
use Rattle.index_rules.specs.Claims.{Freshes}
use Rattle.index_rules.proofs.Fit.{both, half, fit_fits, fits_fit}
use Rattle.index_rules.proofs.Journal.{whole_is, is_whole, rolled_lines, rolled_length, rolled_count, rolled_zero}
use Rattle.index_rules.proofs.Frames.{roomy_cells, roomy_names, name_same, name_across, name_else, roomy-rename, length-rename}
use Rattle.index_rules.proofs.Frames.{headed-length, headed_root, headed_first, headed-count}
use Rattle.tree_rules.specs.Find.{slots_of}

-- The slot i is free and cleared.
pub record Blank (t : Live) (i : ℕ) : Type 0 where
  pub states : cell t.cells i state ≡ free
  pub cleared : Cleared t i

-- One slot cleared.
abbrev bare : ℕ → Live → Live
bare k t =
    record {
      names = rename (rename t.names k hash_part 0) k key_part 0;
      cells = wiped t.cells k;
      head = t.head;
      sizes = set t.sizes k 0;
    }

bare_long : (k : ℕ) (t : Live) → length (bare k t).cells ≡ length t.cells
unfolding wiped
bare_long k t = simp length-write

bare_wide : (k : ℕ) (t : Live) → length (bare k t).names ≡ length t.names
bare_wide k t = simp length-rename

bare_else : (k : ℕ) (t : Live) (i f : ℕ) → i ≢ k → ltb f fields ≡ true → cell (bare k t).cells i f ≡ cell t.cells i f
unfolding wiped
bare_else k t i f d s = simp cell_else

bare_name : (k : ℕ) (t : Live) (i f : ℕ) → i ≢ k → ltb f parts ≡ true → name_of (bare k t).names i f ≡ name_of t.names i f
bare_name k t i f d s = simp name_else

bare_here : {n : ℕ} (k : ℕ) (t : Live) → length t.cells ≡ 7 * n → length t.names ≡ 2 * n → k < n → Blank (bare k t) k
unfolding wiped
bare_here k t c d b =
    let r = roomy_cells t.cells k c b in
    let w = roomy_names t.names k d b in
    record {
      states = simp (cell_across, cell_same, roomy-write, r);
      cleared =
          record {
            hash = simp (name_across, name_same, roomy-rename, w);
            key = simp (name_same, roomy-rename, w);
            placed = simp (cell_across, cell_same, roomy-write, r);
            parents = simp (cell_across, cell_same, roomy-write, r);
            lefts = simp (cell_across, cell_same, roomy-write, r);
            rights = simp (cell_across, cell_same, roomy-write, r);
            prevs = simp (cell_across, cell_same, roomy-write, r);
            nexts = simp (cell_same, roomy-write, r);
          };
    }

-- What is cleared below k leaves the slots from k on, and the lengths.
bared_long : (k : ℕ) (t : Live) → length (bared k t).cells ≡ length t.cells
unfolding bared
bared_long zero t = refl
bared_long (suc k) t = bared_long k (bare k t) ∙ bare_long k t

bared_wide : (k : ℕ) (t : Live) → length (bared k t).names ≡ length t.names
unfolding bared
bared_wide zero t = refl
bared_wide (suc k) t = bared_wide k (bare k t) ∙ bare_wide k t

bared_head : (k : ℕ) (t : Live) → (bared k t).head ≡ t.head
unfolding bared
bared_head zero t = refl
bared_head (suc k) t = bared_head k (bare k t)

bared_each : (k : ℕ) (t : Live) → length (bared k t).sizes ≡ length t.sizes
unfolding bared
bared_each zero t = refl
bared_each (suc k) t = bared_each k (bare k t) ∙ length-set t.sizes k 0

bared_size : (k : ℕ) (t : Live) (i : ℕ) → k ≤ i → size_word (bared k t).sizes i ≡ size_word t.sizes i
unfolding bared
bared_size zero t i l = refl
bared_size (suc k) t i l = bared_size k (bare k t) i (omega arith) ∙ get_or-set_other t.sizes k i 0 0 (omega arith)

set-zero : (l : List ℕ) (k : ℕ) → get_or (set l k 0) k 0 ≡ 0
set-zero l k = go (dec_lt k (length l))
  where
    go : Dec (k < length l) → get_or (set l k 0) k 0 ≡ 0
    go (yes h) = get_or-set_same l k 0 0 h
    go (no n) = get_or-eq_default (set l k 0) 0 (omega (arith, length-set l k 0))

bared-zero : (k : ℕ) (t : Live) (i : ℕ) → i < k → size_word (bared k t).sizes i ≡ 0
unfolding bared
bared-zero zero t i l = absurd (omega arith)
bared-zero (suc k) t i l = go (ℕ_discrete i k) (λ m. bared-zero k (bare k t) i m)
  where
    go : Dec (i ≡ k) → (i < k → size_word (bared k (bare k t)).sizes i ≡ 0) → size_word (bared k (bare k t)).sizes i ≡ 0
    go (yes e) again = rw e (bared_size k (bare k t) k (omega arith) ∙ set-zero t.sizes k)
    go (no m) again = again (omega arith)

bared_else : (k : ℕ) (t : Live) (i f : ℕ) → k ≤ i → ltb f fields ≡ true → cell (bared k t).cells i f ≡ cell t.cells i f
unfolding bared
bared_else zero t i f l s = refl
bared_else (suc k) t i f l s = bared_else k (bare k t) i f (omega arith) s ∙ bare_else k t i f (omega arith) s

bared_name : (k : ℕ) (t : Live) (i f : ℕ) → k ≤ i → ltb f parts ≡ true → name_of (bared k t).names i f ≡ name_of t.names i f
unfolding bared
bared_name zero t i f l s = refl
bared_name (suc k) t i f l s = bared_name k (bare k t) i f (omega arith) s ∙ bare_name k t i f (omega arith) s

bared_blank : {n : ℕ} (k : ℕ) (t : Live) → length t.cells ≡ 7 * n → length t.names ≡ 2 * n → k ≤ n → (i : ℕ) → i < k
    → Blank (bared k t) i
unfolding bared
bared_blank zero t c d b i l = absurd (omega arith)
bared_blank {n} (suc k) t c d b i l =
    go (ℕ_discrete i k) (λ m. bared_blank k (bare k t) (bare_long k t ∙ c) (bare_wide k t ∙ d) (omega arith) i m)
  where
    u : Live
    u = bared k (bare k t)

    stays : (f : ℕ) → ltb f fields ≡ true → cell u.cells k f ≡ cell (bare k t).cells k f
    stays f s = bared_else k (bare k t) k f (omega arith) s

    names_stay : (f : ℕ) → ltb f parts ≡ true → name_of u.names k f ≡ name_of (bare k t).names k f
    names_stay f s = bared_name k (bare k t) k f (omega arith) s

    here : Blank u k
    here =
        let h = bare_here {n = n} k t c d (omega arith) in
        let q = h.cleared in
        record {
          states = stays state refl ∙ h.states;
          cleared =
              record {
                hash = names_stay hash_part refl ∙ q.hash;
                key = names_stay key_part refl ∙ q.key;
                placed = stays place refl ∙ q.placed;
                parents = stays parent refl ∙ q.parents;
                lefts = stays left refl ∙ q.lefts;
                rights = stays right refl ∙ q.rights;
                prevs = stays prev refl ∙ q.prevs;
                nexts = stays next refl ∙ q.nexts;
              };
        }

    go : Dec (i ≡ k) → (i < k → Blank u i) → Blank (bared (suc k) t) i
    go (yes e) again = rw e here
    go (no m) again = again (omega arith)

-- A tree whose slots are all blank, with a header of nothing.
module _ {t : Live} (fit : Fit t) (blank : (i : ℕ) → i < slots_of t.names → Blank t i) (root : root_of t ≡ null) (first : first_of t ≡ null)
    (none : count_of t ≡ 0)
    (weightless : (k : ℕ) → size_word t.sizes k ≡ 0) where
  pub unused : (i : ℕ) → i < slots_of t.names → used t.cells i ≡ 0
  unused i l = simp (eq-eqb (cell t.cells i state) free (blank i l).states)

  unfoldable pub empty-sound : Sound t
  unfolding slots times size_in
  empty-sound =
      record {
        tree = leaf;
        chain = [];
        t1 =
            record {
              links = λ i l. (let q = (blank i l).cleared in record {
                parents = inl q.parents;
                lefts = inl q.lefts;
                rights = inl q.rights;
                prevs = inl q.prevs;
                nexts = inl q.nexts;
              });
              root = inl root;
              first = inl first;
              states = λ i l. omega (arith, (blank i l).states);
              cleared = λ i l e. (blank i l).cleared;
              count = none ∙ exactly_length (slots_of t.names) [] (λ k m. absurd (omega arith)) (used t.cells) unused;
            };
        t2 = record { root = (λ e. none, λ e. root); first = (λ e. none, λ e. first) };
        t3 = record { rooted = record { from = root; hangs = Hangs.none; once = λ k. omega arith }; all = unused };
        t4 = Rising.empty;
        t5 = record { root = refl; calm = Calm.nothing };
        t6 = same;
        t7 = record { linked = Chain.ended first; all = unused };
        t8 = weightless;
      }
    where
      same : (j k : ℕ) → Meets leaf j → Meets leaf k → j ≡ k
      same j k end end = refl

-- The test of the lengths holds exactly of fit lengths.
lines_of_lem : {ix : Index} (h : FitLengths ix) → lines_of ix.lines ≡ h.capacity
lines_of_lem h = omega (arith, h.words)

pub lengths_fit : (ix : Index) → fits_lengths ix ≡ true → FitLengths ix
unfolding fits_lengths
lengths_fit ix e =
    let a = both (fits ix.live) _ e in
    let w = whole_is ix.lines a.1 in
    record { tree = fits_fit ix.live a.0; capacity = lines_of ix.lines; most = w.0; words = w.1 }

fit_lengths : (ix : Index) → FitLengths ix → fits_lengths ix ≡ true
unfolding fits_lengths
fit_lengths ix h = simp (fit_fits ix.live h.tree, is_whole ix.lines h.capacity h.most h.words)

module _ (ix : Index) where
  unfit_one : fits_lengths ix ≡ false → ((freshes ix).answer ≡ refused 1) × ((freshes ix).left ≡ ix)
  unfolding freshes
  unfit_one e = (rw e, rw e)

  made : FitLengths ix → (freshes ix).answer ≡ given 1
  unfolding freshes
  made h = rw (fit_lengths ix h)

  abbrev bare_tree : Live
  bare_tree = bared (slots_of ix.live.names) ix.live

  abbrev emptied : Live
  emptied = record { names = bare_tree.names; cells = bare_tree.cells; head = headed bare_tree.head null null 0; sizes = bare_tree.sizes }

  abbrev zeroed : List ℕ
  zeroed = rolled_lines (lines_of ix.lines) ix.lines 0

  left_is : FitLengths ix → (freshes ix).left ≡ record { live = emptied; lines = zeroed }
  unfolding freshes
  left_is h = rw (fit_lengths ix h)

  refuted : (FitLengths ix → ⊥) → fits_lengths ix ≡ false
  refuted n = go (fits_lengths ix) refl
    where
      go : (b : Bool) → fits_lengths ix ≡ b → fits_lengths ix ≡ false
      go true e = absurd (n (lengths_fit ix e))
      go false e = e

  from_made : (freshes ix).answer ≡ given 1 → FitLengths ix
  from_made e = go (fits_lengths ix) refl
    where
      go : (b : Bool) → fits_lengths ix ≡ b → FitLengths ix
      go true f = lengths_fit ix f
      go false f = absurd (omega (arith, number (sym (unfit_one f).0 ∙ e)))

  kept : ((freshes ix).answer.number ≢ 0) → (freshes ix).left ≡ ix
  kept n = go (fits_lengths ix) refl
    where
      go : (b : Bool) → fits_lengths ix ≡ b → (freshes ix).left ≡ ix
      go true e = absurd (n (number (made (lengths_fit ix e))))
      go false e = (unfit_one e).1

  module _ (h : FitLengths ix) where
    head_three : length bare_tree.head ≡ 3
    head_three = ap length (bared_head (slots_of ix.live.names) ix.live) ∙ h.tree.three

    wide : length emptied.names ≡ length ix.live.names
    wide = bared_wide (slots_of ix.live.names) ix.live

    same_capacity : slots_of emptied.names ≡ slots_of ix.live.names
    same_capacity = ap (λ (n : ℕ). n / 2) wide

    fit : Fit emptied
    fit =
        record {
          capacity = h.tree.capacity;
          least = h.tree.least;
          most = h.tree.most;
          two = wide ∙ h.tree.two;
          seven = bared_long (slots_of ix.live.names) ix.live ∙ h.tree.seven;
          three = headed-length bare_tree.head null null 0 ∙ head_three;
          each = bared_each (slots_of ix.live.names) ix.live ∙ h.tree.each;
        }

    weightless : (k : ℕ) → size_word emptied.sizes k ≡ 0
    weightless k = go (dec_lt k (slots_of ix.live.names))
      where
        go : Dec (k < slots_of ix.live.names) → size_word emptied.sizes k ≡ 0
        go (yes l) = bared-zero (slots_of ix.live.names) ix.live k l
        go (no n) =
            get_or-eq_default emptied.sizes 0
            (omega (arith, bared_each (slots_of ix.live.names) ix.live, h.tree.each, half h.tree))

    blank : (i : ℕ) → i < slots_of emptied.names → Blank emptied i
    blank i l =
        let b =
        bared_blank {n = h.tree.capacity} (slots_of ix.live.names) ix.live h.tree.seven h.tree.two
        (omega (arith, half h.tree)) i (omega (arith, same_capacity)) in
        record {
          states = b.states;
          cleared = record {
            hash = b.cleared.hash;
            key = b.cleared.key;
            placed = b.cleared.placed;
            parents = b.cleared.parents;
            lefts = b.cleared.lefts;
            rights = b.cleared.rights;
            prevs = b.cleared.prevs;
            nexts = b.cleared.nexts;
          };
        }

    unfoldable sound : Sound emptied
    sound =
        empty-sound fit blank (headed_root bare_tree.head null null 0 head_three) (headed_first bare_tree.head null null 0 head_three)
        (headed-count bare_tree.head null null 0 head_three) weightless

    room : at (0 + lines_of ix.lines) 0 ≤ length ix.lines
    room = omega (arith, lines_of_lem h, h.words)

    fit_index : FitIndex (record { live = emptied; lines = zeroed })
    fit_index =
        record {
          tree = fit;
          capacity = h.capacity;
          most = h.most;
          words = rolled_length (lines_of ix.lines) ix.lines 0 room ∙ h.words;
          within = omega (arith, rolled_count (lines_of ix.lines) ix.lines 0 room);
        }

    zero_word : (j : ℕ) → get_or zeroed j 0 ≡ 0
    zero_word j = go (ℕ_discrete j 0) (dec_lt j (at (0 + lines_of ix.lines) 0))
      where
        go : Dec (j ≡ 0) → Dec (j < at (0 + lines_of ix.lines) 0) → get_or zeroed j 0 ≡ 0
        go (yes e) d = ap (λ (k : ℕ). get_or zeroed k 0) e ∙ rolled_count (lines_of ix.lines) ix.lines 0 room
        go (no n) (yes l) = rolled_zero (lines_of ix.lines) ix.lines 0 room j (omega arith) l
        go (no n) (no m) =
            let past : length zeroed ≤ j = omega (arith, rolled_length (lines_of ix.lines) ix.lines 0 room, lines_of_lem h, h.words) in
            get_or-eq_default zeroed 0 past

  nothing_held : (h : FitLengths ix) → contents (sound h) ≡ []
  unfolding sound empty-sound slots
  nothing_held h = refl

  pub freshes_claims : Freshes ix
  freshes_claims =
      record {
        one = (λ e h. omega (arith, number (sym (made h) ∙ e)), λ n. (unfit_one (refuted n)).0);
        made = (from_made, made);
        nothing_written = kept;
        done = λ h. rw (left_is h)
            (sound h, fit_index h, nothing_held h, rolled_count (lines_of ix.lines) ix.lines 0 (room h), zero_word h, same_capacity h);
      }
