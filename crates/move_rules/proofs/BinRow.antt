-- Each bin has its own place in the row of all tables' bins, so a write of one bin's word leaves every other bin.
use mathlib.Core.Path.{◌≡◌, ap, ◌∙◌}
use mathlib.Core.Logic.{◌≢◌}
use mathlib.Core.List.{List}
use Prim.Native.Nat.{ℕ, zero, suc, ◌+◌, ◌*◌, ◌/◌, ◌<◌, ◌≤◌}
use native.Mathlib.Decide.{ℕ_discrete, dec_le}
use native.Mathlib.Omega.{arith}
use lib.ListN.{length, get_or, set, length-set}
use lib.Seq.{get_or-set_same, get_or-set_other, set_out}
use Rattle.slots.specs.Words.{null}
use Rattle.tree_rules.specs.Find.{slots_of}
use Rattle.set_rules.specs.Words.{Set, Fit, tables_of, headers_in, bins_before, bin_of, bin_at}
use Rattle.set_rules.specs.Accepted.{BinThere}
use Rattle.move_rules.specs.Moving.{place_of, headed_at, rewritten}

-- The bins of a later table come after those of an earlier.
pub later : (l : List ℕ) (t k : ℕ) → k < t → bins_before l k + get_or l k 0 ≤ bins_before l t
unfolding bins_before
later l zero k b = absurd (omega arith)
later l (suc t) k b = go (ℕ_discrete k t) (λ d. later l t k (omega arith))
  where
    go : Dec (k ≡ t) → (k ≢ t → bins_before l k + get_or l k 0 ≤ bins_before l t)
        → bins_before l k + get_or l k 0 ≤ bins_before l t + get_or l t 0
    go (yes e) rest = rw e (omega arith)
    go (no d) rest = omega (arith, rest d)

module _ (s : Set) where
  pub place-only : {k i l j : ℕ} → BinThere s k i → BinThere s l j → place_of s k i ≡ place_of s l j → (k ≡ l) × (i ≡ j)
  place-only {k} {i} {l} {j} p q e = go (ℕ_discrete k l) (dec_le k l)
    where
      go : Dec (k ≡ l) → Dec (k ≤ l) → (k ≡ l) × (i ≡ j)
      go (yes z) c = let y : bins_before s.lengths k ≡ bins_before s.lengths l = ap (bins_before s.lengths) z in (z, omega arith)
      go (no z) (yes c) = absurd (omega (arith, p.index, later s.lengths l k (omega arith)))
      go (no z) (no c) = absurd (omega (arith, q.index, later s.lengths k l (omega arith)))

  pub place_inside : Fit s → {k i : ℕ} → BinThere s k i → place_of s k i < length s.bins
  place_inside fit {k} {i} p = omega (arith, p.index, fit.all, later s.lengths (tables_of s) k p.table)

-- The header that was written, and the others.
module _ (heads : List ℕ) (h root first count : ℕ) where
  pub headed_long : length (headed_at heads h root first count) ≡ length heads
  unfolding headed_at
  headed_long = simp length-set

  module _ (in_range_lem : 3 * h + 2 < length heads) where
    pub headed_root : get_or (headed_at heads h root first count) (3 * h) null ≡ root
    unfolding headed_at
    headed_root =
        get_or-set_other (set (set heads (3 * h) root) (3 * h + 1) first) (3 * h + 2) (3 * h) count null (omega arith)
        ∙ get_or-set_other (set heads (3 * h) root) (3 * h + 1) (3 * h) first null (omega arith)
        ∙ get_or-set_same heads (3 * h) root null (omega arith)

    pub headed_first : get_or (headed_at heads h root first count) (3 * h + 1) null ≡ first
    unfolding headed_at
    headed_first =
        get_or-set_other (set (set heads (3 * h) root) (3 * h + 1) first) (3 * h + 2) (3 * h + 1) count null (omega arith)
        ∙ get_or-set_same (set heads (3 * h) root) (3 * h + 1) first null (omega (arith, length-set heads (3 * h) root))

    pub headed-count : get_or (headed_at heads h root first count) (3 * h + 2) null ≡ count
    unfolding headed_at
    headed-count =
        get_or-set_same (set (set heads (3 * h) root) (3 * h + 1) first) (3 * h + 2) count null
        (omega (arith, length-set (set heads (3 * h) root) (3 * h + 1) first, length-set heads (3 * h) root))

  pub headed_else : (p : ℕ) → p ≢ 3 * h → p ≢ 3 * h + 1 → p ≢ 3 * h + 2
      → get_or (headed_at heads h root first count) p null ≡ get_or heads p null
  unfolding headed_at
  headed_else p a b c =
      get_or-set_other (set (set heads (3 * h) root) (3 * h + 1) first) (3 * h + 2) p count null c
      ∙ get_or-set_other (set heads (3 * h) root) (3 * h + 1) p first null b
      ∙ get_or-set_other heads (3 * h) p root null a

  -- A header that is not there has no words to write.
  pub headed_none : (p : ℕ) → length heads ≤ 3 * h → get_or (headed_at heads h root first count) p null ≡ get_or heads p null
  unfolding headed_at
  headed_none p b =
      ap (λ (l : List ℕ). get_or l p null)
      (set_out (set (set heads (3 * h) root) (3 * h + 1) first) (3 * h + 2) count
      (omega (arith, length-set (set heads (3 * h) root) (3 * h + 1) first, length-set heads (3 * h) root))
      ∙ set_out (set heads (3 * h) root) (3 * h + 1) first (omega (arith, length-set heads (3 * h) root))
      ∙ set_out heads (3 * h) root b)

-- Words of the same lengths are fit as they were.
module _ {s : Set} (fit : Fit s) where
  pub fit_over : {bins heads cells : List ℕ} → length bins ≡ length s.bins → length heads ≡ length s.heads
      → length cells ≡ length s.cells → Fit (rewritten s bins heads cells)
  fit_over a b c =
      record {
        least = fit.least;
        most = fit.most;
        power = fit.power;
        twice = fit.twice;
        last = fit.last;
        all = a ∙ fit.all;
        slots = fit.slots;
        slots_most = fit.slots_most;
        two = fit.two;
        seven = c ∙ fit.seven;
        headers = fit.headers;
        headers_most = fit.headers_most;
        three = b ∙ fit.three;
      }

  -- The word of bin i of table k is written, and no other bin's.
  module _ {k i : ℕ} (p : BinThere s k i) (w : ℕ) (heads cells : List ℕ) (long : length heads ≡ length s.heads) where
    abbrev t : Set
    t = rewritten s (set s.bins (place_of s k i) w) heads cells

    pub written_range : headers_in t ≡ headers_in s
    written_range = ap (λ (m : ℕ). m / 3) long

    pub written_here : bin_at t k i ≡ bin_of (slots_of s.names) (headers_in s) w
    written_here = rw (written_range, get_or-set_same s.bins (place_of s k i) w 0 (place_inside s fit p))

    pub written_else : (m j : ℕ) → BinThere s m j → ((m ≡ k) × (j ≡ i) → ⊥) → bin_at t m j ≡ bin_at s m j
    written_else m j q d = rw (written_range, get_or-set_other s.bins (place_of s k i) (place_of s m j) w 0 (λ e. d (place-only s q p e)))
