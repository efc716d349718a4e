-- The test whether a call may go on holds exactly where the loader is in range and the slices have room; so what chunk and end come to.
use mathlib.Core.Path.{◌≡◌, refl}
use mathlib.Core.Bool.{Bool, true, false}
use mathlib.Core.List.{List}
use Prim.Native.Nat.{ℕ, zero, suc, ◌/◌, ◌%◌, ◌^◌, ◌<◌, ◌≤◌}
use native.Mathlib.Omega.{arith}
use lib.ListN.{length}
use lib.Dec.{eqb, ltb, leb}
use borrow.Author.Tests.{eqb-true, leb-true, ltb-true, ltb-false, le-leb, lt-ltb, eq-eqb}
use Rattle.slots.specs.Words.{pick}
use Rattle.slots.specs.Answers.{refused}
use Rattle.index_rules.proofs.Fit.{both}
use Rattle.index_rules.proofs.Rules.{and}
use Rattle.upload_rules.proofs.Ranges.{pick_by}
use Rattle.set_rules.specs.Words.{Set}
use Rattle.file_rules.specs.Layout.{section_words, most_of, can_hold}
use Rattle.file_rules.specs.Loader.{Loader, count_taken, new_loader, next_width, counts_come, FitLoader, count_fits, fits_loader, RoomFor}
use Rattle.file_rules.specs.Loader.{has_room, loader_answer}
use Rattle.file_rules.specs.Loading.{Loading, loading, LoadOutcome, load_outcome, bytes_loaded, end_loaded, may_go_on, load_chunk}
use Rattle.file_rules.specs.Loading.{load_end, GoesOn}
use Rattle.file_rules.proofs.Ranges.{open_or}

-- What holds of the four sections.
pub by_four : (P : ℕ → Type 0) → P 0 → P 1 → P 2 → P 3 → (s : ℕ) → s < 4 → P s
by_four P a b c d zero l = a
by_four P a b c d (suc zero) l = b
by_four P a b c d (suc (suc zero)) l = c
by_four P a b c d (suc (suc (suc zero))) l = d
by_four P a b c d (suc (suc (suc (suc s)))) l = absurd (omega arith)

ended_test : (r : Loader) → (r.section ≡ 4 → r.at ≡ 0) → pick (eqb r.section 4) (eqb r.at 0) true ≡ true
ended_test r h = pick_by (λ (x : Bool). x ≡ true) (eqb r.section 4) _ _ (λ e. eq-eqb _ _ (h (eqb-true _ _ e))) (λ e. refl)

pub count-test : (r : Loader) (s : ℕ) → s < 4 → FitLoader r → count_fits r s ≡ true
unfolding count_fits
count-test r s l h =
    pick_by (λ (k : ℕ). leb (count_taken r s) k ≡ true) (ltb s (counts_come r)) _ _ (λ e. le-leb _ _ (h.limits s l))
    (λ e. le-leb (count_taken r s) 0 (let m = ltb-false s (counts_come r) e in let z = h.later s l m in omega arith))

pub in_range_lem : (r : Loader) → FitLoader r → fits_loader r ≡ true
unfolding fits_loader
in_range_lem r h =
    and (eq-eqb _ _ h.four) (and (le-leb _ _ h.sections) (and (le-leb _ _ h.words) (and (lt-ltb _ _ h.bytes)
    (and (lt-ltb _ _ h.number) (and (ended_test r h.ended) (and (count-test r 0 (omega arith) h)
    (and (count-test r 1 (omega arith) h) (and (count-test r 2 (omega arith) h) (count-test r 3 (omega arith) h)))))))))

-- A count in its range.
pub record CountIn (r : Loader) (s : ℕ) : Type 0 where
  pub most : count_taken r s ≤ most_of s
  pub none : counts_come r ≤ s → count_taken r s ≡ 0

pub count_in : (r : Loader) (s : ℕ) → count_fits r s ≡ true → CountIn r s
unfolding count_fits
count_in r s e =
    pick_by (λ (k : ℕ). count_taken r s ≤ k → CountIn r s) (ltb s (counts_come r)) _ _
    (λ g m. let l = ltb-true s (counts_come r) g in record { most = m; none = λ n. absurd (omega arith) })
    (λ g m. record { most = omega arith; none = λ n. omega arith })
    (leb-true _ _ e)

pub range_in : (r : Loader) → fits_loader r ≡ true → FitLoader r
unfolding fits_loader
range_in r e =
    let h1 = both (eqb (length r.counts) 4) _ e in
    let h2 = both (leb r.section 4) _ h1.1 in
    let h3 = both (leb (r.at / 8) (section_words r.section (count_taken r r.section))) _ h2.1 in
    let h4 = both (ltb (r.at % 8) (next_width r.section (r.at / 8))) _ h3.1 in
    let h5 = both (ltb r.part (256 ^ (r.at % 8))) _ h4.1 in
    let h6 = both (pick (eqb r.section 4) (eqb r.at 0) true) _ h5.1 in
    let h7 = both (count_fits r 0) _ h6.1 in
    let h8 = both (count_fits r 1) _ h7.1 in
    let h9 = both (count_fits r 2) (count_fits r 3) h8.1 in
    let each = by_four (CountIn r) (count_in r 0 h7.0) (count_in r 1 h8.0) (count_in r 2 h9.0) (count_in r 3 h9.1) in
    record {
      four = eqb-true _ _ h1.0;
      sections = leb-true _ _ h2.0;
      words = leb-true _ _ h3.0;
      bytes = ltb-true _ _ h4.0;
      number = ltb-true _ _ h5.0;
      ended = λ z. eqb-true _ _ (rw (eq-eqb r.section 4 z) at h6.0);
      limits = λ s l. (each s l).most;
      later = λ s l. (each s l).none;
    }

pub room_in : (r : Loader) (t : Set) → RoomFor r t → has_room r t ≡ true
unfolding has_room
room_in r t h = and (h 0 (omega arith)) (and (h 1 (omega arith)) (and (h 2 (omega arith)) (h 3 (omega arith))))

pub in_room : (r : Loader) (t : Set) → has_room r t ≡ true → RoomFor r t
unfolding has_room
in_room r t e =
    let h1 = both (can_hold t 0 (count_taken r 0)) _ e in
    let h2 = both (can_hold t 1 (count_taken r 1)) _ h1.1 in
    let h3 = both (can_hold t 2 (count_taken r 2)) (can_hold t 3 (count_taken r 3)) h2.1 in
    by_four (λ (s : ℕ). can_hold t s (count_taken r s) ≡ true) h1.0 h2.0 h3.0 h3.1

pub goes_in : (d : Loading) → GoesOn d → may_go_on d ≡ true
unfolding may_go_on has_room
goes_in d h =
    and (in_range_lem d.loader h.fit)
    (open_or d.loader.note (λ e. rw e (room_in d.loader d.set (h.room e))) (λ a e. rw e refl))

pub in_goes : (d : Loading) → may_go_on d ≡ true → GoesOn d
unfolding may_go_on has_room
in_goes d e =
    let b = both (fits_loader d.loader) _ e in
    record { fit = range_in d.loader b.0; room = λ u. in_room d.loader d.set (rw u at b.1) }

pub none_held : (t : Set) (s : ℕ) → s < 4 → can_hold t s 0 ≡ true
unfolding can_hold
none_held t zero l = le-leb 0 (length t.lengths) (omega arith)
none_held t (suc zero) l = le-leb 0 (length t.bins) (omega arith)
none_held t (suc (suc zero)) l = le-leb 0 (length t.heads) (omega arith)
none_held t (suc (suc (suc s))) l = and (le-leb 0 (length t.names) (omega arith)) (le-leb 0 (length t.cells) (omega arith))

pub start_goes : (t : Set) → GoesOn (loading new_loader t)
unfolding next_width
start_goes t =
    record {
      fit = record {
        four = refl;
        sections = omega arith;
        words = omega arith;
        bytes = omega arith;
        number = omega arith;
        ended = λ e. refl;
        limits = by_four (λ (s : ℕ). count_taken new_loader s ≤ most_of s) (omega arith) (omega arith) (omega arith) (omega arith);
        later = λ s l m. by_four (λ (k : ℕ). count_taken new_loader k ≡ 0) refl refl refl refl s l;
      };
      room =
          λ e. by_four (λ (s : ℕ). can_hold t s (count_taken new_loader s) ≡ true) (none_held t 0 (omega arith))
          (none_held t 1 (omega arith)) (none_held t 2 (omega arith)) (none_held t 3 (omega arith));
    }

-- The answer of what is left.
abbrev pub answered_by : Loading → LoadOutcome
answered_by d = load_outcome (loader_answer d.loader) d

module _ (d : Loading) where
  pub chunk_in : (l : List ℕ) → GoesOn d → load_chunk d l ≡ answered_by (bytes_loaded d l)
  unfolding load_chunk
  chunk_in l h = rw (goes_in d h)

  pub chunk_out : (l : List ℕ) → may_go_on d ≡ false → load_chunk d l ≡ load_outcome (refused 1) d
  unfolding load_chunk
  chunk_out l e = rw e

  pub end_in : GoesOn d → load_end d ≡ answered_by (end_loaded d)
  unfolding load_end
  end_in h = rw (goes_in d h)

  pub end_out : may_go_on d ≡ false → load_end d ≡ load_outcome (refused 1) d
  unfolding load_end
  end_out e = rw e
