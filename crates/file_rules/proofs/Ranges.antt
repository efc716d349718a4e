-- The tests of the ranges and of the room hold exactly of loaders in range and slices with room, and every byte keeps both.
use mathlib.Core.Path.{◌≡◌, refl, ◌∙◌}
use mathlib.Core.Bool.{true}
use mathlib.Core.Logic.{◌≢◌}
use mathlib.Core.List.{List}
use Prim.Native.Nat.{ℕ, zero, suc, ◌+◌, ◌*◌, ◌/◌, ◌%◌, ◌^◌, ◌<◌, ◌≤◌}
use native.Mathlib.Decide.{ℕ_discrete}
use native.Mathlib.Omega.{arith}
use lib.ListN.{length, length-set}
use lib.Seq.{get_or-set_same, get_or-set_other}
use lib.Dec.{eqb, ltb}
use borrow.Author.Tests.{eqb-false, ltb-true, eq-eqb, ne_eqb}
use Rattle.slots.specs.Answers.{Answer}
use Rattle.endian.specs.Bytes.{Bytes, nothing, another}
use Rattle.upload_rules.specs.Reader.{Note, unsaid, said}
use Rattle.upload_rules.proofs.Ranges.{pick_both, pick_by}
use Rattle.set_rules.specs.Words.{Set, fits}
use Rattle.set_rules.specs.Accepting.{accepted}
use Rattle.file_rules.specs.Layout.{field_of, section_words, most_of, can_hold, put_field}
use Rattle.file_rules.specs.Loader.{Loader, loader_of, count_taken, note_in, next_width, counts_come, FitLoader, RoomFor}
use Rattle.file_rules.specs.Loading.{Loading, loading, load_refused, loader_at, after_words, with_count, may_count, word_came, with_byte}
use Rattle.file_rules.specs.Loading.{byte_stored, byte_loaded, bytes_loaded, cut_out, end_judged, end_loaded, GoesOn}
use Rattle.file_rules.proofs.Endian.{small-more}
use Rattle.file_rules.proofs.Fields.{put-length, field-width, holds_alike}
use Rattle.file_rules.proofs.Counting.{may_both}

pub not_unsaid : {a : Answer} → said a ≡ unsaid → ⊥
not_unsaid e = let z : ◌≡◌ {A = ℕ} 0 1 = cc in omega arith

pub next-width : (s f : ℕ) → (1 ≤ next_width s f) × (next_width s f ≤ 8)
unfolding next_width
next-width s zero = (omega arith, omega arith)
next-width s (suc j) = field-width s j

-- One byte more on top.
pub byte_small : (r : Loader) (b : ℕ) → r.part < 256 ^ (r.at % 8) → b < 256 → with_byte r b < 256 ^ suc (r.at % 8)
unfolding with_byte
byte_small r b h l = let a = small-more (r.at % 8) r.part b h l in omega arith

pub note_fit : {r : Loader} {n : Note} → FitLoader r → FitLoader (loader_of r.section r.at r.part r.counts n)
unfolding counts_come
note_fit h =
    record {
      four = h.four;
      sections = h.sections;
      words = h.words;
      bytes = h.bytes;
      number = h.number;
      ended = h.ended;
      limits = h.limits;
      later = h.later;
    }

-- An answer that is noted is no matter of the slices.
noted_goes : {r : Loader} {t : Set} {a : Answer} → FitLoader r → GoesOn (loading (note_in r a) t)
noted_goes h = record { fit = note_fit h; room = λ e. absurd (not_unsaid e) }

-- The counts of a loader that has taken the count of its section.
record SectionCounted (r : Loader) : Type 0 where
  four : length r.counts ≡ 4
  limits : (s : ℕ) → s < 4 → count_taken r s ≤ most_of s
  later : (s : ℕ) → s < 4 → r.section + 1 ≤ s → count_taken r s ≡ 0

-- A loader in range that has taken it, and one that has not.
come_one : (r : Loader) → r.at / 8 ≢ 0 → counts_come r ≡ r.section + 1
unfolding counts_come
come_one r n = rw (ne_eqb (r.at / 8) 0 n)

pub come_none : (r : Loader) → r.at / 8 ≡ 0 → counts_come r ≡ r.section
unfolding counts_come
come_none r e = rw (eq-eqb (r.at / 8) 0 e)

pub come_most : (r : Loader) → counts_come r ≤ r.section + 1
unfolding counts_come
come_most r = pick_both (λ (n : ℕ). n ≤ r.section + 1) (eqb (r.at / 8) 0) _ _ (omega arith) (omega arith)

counted : (r : Loader) → FitLoader r → r.at / 8 ≢ 0 → SectionCounted r
counted r h n =
    record { four = h.four; limits = h.limits; later = λ s l m. h.later s l (omega (arith, come_one r n)) }

-- After f words of a section that is not whole, its count the first of them.
after_fit : (r : Loader) (f : ℕ) → 1 ≤ f → r.section < 4 → SectionCounted r
    → f ≤ section_words r.section (count_taken r r.section) + 1 → FitLoader (after_words r f)
unfolding after_words next_width
after_fit r f some l c m =
    pick_by FitLoader (eqb f (section_words r.section (count_taken r r.section) + 1)) _ _
    (λ e. record {
      four = c.four;
      sections = omega arith;
      words = omega arith;
      bytes = omega arith;
      number = omega arith;
      ended = λ z. refl;
      limits = c.limits;
      later = λ s k n. c.later s k (omega (arith, come_none (loader_at r (r.section + 1) 0 0) refl));
    })
    (λ e.
    let n = eqb-false f _ e in
    let q : 8 * f / 8 ≡ f = omega arith in
    let z : (8 * f) % 8 ≡ 0 = omega arith in
    record {
      four = c.four;
      sections = omega arith;
      words = rw q (omega arith);
      bytes = rw (q, z) (next-width r.section f).0;
      number = rw z (omega arith);
      ended = λ x. absurd (omega arith);
      limits = c.limits;
      later = λ s k n. c.later s k (omega (arith, come_one (loader_at r r.section (8 * f) 0) (λ y. omega arith)));
    })

after_counts : (r : Loader) (f : ℕ) → (after_words r f).counts ≡ r.counts
unfolding after_words
after_counts r f =
    pick_both (λ (x : Loader). x.counts ≡ r.counts) (eqb f (section_words r.section (count_taken r r.section) + 1)) _ _ refl refl

after_goes : (r : Loader) (f : ℕ) (t : Set) → 1 ≤ f → r.section < 4 → SectionCounted r
    → f ≤ section_words r.section (count_taken r r.section) + 1 → RoomFor r t → GoesOn (loading (after_words r f) t)
after_goes r f t some l c m room =
    record { fit = after_fit r f some l c m; room = λ e s k. rw (after_counts r f) (room s k) }

-- A count just taken.
pub count_own : (r : Loader) (c : ℕ) → r.section < 4 → length r.counts ≡ 4 → count_taken (with_count r c) r.section ≡ c
count_own r c l four = get_or-set_same r.counts r.section c 0 (omega arith)

pub count-other : (r : Loader) (c s : ℕ) → s ≢ r.section → count_taken (with_count r c) s ≡ count_taken r s
count-other r c s n = get_or-set_other r.counts r.section s c 0 n

-- What holds of the count just taken and of the others holds of each.
pub count_all : (P : ℕ → ℕ → Type 0) (r : Loader) (c : ℕ) → r.section < 4 → length r.counts ≡ 4 → P r.section c
    → ((s : ℕ) → s < 4 → P s (count_taken r s)) → (s : ℕ) → s < 4 → P s (count_taken (with_count r c) s)
count_all P r c l four p h s k = go (ℕ_discrete s r.section)
  where
    go : Dec (s ≡ r.section) → P s (count_taken (with_count r c) s)
    go (yes e) = rw e (rw (count_own r c l four) p)
    go (no n) = rw (count-other r c s n) (h s k)

module _ (r : Loader) (t : Set) (h : FitLoader r) (room : RoomFor r t) (ahead : r.section < 4) where
  -- The counts with the section's own, just taken.
  own_counted : r.at / 8 ≡ 0 → (v : ℕ) → v ≤ most_of r.section → SectionCounted (with_count r v)
  own_counted e v l =
      record {
        four = length-set r.counts r.section v ∙ h.four;
        limits = count_all (λ (s c : ℕ). c ≤ most_of s) r v ahead h.four l h.limits;
        later = λ s k m. count-other r v s (λ z. omega arith) ∙ h.later s k (omega (arith, come_none r e));
      }

  word_goes : (f v : ℕ) → r.at / 8 ≡ f → f ≤ section_words r.section (count_taken r r.section) → GoesOn (word_came r t f v)
  unfolding word_came load_refused
  word_goes zero v e l =
      pick_by GoesOn (may_count t r.section v) _ _
      (λ g.
      let b = may_both t r.section v g in
      after_goes (with_count r v) 1 t (omega arith) ahead (own_counted e v b.0)
      (omega arith)
      (count_all (λ (s c : ℕ). can_hold t s c ≡ true) r v ahead h.four b.1 room))
      (λ g. noted_goes h)
  word_goes (suc j) v e l =
      after_goes r (suc (suc j)) (put_field t (field_of r.section j) v) (omega arith) ahead (counted r h (λ z. omega arith)) (omega arith)
      (λ s k. holds_alike (put_field t (field_of r.section j) v) t
      (put-length t (field_of r.section j).slice (field_of r.section j).index v) s (count_taken r s) ∙ room s k)

  part_goes : (b : ℕ) → b < 256 → r.at % 8 + 1 < next_width r.section (r.at / 8)
      → GoesOn (loading (loader_at r r.section (r.at + 1) (with_byte r b)) t)
  unfolding counts_come
  part_goes b s l =
      let w = (next-width r.section (r.at / 8)).1 in
      let q : (r.at + 1) / 8 ≡ r.at / 8 = omega arith in
      let z : (r.at + 1) % 8 ≡ suc (r.at % 8) = omega arith in
      record {
        fit = record {
          four = h.four;
          sections = h.sections;
          words = rw q h.words;
          bytes = rw (q, z) (omega arith);
          number = rw z (byte_small r b h.number s);
          ended = λ x. absurd (omega arith);
          limits = h.limits;
          later = rw q h.later;
        };
        room = λ e. room;
      }

pub stored_goes : (r : Loader) (t : Set) (b : ℕ) → b < 256 → FitLoader r → RoomFor r t → GoesOn (byte_stored r t b)
unfolding byte_stored load_refused
stored_goes r t b s h room =
    pick_by GoesOn (eqb r.section 4) _ _ (λ e. noted_goes h)
    (λ e.
    let n = eqb-false r.section 4 e in
    let l : r.section < 4 = omega (arith, h.sections) in
    pick_by GoesOn (ltb (r.at % 8 + 1) (next_width r.section (r.at / 8))) _ _
    (λ g. part_goes r t h room l b s (ltb-true _ _ g))
    (λ g. word_goes r t h room l (r.at / 8) (with_byte r b) refl h.words))

-- Nothing is noted, or an answer is.
pub open_or : {A : Type 0} (n : Note) → (n ≡ unsaid → A) → ((a : Answer) → n ≡ said a → A) → A
open_or unsaid f g = f refl
open_or (said a) f g = g a refl

pub byte_open : (d : Loading) (b : ℕ) → d.loader.note ≡ unsaid → byte_loaded d b ≡ byte_stored d.loader d.set b
unfolding byte_loaded
byte_open d b e = rw e

pub byte_said : (d : Loading) {a : Answer} (b : ℕ) → d.loader.note ≡ said a → byte_loaded d b ≡ d
unfolding byte_loaded
byte_said d b e = rw e

pub end_open : (d : Loading) → d.loader.note ≡ unsaid → end_loaded d ≡ end_judged d.loader d.set
unfolding end_loaded
end_open d e = rw e

pub end_said : (d : Loading) {a : Answer} → d.loader.note ≡ said a → end_loaded d ≡ d
unfolding end_loaded
end_said d e = rw e

pub byte_goes : (d : Loading) (b : ℕ) → b < 256 → GoesOn d → GoesOn (byte_loaded d b)
byte_goes d b s h =
    open_or d.loader.note (λ e. rw (byte_open d b e) (stored_goes d.loader d.set b s h.fit (h.room e)))
    (λ a e. rw (byte_said d b e) h)

pub bytes_go : (d : Loading) {l : List ℕ} → Bytes l → GoesOn d → GoesOn (bytes_loaded d l)
unfolding bytes_loaded
bytes_go d nothing h = h
bytes_go d (another {b} s k) h = bytes_go (byte_loaded d b) k (byte_goes d b s h)

judged_goes : (r : Loader) (t : Set) → FitLoader r → GoesOn (end_judged r t)
unfolding end_judged load_refused
judged_goes r t h =
    pick_both GoesOn (eqb r.section 4) _ _
    (pick_both GoesOn (fits (cut_out r t)) _ _
    (pick_both GoesOn (accepted (cut_out r t)) _ _ (noted_goes h) (noted_goes h)) (noted_goes h))
    (noted_goes h)

pub end_goes : (d : Loading) → GoesOn d → GoesOn (end_loaded d)
end_goes d h =
    open_or d.loader.note (λ e. rw (end_open d e) (judged_goes d.loader d.set h.fit))
    (λ a e. rw (end_said d e) h)
