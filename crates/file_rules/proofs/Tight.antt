-- The words that have come are as small as their bytes.
use mathlib.Core.Path.{◌≡◌, sym}
use mathlib.Core.List.{List}
use Prim.Native.Nat.{ℕ, zero, suc, ◌+◌, ◌*◌, ◌/◌, ◌%◌, ◌^◌, ◌<◌, ◌≤◌}
use native.Mathlib.Decide.{ℕ_discrete}
use native.Mathlib.Omega.{arith}
use lib.ListN.{get_or}
use lib.Dec.{eqb, ltb}
use borrow.Author.Tests.{eqb-true, eqb-false, ltb-true, ltb-false}
use Rattle.endian.specs.Bytes.{Bytes, nothing, another}
use Rattle.upload_rules.specs.Reader.{unsaid}
use Rattle.upload_rules.proofs.Ranges.{pick_both, pick_by}
use Rattle.set_rules.specs.Words.{Set}
use Rattle.file_rules.specs.Layout.{field_of, section_words, field_in, put_field}
use Rattle.file_rules.specs.Loader.{Loader, count_taken, new_loader, next_width, FitLoader, RoomFor}
use Rattle.file_rules.specs.Loading.{Loading, loading, load_refused, after_words, with_count, may_count, word_came, with_byte, byte_stored}
use Rattle.file_rules.specs.Loading.{byte_loaded, bytes_loaded, GoesOn}
use Rattle.file_rules.proofs.Fields.{field_apart, field_same}
use Rattle.file_rules.proofs.Ranges.{not_unsaid, next-width, byte_small, count-other, open_or, byte_open, byte_said}
use Rattle.file_rules.proofs.Ranges.{byte_goes}
use Rattle.file_rules.proofs.Bringing.{Small}

-- The words of the first s sections, and the first f words of section s, its count the first of them.
pub record Tight (cs : List ℕ) (t : Set) (s f : ℕ) : Type 0 where
  pub wholes : (i : ℕ) → i < s → Small t i (section_words i (get_or cs i 0))
  pub begun : (k : ℕ) → suc k < f → field_in t (field_of s k) < 256 ^ (field_of s k).width

abbrev pub TightIn : Loading → Type 0
TightIn d = d.loader.note ≡ unsaid → Tight d.loader.counts d.set d.loader.section (d.loader.at / 8)

tight_next : {cs : List ℕ} {t : Set} {s f : ℕ} → f ≡ section_words s (get_or cs s 0) + 1 → Tight cs t s f → Tight cs t (s + 1) 0
tight_next {cs} {t} {s} {f} e h =
    record { wholes = λ i l. go i l (ℕ_discrete i s); begun = λ k l. absurd (omega arith) }
  where
    go : (i : ℕ) → i < s + 1 → Dec (i ≡ s) → Small t i (section_words i (get_or cs i 0))
    go i l (yes z) = rw z (λ j m. h.begun j (omega arith))
    go i l (no n) = h.wholes i (omega arith)

after_tight : (r : Loader) (t : Set) (f : ℕ) → Tight r.counts t r.section f → TightIn (loading (after_words r f) t)
unfolding after_words
after_tight r t f h =
    pick_by (λ (x : Loader). TightIn (loading x t)) (eqb f (section_words r.section (count_taken r r.section) + 1)) _ _
    (λ e u. tight_next (eqb-true f _ e) h)
    (λ e u. let q : 8 * f / 8 ≡ f = omega arith in rw q h)

module _ (r : Loader) (t : Set) (h : FitLoader r) (room : RoomFor r t) (ahead : r.section < 4) where
  count_tight : (v : ℕ) → Tight r.counts t r.section 0 → Tight (with_count r v).counts t r.section 1
  count_tight v a =
      record {
        wholes = λ i l. let e = count-other r v i (λ z. omega arith) in rw e (a.wholes i l);
        begun = λ k l. absurd (omega arith);
      }

  field_tight : (j v : ℕ) → j < section_words r.section (count_taken r r.section) → v < 256 ^ (field_of r.section j).width
      → Tight r.counts t r.section (suc j)
      → Tight r.counts (put_field t (field_of r.section j) v) r.section (suc (suc j))
  field_tight j v n small a =
      let s = r.section in
      record {
        wholes = λ i l k m.
            let e = field_apart t s j v i k ahead (omega arith) (λ z y. omega arith) in
            rw e (a.wholes i l k m);
        begun = λ k l. go k l (ℕ_discrete k j);
      }
    where
      go : (k : ℕ) → suc k < suc (suc j) → Dec (k ≡ j)
          → field_in (put_field t (field_of r.section j) v) (field_of r.section k) < 256 ^ (field_of r.section k).width
      go k l (yes e) = rw e (rw (field_same t r.section j v (count_taken r r.section) (room r.section ahead) n) small)
      go k l (no d) = rw (field_apart t r.section j v r.section k ahead ahead (λ z y. d (sym y))) (a.begun k (omega arith))

  word_tight : (f v : ℕ) → f ≤ section_words r.section (count_taken r r.section) → v < 256 ^ next_width r.section f
      → Tight r.counts t r.section f → TightIn (word_came r t f v)
  unfolding word_came next_width load_refused
  word_tight zero v l small a =
      pick_both TightIn (may_count t r.section v) _ _ (after_tight (with_count r v) t 1 (count_tight v a)) (λ u. absurd (not_unsaid u))
  word_tight (suc j) v l small a =
      after_tight r (put_field t (field_of r.section j) v) (suc (suc j)) (field_tight j v (omega arith) small a)

stored_tight : (r : Loader) (t : Set) (b : ℕ) → b < 256 → FitLoader r → RoomFor r t → Tight r.counts t r.section (r.at / 8)
    → TightIn (byte_stored r t b)
unfolding byte_stored load_refused
stored_tight r t b small h room a =
    pick_by TightIn (eqb r.section 4) _ _ (λ e u. absurd (not_unsaid u))
    (λ e.
    let n = eqb-false r.section 4 e in
    let l = h.sections in
    pick_by TightIn (ltb (r.at % 8 + 1) (next_width r.section (r.at / 8))) _ _
    (λ g u.
    let m = ltb-true (r.at % 8 + 1) _ g in
    let w = (next-width r.section (r.at / 8)).1 in
    let q : (r.at + 1) / 8 ≡ r.at / 8 = omega arith in
    rw q a)
    (λ g.
    let m = ltb-false (r.at % 8 + 1) _ g in
    let k = h.bytes in
    let w : next_width r.section (r.at / 8) ≡ suc (r.at % 8) = omega arith in
    word_tight r t h room (omega arith) (r.at / 8) (with_byte r b) h.words
    (rw w (byte_small r b h.number small)) a))

byte_tight : (d : Loading) (b : ℕ) → b < 256 → GoesOn d → TightIn d → TightIn (byte_loaded d b)
byte_tight d b s h a =
    open_or d.loader.note (λ e. rw (byte_open d b e) (stored_tight d.loader d.set b s h.fit (h.room e) (a e)))
    (λ x e. rw (byte_said d b e) a)

pub bytes_tight : (d : Loading) {l : List ℕ} → Bytes l → GoesOn d → TightIn d → TightIn (bytes_loaded d l)
unfolding bytes_loaded
bytes_tight d nothing h a = a
bytes_tight d (another {b} s k) h a = bytes_tight (byte_loaded d b) k (byte_goes d b s h) (byte_tight d b s h a)

pub start_tight : (t : Set) → TightIn (loading new_loader t)
start_tight t u = record { wholes = λ i l. absurd (omega arith); begun = λ k l. absurd (omega arith) }
