-- The test of the ranges holds exactly of readers in range. Every byte keeps a reader in range, since whichever reader it comes to is.
use mathlib.Core.Path.{◌≡◌, refl, sym, ◌∙◌}
use mathlib.Core.List.{List}
use mathlib.Core.Bool.{Bool, true, false, false≢true}
use Prim.Native.Nat.{ℕ, zero, suc, ◌+◌, ◌-◌, ◌*◌, ◌<◌, ◌≤◌}
use native.Mathlib.Decide.{dec_lt}
use native.Mathlib.Omega.{arith}
use lib.Dec.{eqb, ltb, leb}
use borrow.Author.Tests.{eqb-true, eqb-false, leb-true, ltb-true, ltb-false, le-leb, lt-ltb, le-ltb}
use Rattle.slots.specs.Words.{pick}
use Rattle.index_rules.specs.Index.{Index}
use Rattle.index_rules.specs.Insert.{inserts}
use Rattle.index_rules.proofs.Fit.{both}
use Rattle.endian.specs.Bytes.{Bytes, nothing, another}
use Rattle.upload_rules.specs.Reader.{Note, Reader, reader_of, new_reader, FitReader, fits_reader, is_whole, is_open}
use Rattle.upload_rules.specs.Reading.{Session, session, turned_down, owing, kind_came, count_came, entry_came, last_came, byte_came}
use Rattle.upload_rules.specs.Reading.{byte_read, bytes_read, end_came, end_read, count_byte, name_byte, in_hash, entry_place}

-- A test is not true and false.
pub no_test : {b : Bool} → b ≡ false → b ≡ true → ⊥
no_test e f = false≢true (sym e ∙ f)

-- What is picked by a test: where it is no matter which, and where each is told how the test came out.
pub pick_both : {A : Type 0} (P : A → Type 0) (t : Bool) (a b : A) → P a → P b → P (pick t a b)
pick_both P true a b p q = p
pick_both P false a b p q = q

pub pick_by : {A : Type 0} (P : A → Type 0) (t : Bool) (a b : A) → (t ≡ true → P a) → (t ≡ false → P b) → P (pick t a b)
pick_by P true a b p q = p refl
pick_by P false a b p q = q refl

pub in_range_lem : (r : Reader) → FitReader r → fits_reader r ≡ true
unfolding fits_reader
in_range_lem r h = go (dec_lt r.got 3)
  where
    go : Dec (r.got < 3) → fits_reader r ≡ true
    go (yes l) =
        let a = h.header l in simp (le-leb _ _ h.bytes, le-leb _ _ h.sections, lt-ltb _ _ h.count, lt-ltb _ _ l, le-leb _ _ a)
    go (no n) =
        let a = h.entries (omega arith) in
        simp (
          le-leb _ _ h.bytes,
          le-leb _ _ h.sections,
          lt-ltb _ _ h.count,
          le-ltb r.got 3 (omega arith),
          le-leb _ _ a.0,
          le-leb _ _ a.1,
        )

pub range_in : (r : Reader) → fits_reader r ≡ true → FitReader r
unfolding fits_reader
range_in r e =
    let h1 = both (leb r.got 18) _ e in
    let h2 = both (leb (19 * r.section + r.got) _) _ h1.1 in
    let h3 = both (ltb r.owed 65536) _ h2.1 in
    record {
      bytes = leb-true _ _ h1.0;
      sections = leb-true _ _ h2.0;
      count = ltb-true _ _ h3.0;
      header = λ l. leb-true _ _ (rw (lt-ltb _ _ l) at h3.1);
      entries = λ l.
          let h4 = both (leb 1 r.owed) _ (rw (le-ltb _ _ l) at h3.1) in
          (leb-true _ _ h4.0, leb-true _ _ h4.1);
    }

pub new_range : (m : ℕ) → FitReader (new_reader m)
new_range m =
    record {
      bytes = omega arith;
      sections = omega arith;
      count = omega arith;
      header = λ g. omega arith;
      entries = λ g. absurd (omega arith);
    }

-- A note is no matter of ranges.
pub note_range : {r : Reader} {note : Note} → FitReader r
    → FitReader (reader_of r.section r.got r.owed r.hash r.key r.mark r.taken note)
note_range h = record { bytes = h.bytes; sections = h.sections; count = h.count; header = h.header; entries = h.entries }

-- The reader of a session is in range.
abbrev pub Ranged : Session → Type 0
Ranged d = FitReader d.reader

module _ (r : Reader) (taken : ℕ) (ahead : is_whole r ≡ false) (h : FitReader r) where
  -- A section that owes no entry is whole: a reader that waits for an entry is owed one.
  none_owed : taken ≤ 65535 * (r.section + 1) → FitReader (owing r 0 taken)
  unfolding owing
  none_owed m =
      let n = eqb-false r.section _ ahead in
      record {
        bytes = omega arith;
        sections = omega arith;
        count = omega arith;
        header = λ g. omega arith;
        entries = λ g. absurd (omega arith);
      }

  -- One that owes some waits for the next.
  some_owed : (owed : ℕ) → 1 ≤ owed → owed < 65536 → taken + owed ≤ 65535 * (r.section + 1) → FitReader (owing r owed taken)
  unfolding owing
  some_owed owed l k m =
      let n = eqb-false r.section _ ahead in
      pick_by FitReader (eqb owed 0) _ _
      (λ e. absurd (let z = eqb-true owed _ e in omega arith))
      (λ e. record { bytes = omega arith; sections = omega arith; count = k; header = λ g. absurd (omega arith); entries = λ g. (l, m) })

  pub owing_range : (owed : ℕ) → owed < 65536 → taken + owed ≤ 65535 * (r.section + 1) → FitReader (owing r owed taken)
  owing_range zero k m = none_owed (omega arith)
  owing_range (suc owed) k m = some_owed (suc owed) (omega arith) k m

module _ (r : Reader) (ix : Index) (b : ℕ) (small : b < 256) (h : FitReader r) (ahead : is_whole r ≡ false) where
  kind_range : r.got ≡ 0 → Ranged (kind_came r ix b)
  unfolding kind_came turned_down
  kind_range e =
      let n = eqb-false r.section _ ahead in
      let a = h.header (omega arith) in
      pick_both Ranged (eqb b (r.section + 1)) _ _
      (record { bytes = omega arith; sections = omega arith; count = omega arith; header = λ g. a; entries = λ g. absurd (omega arith) })
      (note_range h)

  count_small : count_byte r.owed b < 65536
  unfolding count_byte
  count_small = let l = h.count in omega arith

  count_range : r.got < 3 → FitReader (count_came r b)
  unfolding count_came
  count_range l =
      let n = eqb-false r.section _ ahead in
      let a = h.header l in
      let owed = count_byte r.owed b in
      pick_both FitReader (eqb r.got 1) _ _
      (record { bytes = omega arith; sections = omega arith; count = count_small; header = λ g. a; entries = λ g. absurd (omega arith) })
      (owing_range r r.taken ahead h owed count_small (omega (arith, count_small)))

  entry_range : 3 ≤ r.got → r.got < 18 → FitReader (entry_came r b)
  unfolding entry_came
  entry_range g l =
      let n = eqb-false r.section _ ahead in
      pick_both FitReader (in_hash r) _ _
      (record {
        bytes = omega arith;
        sections = omega arith;
        count = h.count;
        header = λ x. absurd (omega arith);
        entries = λ x. h.entries g;
      })
      (record {
        bytes = omega arith;
        sections = omega arith;
        count = h.count;
        header = λ x. absurd (omega arith);
        entries = λ x. h.entries g;
      })

  last_range : 3 ≤ r.got → Ranged (last_came r ix b)
  unfolding last_came turned_down
  last_range g =
      let a = h.entries g in
      let o = inserts ix r.hash (name_byte r.key b) (entry_place r) in
      pick_both Ranged (eqb o.answer.number 0) _ _
      (owing_range r (r.taken + 1) ahead h (r.owed - 1) (omega (arith, a.0, a.1, h.count)) (omega (arith, a.0, a.1)))
      (note_range h)

  ahead_range : Ranged
      (pick (eqb r.got 0) (kind_came r ix b)
      (pick (ltb r.got 3) (session (count_came r b) ix)
      (pick (ltb r.got 18) (session (entry_came r b) ix) (last_came r ix b))))
  ahead_range =
      pick_by Ranged (eqb r.got 0) _ _ (λ e. kind_range (eqb-true _ _ e))
      (λ n. pick_by Ranged (ltb r.got 3) _ _ (λ l. count_range (ltb-true _ _ l))
      (λ m. pick_by Ranged (ltb r.got 18) _ _ (λ l. entry_range (ltb-false _ _ m) (ltb-true _ _ l)) (λ k. last_range (ltb-false _ _ m))))

came_range : (r : Reader) (ix : Index) (b : ℕ) → b < 256 → FitReader r → Ranged (byte_came r ix b)
unfolding byte_came turned_down
came_range r ix b s h = pick_by Ranged (is_whole r) _ _ (λ e. note_range h) (ahead_range r ix b s h)

pub byte_range : (d : Session) (b : ℕ) → b < 256 → Ranged d → Ranged (byte_read d b)
unfolding byte_read
byte_range d b l h = pick_both Ranged (is_open d.reader.note) _ _ (came_range d.reader d.index b l h) h

pub bytes_range : (d : Session) {l : List ℕ} → Bytes l → Ranged d → Ranged (bytes_read d l)
unfolding bytes_read
bytes_range d nothing h = h
bytes_range d (another {b} s k) h = bytes_range (byte_read d b) k (byte_range d b s h)

end_came_range : (r : Reader) (ix : Index) → FitReader r → Ranged (end_came r ix)
unfolding end_came turned_down
end_came_range r ix h = pick_both Ranged (is_whole r) _ _ (note_range h) (note_range h)

pub end_range : (d : Session) → Ranged d → Ranged (end_read d)
unfolding end_read
end_range d h = pick_both Ranged (is_open d.reader.note) _ _ (end_came_range d.reader d.index h) h
