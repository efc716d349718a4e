-- What each byte comes to, on plain values: the tests that led there settle those of the model.
use mathlib.Core.Path.{◌≡◌, refl, ap, sym, ◌∙◌, subst}
use mathlib.Core.Logic.{◌≢◌}
use mathlib.Core.Bool.{Bool, true, false}
use mathlib.Core.List.{List, [], ◌∷◌}
use Prim.Native.Nat.{ℕ, ◌+◌, ◌-◌, ◌*◌, ◌<◌, ◌≤◌}
use native.Mathlib.Decide.{dec_lt}
use native.Mathlib.Omega.{arith}
use lib.Dec.{eqb, ltb}
use borrow.Author.Tests.{eq-eqb, ne_eqb, lt-ltb, le-ltb}
use Rattle.slots.specs.Words.{null, pick}
use Rattle.slots.specs.Answers.{Answer, given, refused}
use Rattle.index_rules.specs.Index.{Index, Outcome, outcome, fits_index, length_of}
use Rattle.index_rules.specs.Sound.{sound}
use Rattle.index_rules.specs.Insert.{inserts}
use Rattle.index_rules.specs.Rollback.{rolls}
use Rattle.upload_rules.specs.Reader.{Note, unsaid, said, Reader, new_reader, noting, FitReader, fits_reader, is_open}
use Rattle.upload_rules.specs.Reader.{note_answer, reader_answer}
use Rattle.upload_rules.specs.Reading.{Session, session, ReadOutcome, read_outcome, goes_up, back_mark, turned_down, name_byte}
use Rattle.upload_rules.specs.Reading.{owing}
use Rattle.upload_rules.specs.Reading.{entry_place, came_of, last_came, byte_came, byte_read}
use Rattle.upload_rules.specs.Reading.{bytes_read, end_came}
use Rattle.upload_rules.specs.Reading.{end_read, read_chunk, read_end, read_start}
use Rattle.index_rules.specs.Checked.{sounds_index}
use Rattle.index_rules.proofs.Journal.{fits-index}
use Rattle.index_rules.proofs.Sounding.{told_unfit, told_no, told_yes}
use Rattle.index.proofs.Singly.{ready}
use Rattle.upload_rules.proofs.Ranges.{end_range}

-- A refusal that the rollback repeats goes up as it is.
goes_up_lem : (a : Answer) → goes_up a a ≡ a
unfolding goes_up
goes_up_lem a = go (eqb a.number 0)
  where
    go : (t : Bool) → pick t a a ≡ a
    go true = refl
    go false = refl

module _ (r : Reader) (ix : Index) where
  -- A mark above the length is refused as any other one is.
  above : {m k : ℕ} → length_of ix.lines < m → (fits_index ix ≡ true → length_of ix.lines < k) → rolls ix k ≡ rolls ix m
  unfolding rolls
  above {m} {k} l f = go (fits_index ix) refl
    where
      go : (b : Bool) → fits_index ix ≡ b → rolls ix k ≡ rolls ix m
      go false e = rw e
      go true e = rw (lt-ltb (length_of ix.lines) m l, lt-ltb (length_of ix.lines) k (f e))

  -- The mark that the code takes, and the model's.
  abbrev MarkTaken : ℕ → Type 0
  MarkTaken m = m ≡ pick (ltb (length_of ix.lines) (r.mark + r.taken)) null r.mark

  back_marked : {m : ℕ} → MarkTaken m → rolls ix m ≡ rolls ix (back_mark r ix)
  unfolding back_mark
  back_marked {m} e = go (dec_lt (length_of ix.lines) (r.mark + r.taken))
    where
      few : fits_index ix ≡ true → length_of ix.lines < null
      few f = let g = fits-index ix f in omega (arith, g.within, g.most)

      go : Dec (length_of ix.lines < r.mark + r.taken) → rolls ix m ≡ rolls ix (back_mark r ix)
      go (yes l) = rw (e, lt-ltb (length_of ix.lines) (r.mark + r.taken) l) (above l few)
      go (no n) = let z : r.mark + r.taken ≤ length_of ix.lines = omega arith in
          rw (e, le-ltb (length_of ix.lines) (r.mark + r.taken) z)

  down : (a : Answer) {b t : Answer} {jx : Index} {s : Reader} → outcome b jx ≡ rolls ix (back_mark r ix) → t ≡ goes_up a b → s ≡ noting r t
      → session s jx ≡ turned_down r ix a
  unfolding turned_down
  down a {b} {t} {jx} {s} e f g =
      ap (λ (x : Reader). session x jx) g ∙ ap (λ (x : Answer). session (noting r x) jx) f
      ∙ ap (λ (o : Outcome). session (noting r (goes_up a o.answer)) o.left) e

  pub turned : (a : Answer) {b t : Answer} {m : ℕ} {jx : Index} {s : Reader} → MarkTaken m → outcome b jx ≡ rolls ix m → t ≡ goes_up a b
      → s ≡ noting r t
      → session s jx ≡ turned_down r ix a
  turned a k e f g = down a (e ∙ back_marked k) f g

module _ (r : Reader) (ix : Index) where
  module _ (b : ℕ) where
    -- An entry's last byte, by what the insert comes to.
    module _ {k : ℕ} {a : Answer} {jx : Index} (e : k ≡ name_byte r.key b)
        (f : outcome a jx ≡ inserts ix r.hash k (3 * r.section + 3 + 16 * r.taken)) where
      last_is : {d : Session} → d ≡ came_of r (outcome a jx) → d ≡ last_came r ix b
      unfolding last_came entry_place
      last_is h = h ∙ ap (came_of r) (f ∙ ap (λ (x : ℕ). inserts ix r.hash x (3 * r.section + 3 + 16 * r.taken)) e)

      pub last_taken : {s : Reader} → a.number ≡ 0 → s ≡ owing r (r.owed - 1) (r.taken + 1) → session s jx ≡ last_came r ix b
      last_taken n q = last_is (rw (eq-eqb a.number 0 n) (ap (λ (x : Reader). session x jx) q))

      pub last_refused : {t : Answer} {d : Session} → a.number ≢ 0 → t ≡ a → d ≡ turned_down r jx t → d ≡ last_came r ix b
      last_refused n g q = last_is (rw (ne_eqb a.number 0 n) (q ∙ ap (turned_down r jx) g))

      pub last_denied : {t : Answer} {s : Reader} → a.number ≢ 0 → ((m : ℕ) → outcome a jx ≡ rolls jx m) → t ≡ a → s ≡ noting r t
          → session s jx ≡ last_came r ix b
      last_denied {t} n d g q =
          last_refused n g (down r jx t (d (back_mark r jx)) (g ∙ sym (goes_up_lem a) ∙ ap (λ (z : Answer). goes_up z a) (sym g)) q)

    pub read-noted : {a : Answer} → r.note ≡ said a → session r ix ≡ byte_read (session r ix) b
    unfolding byte_read
    read-noted e = sym (ap (λ (n : Note). pick (is_open n) (byte_came r ix b) (session r ix)) e)

    pub read_on_lem : r.note ≡ unsaid → byte_came r ix b ≡ byte_read (session r ix) b
    unfolding byte_read
    read_on_lem e = sym (ap (λ (n : Note). pick (is_open n) (byte_came r ix b) (session r ix)) e)

  pub all_noted : {a : Answer} → r.note ≡ said a → (l : List ℕ) → bytes_read (session r ix) l ≡ session r ix
  unfolding bytes_read
  all_noted e [] = refl
  all_noted e (b ∷ l) = rw (← read-noted b e) (all_noted e l)

abbrev answered : Session → ReadOutcome
answered d = read_outcome (reader_answer d.reader) d

-- A noted answer is the call's.
pub noted_answer : (r : Reader) {a : Answer} → r.note ≡ said a → a ≡ reader_answer r
noted_answer r e = sym (ap (λ (n : Note). note_answer n r.taken) e)

-- A call with a reader out of its range, and one in it.
module _ (d : Session) {t : Bool} (test : t ≡ fits_reader d.reader) where
  pub chunk_out : (l : List ℕ) → t ≡ false → read_outcome (refused 1) d ≡ read_chunk d l
  unfolding read_chunk
  chunk_out l e = rw (← test, e)

  pub chunk_in : (l : List ℕ) {e : Session} {a : Answer} → t ≡ true → e ≡ bytes_read d l → a ≡ reader_answer e.reader
      → read_outcome a e ≡ read_chunk d l
  unfolding read_chunk
  chunk_in l {e} y f g = rw (← test, y) (ap (λ (x : Answer). read_outcome x e) g ∙ ap answered f)

  pub end_out : t ≡ false → read_outcome (refused 1) d ≡ read_end d
  unfolding read_end
  end_out e = rw (← test, e)

  pub end_noted : {a : Answer} → t ≡ true → d.reader.note ≡ said a → read_outcome a d ≡ read_end d
  unfolding read_end end_read
  end_noted y n =
      rw (← test, y)
      (ap (λ (x : Answer). read_outcome x d) (noted_answer d.reader n)
      ∙ sym (ap (λ (x : Note). answered (pick (is_open x) (end_came d.reader d.index) d)) n))

  pub end_on_lem : {e : Session} {a : Answer} → t ≡ true → d.reader.note ≡ unsaid → e ≡ end_came d.reader d.index
      → a ≡ reader_answer e.reader
      → read_outcome a e ≡ read_end d
  unfolding read_end end_read
  end_on_lem {e} {a} y n f g =
      rw (← test, y)
      (ap (λ (x : Answer). read_outcome x e) g ∙ ap answered f
      ∙ sym (ap (λ (x : Note). answered (pick (is_open x) (end_came d.reader d.index) d)) n))

pub end_fits_lem : (d : Session) {e : Session} → FitReader d.reader → d.reader.note ≡ unsaid → e ≡ end_came d.reader d.index
    → FitReader e.reader
unfolding end_read
end_fits_lem d h n f =
    let open' : end_read d ≡ end_came d.reader d.index = ap (λ (x : Note). pick (is_open x) (end_came d.reader d.index) d) n in
    subst (λ (x : Session). FitReader x.reader) (open' ∙ sym f) (end_range d h)

-- start.
module _ (ix : Index) where
  pub start_unfit : {s : Reader} → s ≡ new_reader 0 → refused 1 ≡ sounds_index ix
      → read_outcome (refused 1) (session s ix) ≡ read_start (session (new_reader 0) ix)
  unfolding read_start sounds_index
  start_unfit n e = rw (told_unfit (fits_index ix) (sound ix.live) e, n)

  pub start_damaged : {s : Reader} → s ≡ new_reader 0 → given 0 ≡ sounds_index ix
      → read_outcome (refused 2) (session s ix) ≡ read_start (session (new_reader 0) ix)
  unfolding read_start sounds_index
  start_damaged n e = let t = told_no (fits_index ix) (sound ix.live) e in rw (t.0, t.1, n)

  module _ (e : given 1 ≡ sounds_index ix) {m : ℕ} (g : m ≡ length_of ix.lines) where
    pub few_lines : m ≤ 1024
    few_lines = let f = (ready ix e).passes.fit in omega (arith, f.most, f.within, g)

    pub start_begins : {s : Reader} → s ≡ new_reader m → read_outcome (given 1) (session s ix) ≡ read_start (session (new_reader 0) ix)
    unfolding read_start sounds_index
    start_begins n = let t = told_yes (fits_index ix) (sound ix.live) e in rw (t.0, t.1, n, g)
