-- A reader's words, read and written, and what a call over them comes to.
use mathlib.Core.Path.{◌≡◌, ap, sym, ◌∙◌, subst}
use mathlib.Core.Logic.{◌≢◌}
use mathlib.Core.Bool.{Bool, true, false, false≢true}
use mathlib.Core.List.{List}
use Prim.Native.Nat.{ℕ, ◌+◌, ◌-◌, ◌*◌, ◌<◌, ◌≤◌}
use native.Mathlib.Omega.{arith}
use lib.ListN.{length, get_or, set}
use borrow.Author.Tests.{eq-eqb, ne_eqb, lt-ltb, le-ltb}
use Rattle.std.specs.Prelude.{Ok, Err}
use Rattle.std.specs.Result.{is_ok}
use Rattle.slots.specs.Answers.{Answer, given, refused, answer_word}
use Rattle.slots.specs.Words.{pick}
use Rattle.index_rules.specs.Index.{Index, fits_index}
use Rattle.index_rules.specs.Sound.{sound}
use Rattle.upload_rules.specs.Reader.{Note, Reader, reader_of, new_reader}
use Rattle.upload_rules.specs.Reading.{Session, new_session, session, ReadOutcome, read_outcome, read_start, read_chunk, read_end}
use Rattle.reader.specs.Meanings.{Reply, reply_of, read_refusal_of}
use Rattle.reader.specs.declared.reply.ReadRefusal.{ReadRefusal}
use Rattle.reader.specs.declared.reply.ReadRefusal.TheVariants.{Unfit, Damaged, Present, Full, JournalFull, BadMark, Misfit, Short}
use Rattle.reader.specs.declared.reply.ReadRefusal.TheVariants.{Long, WrongKind}
use Rattle.reader.specs.Notes.{note_at}
use Rattle.upload_rules.specs.Notes.{NoteSaid, known, unknown, note_word}
use Rattle.word_rules.specs.Readers.{ReaderSaid, saying, saying_none, with_note, reader_in, reader_written, read_worded}
use Rattle.word_rules.specs.Readers.{started_reader, read_into, chunk_read, ended_reader}

-- What stands in the words.
module _ (w : List ℕ) where
  pub not_eight : length w ≢ 8 → saying_none ≡ reader_in w
  unfolding reader_in
  not_eight n = rw (ne_eqb (length w) 8 n)

  module _ (l : length w ≡ 8) {marked : ℕ} (e : marked ≡ get_or w 5 0) where
    pub not_marked : marked ≡ 0 → saying_none ≡ reader_in w
    unfolding reader_in
    not_marked z = rw (eq-eqb (length w) 8 l, ← e, eq-eqb marked 0 z)

    module _ (z : marked ≢ 0) where
      pub wide_mark : 4294967296 < marked → saying_none ≡ reader_in w
      unfolding reader_in
      wide_mark h = rw (eq-eqb (length w) 8 l, ← e, ne_eqb marked 0 z, le-ltb marked 4294967297 (omega arith))

      module _ (h : marked ≤ 4294967296) {n : NoteSaid} (f : n ≡ note_at (get_or w 7 0)) where
        pub no_note : n ≡ unknown → saying_none ≡ reader_in w
        unfolding reader_in
        no_note u = rw (eq-eqb (length w) 8 l, ← e, ne_eqb marked 0 z, lt-ltb marked 4294967297 (omega arith), ← f, u)

        pub has_note : {x : Note} {r : ReaderSaid} → n ≡ known x → r ≡ with_note w (known x) → r ≡ reader_in w
        unfolding reader_in
        has_note u g = rw (eq-eqb (length w) 8 l, ← e, ne_eqb marked 0 z, lt-ltb marked 4294967297 (omega arith), ← f, u) g

-- The eight words, read and written one by one.
module _ (w : List ℕ) where
  pub eight_read : {a b c d e m t : ℕ} (n : Note) → a ≡ get_or w 0 0 → b ≡ get_or w 1 0 → c ≡ get_or w 2 0 → d ≡ get_or w 3 0
      → e ≡ get_or w 4 0
      → m ≡ get_or w 5 0 - 1 → t ≡ get_or w 6 0
      → saying (reader_of a b c d e m t n) ≡ with_note w (known n)
  eight_read n e1 e2 e3 e4 e5 e6 e7 = rw (e1, e2, e3, e4, e5, e6, e7)

  pub eight_written : (r : Reader) {l1 l2 l3 l4 l5 l6 l7 l8 : List ℕ} {n : ℕ} → l1 ≡ set w 0 r.section → l2 ≡ set l1 1 r.got
      → l3 ≡ set l2 2 r.owed
      → l4 ≡ set l3 3 r.hash → l5 ≡ set l4 4 r.key → l6 ≡ set l5 5 (r.mark + 1) → l7 ≡ set l6 6 r.taken → n ≡ note_word r.note
      → l8 ≡ set l7 7 n
      → l8 ≡ reader_written w r
  unfolding reader_written
  eight_written r e1 e2 e3 e4 e5 e6 e7 f e8 = rw (← e1, ← e2, ← e3, ← e4, ← e5, ← e6, ← e7, ← f) e8

-- A refusal's word is 2^32 or more, and that of an accepted start, which is 1, is below it.
refusal_high : (e : ReadRefusal) → 4294967296 ≤ answer_word (read_refusal_of e)
unfolding answer_word
refusal_high Unfit = omega arith
refusal_high Damaged = omega arith
refusal_high (Present slot) = omega arith
refusal_high Full = omega arith
refusal_high JournalFull = omega arith
refusal_high BadMark = omega arith
refusal_high Misfit = omega arith
refusal_high Short = omega arith
refusal_high Long = omega arith
refusal_high WrongKind = omega arith

pub refused_high : (r : Reply) → false ≡ is_ok r → 4294967296 ≤ answer_word (reply_of r)
refused_high (Ok n) h = absurd (false≢true h)
refused_high (Err e) h = refusal_high e

given_low : (ix : Index) (d : Session) {n : ℕ} (a b : Bool)
    → given n
    ≡ (pick a (pick b (read_outcome (given 1) (new_session ix)) (read_outcome (refused 2) d)) (read_outcome (refused 1) d)).answer
    → answer_word (given n) < 4294967296
unfolding answer_word
given_low ix d true true e = subst (λ (x : Answer). answer_word x < 4294967296) (sym e) (omega arith)
given_low ix d true false e = absurd (omega (arith, ap (λ (x : Answer). x.number) e))
given_low ix d false b e = absurd (omega (arith, ap (λ (x : Answer). x.number) e))

pub started_low : (d : Session) (r : Reply) → reply_of r ≡ (read_start d).answer → true ≡ is_ok r → answer_word (reply_of r) < 4294967296
unfolding read_start
started_low d (Ok n) e h = given_low d.index d (fits_index d.index) (sound d.index.live) e
started_low d (Err f) e h = absurd (false≢true (sym h))

-- A call over them.
module _ (ix : Index) (w : List ℕ) where
  pub start_short : length w ≢ 8 → {told : ℕ} → told ≡ 0 + 4294967296 * 1 → read_worded told ix w ≡ started_reader ix w
  unfolding started_reader answer_word
  start_short n e = rw (ne_eqb (length w) 8 n, e)

  module _ (l : length w ≡ 8) {o : ReadOutcome} (e : o ≡ read_start (session (new_reader 0) ix)) {told : ℕ}
      (f : told ≡ answer_word o.answer) where
    pub start_kept : 4294967296 ≤ told → read_worded told ix w ≡ started_reader ix w
    unfolding started_reader
    start_kept h = rw (eq-eqb (length w) 8 l, ← e, ← f, le-ltb told 4294967296 h)

    pub start_made : told < 4294967296 → {v : List ℕ} → v ≡ reader_written w o.left.reader → read_worded told ix v ≡ started_reader ix w
    unfolding started_reader
    start_made h g = rw (eq-eqb (length w) 8 l, ← e, ← f, lt-ltb told 4294967296 h, g)

  module _ {s : ReaderSaid} (e : s ≡ reader_in w) where
    pub chunk_none : (chunk : List ℕ) → s ≡ saying_none → {told : ℕ} → told ≡ 0 + 4294967296 * 1
        → read_worded told ix w ≡ chunk_read ix w chunk
    unfolding chunk_read answer_word
    chunk_none chunk n f = rw (← e, n, f, chunk_read)

    pub end_none : s ≡ saying_none → {told : ℕ} → told ≡ 0 + 4294967296 * 1 → read_worded told ix w ≡ ended_reader ix w
    unfolding ended_reader answer_word
    end_none n f = rw (← e, n, f, ended_reader)

    module _ {r : Reader} (k : s ≡ saying r) {a : Answer} {r' : Reader} {jx : Index} {told : ℕ} {v : List ℕ}
        (f : told ≡ answer_word a) (g : v ≡ reader_written w r') where
      pub chunk_some : (chunk : List ℕ) → read_outcome a (session r' jx) ≡ read_chunk (session r ix) chunk
          → read_worded told jx v ≡ chunk_read ix w chunk
      unfolding chunk_read
      chunk_some chunk h =
          let to : chunk_read ix w chunk ≡ read_into w (read_chunk (session r ix) chunk) = rw (← e, k, chunk_read) in
          rw (f, g) (ap (λ (o : ReadOutcome). read_into w o) h ∙ sym to)

      pub end_some : read_outcome a (session r' jx) ≡ read_end (session r ix) → read_worded told jx v ≡ ended_reader ix w
      unfolding ended_reader
      end_some h =
          let to : ended_reader ix w ≡ read_into w (read_end (session r ix)) = rw (← e, k, ended_reader) in
          rw (f, g) (ap (λ (o : ReadOutcome). read_into w o) h ∙ sym to)
