-- A call of the reader leaves a reader that its words can say, so the next call reads what this one left, and what the rules say of calls
-- on a session is said of calls on words.
-- Parts: the answers of the reader, and a reader that words can say; what a call comes to; a call on words is the call on their reader;
-- what the next call makes of the words left; a call again on what a call left; the start; an upload from start to end.
use mathlib.Core.Path.{◌≡◌, refl, ap, sym, ◌∙◌, subst}
use mathlib.Core.Logic.{◌≢◌}
use mathlib.Core.Bool.{Bool, true, false}
use mathlib.Core.List.{List, [], ◌++◌}
use Prim.Native.Nat.{ℕ, ◌/◌, ◌<◌, ◌≤◌}
use native.Mathlib.Decide.{ℕ_discrete}
use native.Mathlib.Omega.{arith}
use lib.ListN.{length}
use borrow.Author.Tests.{eq-eqb, ne_eqb, lt-ltb, le-ltb}
use Rattle.slots.specs.Answers.{Answer, given, refused, answer_word}
use Rattle.slots.proofs.Laws.{number}
use Rattle.index_rules.specs.Sound.{Sound, sound}
use Rattle.index_rules.specs.Index.{Index, FitIndex, fits_index, length_of}
use Rattle.index_rules.specs.Insert.{inserts}
use Rattle.index_rules.specs.Contents.{contents}
use Rattle.index_rules.specs.Calls.{Places}
use Rattle.index_rules.proofs.Journal.{fits-index, index-fits}
use Rattle.index_rules.proofs.Sounding.{yes_sound, unsound}
use Rattle.endian.specs.Bytes as B
use Rattle.endian.specs.Bytes.{Bytes}
use Rattle.upload_rules.specs.Reader.{Note, unsaid, said, Reader, new_reader, FitReader, fits_reader, note_answer, reader_answer}
use Rattle.upload_rules.specs.Reading.{Session, session, new_session, ReadOutcome, read_outcome, byte_read, bytes_read, read_start}
use Rattle.upload_rules.specs.Reading.{read_chunk}
use Rattle.upload_rules.specs.Reading.{end_read, read_end, read_whole}
use Rattle.upload_rules.specs.Steps.{Foreign, unfit, damaged, bad_mark, misfit, Fault, kind, long, short, entry, ByteStep, moves, takes}
use Rattle.upload_rules.specs.Steps.{stops, foreign, cut_short}
use Rattle.upload_rules.proofs.Ranges.{no_test, in_range_lem, range_in, byte_range}
use Rattle.upload_rules.proofs.Cutting.{chunk_in, end_in}
use Rattle.upload_rules.proofs.Claims.{claims}
use Rattle.reader.proofs.Ranging.{few_taken}
use Rattle.word_rules.specs.Told.{WordTells}
use Rattle.word_rules.specs.Lent as L
use Rattle.word_rules.specs.Lent.{ReaderAnswer, ReaderWords}
use Rattle.word_rules.specs.Readers.{saying_none, reader_in, reader_written, ReadWorded, read_worded, read_into, started_reader}
use Rattle.word_rules.specs.Readers.{chunk_read, ended_reader}
use Rattle.word_rules.specs.Leaving.{RefusedBy, UnknownReader, StartTold, ReadTold, Continued, chunk_after_start, end_after_chunk}
use Rattle.word_rules.specs.Leaving.{UploadTold}
use Rattle.word_rules.proofs.Telling.{answers_apart, one_word, taken_word}
use Rattle.word_rules.proofs.Giving as G
use Rattle.word_rules.proofs.Noting.{Sayable, silent, spoken, told_sayable, spoken_answer}
use Rattle.word_rules.proofs.Saying.{reader_tells, reader_written_lem, written_again, SaidIn, says, none, said_in}
use Rattle.word_rules.proofs.Saying.{reader_words, reader_one}

-- What an insert refuses with is an answer of the reader.
insert_answers : (ix : Index) (hash key p : ℕ) → ReaderAnswer (inserts ix hash key p).answer
insert_answers ix hash key p = go (G.inserts_shape ix hash key p) refl
  where
    go : {a : Answer} → G.InsertSays a → (inserts ix hash key p).answer ≡ a → ReaderAnswer a
    go G.one e = L.unfit
    go G.two e = L.damaged
    go (G.three x) e = let b = G.present_below ix hash key p x e in L.present {x = x} (omega arith)
    go G.five e = L.full
    go G.six e = L.unlined
    go (G.takes x) e = let b = G.taken-below ix hash key p x e in L.takes {n = x} (omega arith)

fault_answers : {ix : Index} {a : Answer} → Fault ix a → ReaderAnswer a
fault_answers kind = L.wrong_kind
fault_answers long = L.long
fault_answers short = L.short
fault_answers {ix} (entry hash key p n) = insert_answers ix hash key p

foreign_answers : {a : Answer} → Foreign a → ReaderAnswer a
foreign_answers unfit = L.unfit
foreign_answers damaged = L.damaged
foreign_answers bad_mark = L.bad_mark
foreign_answers misfit = L.misfit

-- A reader that words can say.
pub record SayableReader (r : Reader) : Type 0 where
  pub narrow : r.mark < 4294967296
  pub note : Sayable ReaderAnswer r.note

words_fine : {w : List ℕ} {r : Reader} → ReaderWords w r → SayableReader r
words_fine h = record { narrow = h.narrow; note = told_sayable h.note }

step_fine : {r : Reader} {ix : Index} {d : Session} → ByteStep r ix d → SayableReader r → SayableReader d.reader
step_fine (moves e m t) f = record { narrow = rw m f.narrow; note = rw e silent }
step_fine (takes hash key p x b q e m t) f = record { narrow = rw m f.narrow; note = rw e silent }
step_fine (stops a why l c e) f = record { narrow = f.narrow; note = spoken (fault_answers why) }
step_fine (foreign a why l e) f = record { narrow = f.narrow; note = spoken (foreign_answers why) }
step_fine (cut_short a why l e) f = record { narrow = f.narrow; note = spoken (foreign_answers why) }

-- A noted session takes no byte.
byte_said : (d : Session) (b : ℕ) (a : Answer) → d.reader.note ≡ said a → byte_read d b ≡ d
unfolding byte_read
byte_said d b a e = rw e

byte_fine : (d : Session) (b : ℕ) → FitReader d.reader → SayableReader d.reader → SayableReader (byte_read d b).reader
byte_fine d b h f = go d.reader.note refl
  where
    go : (n : Note) → d.reader.note ≡ n → SayableReader (byte_read d b).reader
    go unsaid e = step_fine ((claims.calls d).step h e b) f
    go (said a) e = rw (byte_said d b a e) f

bytes_fine : (d : Session) {l : List ℕ} → Bytes l → FitReader d.reader → SayableReader d.reader
    → SayableReader (bytes_read d l).reader
unfolding bytes_read
bytes_fine d B.nothing h f = f
bytes_fine d (B.another {b} s k) h f = bytes_fine (byte_read d b) k (byte_range d b s h) (byte_fine d b h f)

-- In range or not.
in_or_out : {A : Type 0} (r : Reader) → (FitReader r → A) → ((FitReader r → ⊥) → A) → A
in_or_out {A} r f g = go (fits_reader r) refl
  where
    go : (b : Bool) → fits_reader r ≡ b → A
    go true e = f (range_in r e)
    go false e = g (λ h. no_test e (in_range_lem r h))

-- The answer of a reader that words can say is one of the reader's.
fine_answer : (r : Reader) → FitReader r → SayableReader r → ReaderAnswer (reader_answer r)
fine_answer r h f = go r.note f.note
  where
    go : (n : Note) → Sayable ReaderAnswer n → ReaderAnswer (note_answer n r.taken)
    go unsaid s = let t = few_taken h in L.takes {n = r.taken} (omega arith)
    go (said a) (spoken w) = w

-- What a call comes to: an answer of the reader, and a reader that words can say.
pub record Speaks (o : ReadOutcome) : Type 0 where
  pub answers : ReaderAnswer o.answer
  pub fine : SayableReader o.left.reader

module _ (d : Session) (f : SayableReader d.reader) where
  pub chunk_good : {l : List ℕ} → Bytes l → Speaks (read_chunk d l)
  chunk_good {l} k =
      in_or_out d.reader
      (λ h. (let e = chunk_in d l h in
      let i = ((claims.calls d).inside h l k).0 in
      let g = bytes_fine d k h f in
      rw e (record { answers = fine_answer (bytes_read d l).reader (rw e at i) g; fine = g })))
      (λ n. rw ((claims.calls d).outside n l).0 (record { answers = L.unfit; fine = f }))

  end_fine : FitReader d.reader → SayableReader (read_end d).left.reader
  end_fine h = go d.reader.note refl
    where
      t : d.reader.taken ≤ 327675
      t = few_taken h

      whole : d.reader.note ≡ unsaid → Dec (d.reader.section ≡ 4) → SayableReader (read_end d).left.reader
      whole e (yes s) =
          rw ((claims.calls d).last h e s)
          (record { narrow = f.narrow; note = spoken (L.takes {n = d.reader.taken} (omega (arith, t))) })
      whole e (no s) = step_fine ((claims.calls d).short h e s) f

      go : (n : Note) → d.reader.note ≡ n → SayableReader (read_end d).left.reader
      go unsaid e = whole e (ℕ_discrete d.reader.section 4)
      go (said a) e = rw ((claims.calls d).stays h a e []).1 f

  pub end_good : Speaks (read_end d)
  end_good =
      in_or_out d.reader
      (λ h. (let e = end_in d h in
      let i = ((claims.calls d).inside h [] B.nothing).1 in
      let g = end_fine h in
      rw e (record { answers = fine_answer (end_read d).reader (rw e at i) (rw e at g); fine = rw e at g })))
      (λ n. rw ((claims.calls d).outside n []).1 (record { answers = L.unfit; fine = f }))

-- A call on words that say a reader is the call on that reader, written into the words.
module _ (ix : Index) (w : List ℕ) where
  module _ (r : Reader) (h : ReaderWords w r) where
    pub chunk_is : (l : List ℕ) → chunk_read ix w l ≡ read_into w (read_chunk (session r ix) l)
    unfolding chunk_read
    chunk_is l = rw ((reader_words w r).1 h, chunk_read)

    pub end_is : ended_reader ix w ≡ read_into w (read_end (session r ix))
    unfolding ended_reader
    end_is = rw ((reader_words w r).1 h, ended_reader)

    into_told : (o : ReadOutcome) → Speaks o → ReadTold o (read_into w o)
    into_told o g =
        record {
          tells = reader_tells g.answers;
          left = refl;
          reader = reader_written_lem w o.left.reader h.eight g.fine.narrow g.fine.note;
        }

    pub chunk_told : {l : List ℕ} → Bytes l → ReadTold (read_chunk (session r ix) l) (chunk_read ix w l)
    chunk_told {l} k = rw (chunk_is l) (into_told (read_chunk (session r ix) l) (chunk_good (session r ix) (words_fine h) k))

    pub end_told : ReadTold (read_end (session r ix)) (ended_reader ix w)
    end_told = rw end_is (into_told (read_end (session r ix)) (end_good (session r ix) (words_fine h)))

  -- Words that say none.
  module _ (e : reader_in w ≡ saying_none) where
    chunk_off : (l : List ℕ) → chunk_read ix w l ≡ read_worded (answer_word (refused 1)) ix w
    unfolding chunk_read
    chunk_off l = rw (e, chunk_read)

    end_off : ended_reader ix w ≡ read_worded (answer_word (refused 1)) ix w
    unfolding ended_reader
    end_off = rw (e, ended_reader)

  pub read_none : (l : List ℕ) → ((r : Reader) → ReaderWords w r → ⊥)
      → UnknownReader ix w (chunk_read ix w l) × UnknownReader ix w (ended_reader ix w)
  read_none l n = go (said_in w)
    where
      go : SaidIn w → UnknownReader ix w (chunk_read ix w l) × UnknownReader ix w (ended_reader ix w)
      go (says r e h) = absurd (n r h)
      go (none e m) = rw (chunk_off e l, end_off e) ((reader_tells L.unfit, refl, refl), (reader_tells L.unfit, refl, refl))

-- What the next call makes of the words that a call has left.
module _ (w : List ℕ) (l : length w ≡ 8) (o : ReadOutcome) (g : Speaks o) where
  left_words : ReaderWords (read_into w o).reader o.left.reader
  left_words = reader_written_lem w o.left.reader l g.fine.narrow g.fine.note

  over : (p : ReadOutcome) → read_into (reader_written w o.left.reader) p ≡ read_into w p
  over p = ap (read_worded (answer_word p.answer) p.left.index) (written_again w l o.left.reader p.left.reader)

  chunk_next : (b : List ℕ) → chunk_read (read_into w o).left (read_into w o).reader b ≡ read_into w (read_chunk o.left b)
  chunk_next b = chunk_is o.left.index (read_into w o).reader o.left.reader left_words b ∙ over (read_chunk o.left b)

  end_next : ended_reader (read_into w o).left (read_into w o).reader ≡ read_into w (read_end o.left)
  end_next = end_is o.left.index (read_into w o).reader o.left.reader left_words ∙ over (read_end o.left)

-- A call again, on what a call left.
abbrev chunk_on : List ℕ → ReadWorded → ReadWorded
chunk_on l q = chunk_read q.left q.reader l

abbrev end_on : ReadWorded → ReadWorded
end_on q = ended_reader q.left q.reader

module _ (ix : Index) (w : List ℕ) where
  module _ (r : Reader) (h : ReaderWords w r) where
    abbrev d : Session
    d = session r ix

    good : {l : List ℕ} → Bytes l → Speaks (read_chunk d l)
    good k = chunk_good d (words_fine h) k

    cut_said : (a b : List ℕ) → Bytes a → chunk_on b (chunk_read ix w a) ≡ chunk_read ix w (a ++ b)
    cut_said a b k =
        ap (chunk_on b) (chunk_is ix w r h a) ∙ chunk_next w h.eight (read_chunk d a) (good k) b
        ∙ ap (read_into w) ((claims.calls d).cutting a b k) ∙ sym (chunk_is ix w r h (a ++ b))

    again_said : (l m : List ℕ) → Bytes l → RefusedBy (chunk_read ix w l).word
        → (chunk_on m (chunk_read ix w l) ≡ chunk_read ix w l) × (end_on (chunk_read ix w l) ≡ chunk_read ix w l)
    again_said l m k n =
        let t = chunk_told ix w r h k in
        let c = (claims.calls d).again l m k (λ e. n (t.tells.number ∙ e)) in (
          ap (chunk_on m) (chunk_is ix w r h l) ∙ chunk_next w h.eight (read_chunk d l) (good k) m ∙ ap (read_into w) c.0
              ∙ sym (chunk_is ix w r h l),
          ap end_on (chunk_is ix w r h l) ∙ end_next w h.eight (read_chunk d l) (good k) ∙ ap (read_into w) c.1
              ∙ sym (chunk_is ix w r h l),
        )

    ended_said : (l : List ℕ) → (chunk_on l (ended_reader ix w) ≡ ended_reader ix w) × (end_on (ended_reader ix w) ≡ ended_reader ix w)
    ended_said l =
        let c = (claims.calls d).ended l in
        let g = end_good d (words_fine h) in (
          ap (chunk_on l) (end_is ix w r h) ∙ chunk_next w h.eight (read_end d) g l ∙ ap (read_into w) c.0 ∙ sym (end_is ix w r h),
          ap end_on (end_is ix w r h) ∙ end_next w h.eight (read_end d) g ∙ ap (read_into w) c.1 ∙ sym (end_is ix w r h),
        )

  -- Words that say none are refused again.
  module _ (e : reader_in w ≡ saying_none) where
    cut_off : (a b : List ℕ) → chunk_on b (chunk_read ix w a) ≡ chunk_read ix w (a ++ b)
    cut_off a b = ap (chunk_on b) (chunk_off ix w e a) ∙ chunk_off ix w e b ∙ sym (chunk_off ix w e (a ++ b))

    again_off : (l m : List ℕ) → (chunk_on m (chunk_read ix w l) ≡ chunk_read ix w l) × (end_on (chunk_read ix w l) ≡ chunk_read ix w l)
    again_off l m = (
      ap (chunk_on m) (chunk_off ix w e l) ∙ chunk_off ix w e m ∙ sym (chunk_off ix w e l),
      ap end_on (chunk_off ix w e l) ∙ end_off ix w e ∙ sym (chunk_off ix w e l),
    )

    ended_off : (l : List ℕ) → (chunk_on l (ended_reader ix w) ≡ ended_reader ix w) × (end_on (ended_reader ix w) ≡ ended_reader ix w)
    ended_off l = (
      ap (chunk_on l) (end_off ix w e) ∙ chunk_off ix w e l ∙ sym (end_off ix w e),
      ap end_on (end_off ix w e) ∙ end_off ix w e ∙ sym (end_off ix w e),
    )

  -- What is noted is told again, and the words are those that were lent.
  noted_said : (r : Reader) (a : Answer) → ReaderWords w r → r.note ≡ said a → (q : ReadWorded)
      → q ≡ read_into w (read_outcome a (session r ix))
      → WordTells 4294967296 a q.word × (q.left ≡ ix) × (q.reader ≡ w)
  noted_said r a h n q e =
      let f = words_fine h in
      let t = into_told ix w r h (read_outcome a (session r ix)) (record { answers = spoken_answer (rw n at f.note); fine = f }) in
      rw e (t.tells, refl, reader_one (reader_written w r) w r t.reader h)

  pub continued : Continued ix w
  continued = go (said_in w)
    where
      noted : (r : Reader) (a : Answer) → ReaderWords w r → FitReader r → r.note ≡ said a → (l : List ℕ)
          → (WordTells 4294967296 a (chunk_read ix w l).word × ((chunk_read ix w l).left ≡ ix) × ((chunk_read ix w l).reader ≡ w))
          × (WordTells 4294967296 a (ended_reader ix w).word × ((ended_reader ix w).left ≡ ix) × ((ended_reader ix w).reader ≡ w))
      noted r a h f n l =
          let c = (claims.calls (session r ix)).stays f a n l in (
            noted_said r a h n (chunk_read ix w l) (chunk_is ix w r h l ∙ ap (read_into w) c.0),
            noted_said r a h n (ended_reader ix w) (end_is ix w r h ∙ ap (read_into w) c.1),
          )

      go : SaidIn w → Continued ix w
      go (says r e h) =
          record { cutting = cut_said r h; again = again_said r h; ended = ended_said r h; noted = noted }
      go (none e m) =
          record { cutting = λ a b k. cut_off e a b; again = λ l n k x. again_off e l n; ended = ended_off e; noted = noted }

-- Whether the start is refused, by tree and journal alone.
data StartsBy (ix : Index) : Answer → Type 0 where
  one : (FitIndex ix → ⊥) → StartsBy ix (refused 1)
  two : FitIndex ix → (Sound ix.live → ⊥) → StartsBy ix (refused 2)
  made : FitIndex ix → Sound ix.live → StartsBy ix (given 1)

begins_answer : {ix : Index} {a : Answer} → StartsBy ix a → ReaderAnswer a
begins_answer (one n) = L.unfit
begins_answer (two f n) = L.damaged
begins_answer (made f h) = L.takes {n = 1} (omega arith)

module _ (ix : Index) where
  start_begins : (a : Answer) × StartsBy ix a × ((r : Reader) → (read_start (session r ix)).answer ≡ a)
  start_begins = go (fits_index ix) refl (sound ix.live) refl
    where
      go : (x : Bool) → fits_index ix ≡ x → (y : Bool) → sound ix.live ≡ y
          → (a : Answer) × StartsBy ix a × ((r : Reader) → (read_start (session r ix)).answer ≡ a)
      go false e y g =
          let n : FitIndex ix → ⊥ = λ f. no_test e (index-fits ix f) in (refused 1, one n, λ r. (claims.start (session r ix)).one.1 n)
      go true e false g =
          let f = fits-index ix e in
          let n = unsound f.tree g in (refused 2, two f n, λ r. (claims.start (session r ix)).two.1 (f, n))
      go true e true g =
          let f = fits-index ix e in
          let h = yes_sound f.tree g in (given 1, made f h, λ r. (claims.start (session r ix)).accepted.1 (f, h))

  abbrev begun : ReadOutcome
  begun = read_start (session (new_reader 0) ix)

  answered : ReaderAnswer begun.answer
  answered = rw (start_begins.2 (new_reader 0)) (begins_answer start_begins.1)

  -- The reader that a start makes, where it is not refused.
  begun_reader : (a : Answer) → StartsBy ix a → begun.answer ≡ a → a.number ≡ 0
      → (begun.left.reader ≡ new_reader (length_of ix.lines)) × (length_of ix.lines < 4294967296)
  begun_reader a (one n) e z = absurd (omega arith)
  begun_reader a (two f n) e z = absurd (omega arith)
  begun_reader a (made f h) e z = (
    ap (λ (d : Session). d.reader) ((claims.start (session (new_reader 0) ix)).begins e),
    omega (arith, f.within, f.most),
  )

  module _ (w : List ℕ) where
    start_refused : Dec (length w ≡ 8) → RefusedBy (started_reader ix w).word → (started_reader ix w).reader ≡ w
    unfolding started_reader
    start_refused (yes l) n =
        let m : answer_word begun.answer / 4294967296 ≢ 0 = rw (eq-eqb (length w) 8 l) at n in
        rw (eq-eqb (length w) 8 l, le-ltb (answer_word begun.answer) 4294967296 (omega arith))
    start_refused (no d) n = rw (ne_eqb (length w) 8 d)

    start_writes_none : Dec (length w ≡ 8) → (started_reader ix w).left ≡ ix
    unfolding started_reader
    start_writes_none (yes l) = rw (eq-eqb (length w) 8 l)
    start_writes_none (no n) = rw (ne_eqb (length w) 8 n)

    start_another : length w ≢ 8 → UnknownReader ix w (started_reader ix w)
    unfolding started_reader
    start_another d = rw (ne_eqb (length w) 8 d) (reader_tells L.unfit, refl, refl)

    module _ (l : length w ≡ 8) where
      start_word : (r : Reader) → WordTells 4294967296 (read_start (session r ix)).answer (started_reader ix w).word
      unfolding started_reader
      start_word r =
          rw (eq-eqb (length w) 8 l)
          (subst (λ (a : Answer). WordTells 4294967296 a (answer_word begun.answer))
          (start_begins.2 (new_reader 0) ∙ sym (start_begins.2 r)) (reader_tells answered))

      start_made : (started_reader ix w).word / 4294967296 ≡ 0
          → ReaderWords (started_reader ix w).reader (new_reader (length_of ix.lines))
      unfolding started_reader
      start_made z =
          let m : answer_word begun.answer / 4294967296 ≡ 0 = rw (eq-eqb (length w) 8 l) at z in
          let q : begun.answer.number ≡ 0 = sym (reader_tells answered).number ∙ m in
          let f = begun_reader start_begins.0 start_begins.1 (start_begins.2 (new_reader 0))
          (sym (number (start_begins.2 (new_reader 0))) ∙ q) in
          rw (eq-eqb (length w) 8 l, lt-ltb (answer_word begun.answer) 4294967296 (omega arith), f.0)
          (reader_written_lem w (new_reader (length_of ix.lines)) l f.1 silent)

    pub started : StartTold ix w
    started =
        record {
          tells = start_word;
          left = start_writes_none (ℕ_discrete (length w) 8);
          refuses = start_refused (ℕ_discrete (length w) 8);
          begins = start_made;
          another = start_another;
        }

-- An upload: start, a chunk and the end call on words are start, chunk and end call of a session.
module _ (ix : Index) (fit : FitIndex ix) (h : Sound ix.live) (places : Places (contents h)) (w : List ℕ) (eight : length w ≡ 8)
    (l : List ℕ) (k : Bytes l) where
  begun_words : ReaderWords (started_reader ix w).reader (new_reader (length_of ix.lines))
  begun_words =
      (started ix w).begins eight
      (((started ix w).tells eight (new_reader 0)).number ∙ number ((claims.start (session (new_reader 0) ix)).accepted.1 (fit, h)))

  came_told : ReadTold (read_chunk (new_session ix) l) (chunk_after_start ix w l)
  came_told =
      subst (λ (jx : Index). ReadTold (read_chunk (session (new_reader (length_of ix.lines)) jx) l) (chunk_after_start ix w l))
      (started ix w).left
      (chunk_told (started_reader ix w).left (started_reader ix w).reader (new_reader (length_of ix.lines)) begun_words k)

  ended_told : ReadTold (read_whole ix l) (end_after_chunk ix w l)
  ended_told =
      subst (λ (jx : Index). ReadTold (read_end (session (read_chunk (new_session ix) l).left.reader jx)) (end_after_chunk ix w l))
      came_told.left
      (end_told (chunk_after_start ix w l).left (chunk_after_start ix w l).reader (read_chunk (new_session ix) l).left.reader
      came_told.reader)

  pub uploaded : UploadTold ix h w l
  uploaded =
      let u = claims.uploads ix fit h places l k in
      record {
        accepted = λ n b. (
          λ e. (u.accepted n).0 (answers_apart ended_told.tells (rw e (taken_word n b))),
          λ r. one_word (rw ((u.accepted n).1 r) at ended_told.tells) (taken_word n b),
        );
        holds = λ ss p q. rw ended_told.left (u.holds ss p q);
        refusing = λ n z. (
          λ e. (u.refusing n z).0 (sym came_told.tells.number ∙ e),
          λ r. came_told.tells.number ∙ (u.refusing n z).1 r,
        );
        ending = λ n z. (
          λ e. (u.ending n z).0 (sym ended_told.tells.number ∙ e),
          λ r. ended_told.tells.number ∙ (u.ending n z).1 r,
        );
        restores = λ n. rw came_told.left (u.restores (λ e. n (came_told.tells.number ∙ e)));
        restored = λ n. rw ended_told.left (u.restored (λ e. n (ended_told.tells.number ∙ e)));
      }
