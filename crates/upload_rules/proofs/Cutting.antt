-- Bytes are taken one after another, each by what the one before left: so it is no matter where they are cut. What is noted stays.
use mathlib.Core.Path.{◌≡◌, refl, ap, sym, ◌∙◌}
use mathlib.Core.Logic.{◌≢◌}
use mathlib.Core.Bool.{Bool, true, false}
use mathlib.Core.List.{List, [], ◌∷◌, ◌++◌, append-nil, append_assoc}
use Prim.Native.Nat.{ℕ}
use Rattle.slots.specs.Answers.{Answer, refused}
use Rattle.index_rules.specs.Index.{Index}
use Rattle.endian.specs.Bytes.{Bytes, nothing, another}
use Rattle.upload_rules.specs.Reader.{Note, unsaid, said, Reader, FitReader, fits_reader, is_whole, note_answer, reader_answer}
use Rattle.upload_rules.specs.Reading.{Session, ReadOutcome, read_outcome, turned_down, byte_came, byte_read, bytes_read, end_came}
use Rattle.upload_rules.specs.Reading.{end_read}
use Rattle.upload_rules.specs.Reading.{read_chunk, read_end, read_chunks, joined_bytes}
use Rattle.upload_rules.proofs.Ranges.{pick_both, in_range_lem, range_in, bytes_range, end_range}

pub bytes_append : {a b : List ℕ} → Bytes a → Bytes b → Bytes (a ++ b)
bytes_append nothing j = j
bytes_append (another l k) j = another l (bytes_append k j)

bytes_front : (a b : List ℕ) → Bytes (a ++ b) → Bytes a
bytes_front [] b k = nothing
bytes_front (x ∷ a) b (another s k) = another s (bytes_front a b k)

pub bytes_read_append : (d : Session) (a b : List ℕ) → bytes_read (bytes_read d a) b ≡ bytes_read d (a ++ b)
unfolding bytes_read
bytes_read_append d [] b = refl
bytes_read_append d (x ∷ a) b = bytes_read_append (byte_read d x) a b

-- A reader is in range or not.
data Either (r : Reader) : Type 0 where
  inside : FitReader r → Either r
  outside : fits_reader r ≡ false → Either r

either : (r : Reader) → Either r
either r = go (fits_reader r) refl
  where
    go : (t : Bool) → fits_reader r ≡ t → Either r
    go true e = inside (range_in r e)
    go false e = outside e

-- The answer of what is left.
abbrev pub answering : Session → ReadOutcome
answering d = read_outcome (reader_answer d.reader) d

module _ (d : Session) where
  pub chunk_in : (l : List ℕ) → FitReader d.reader → read_chunk d l ≡ answering (bytes_read d l)
  unfolding read_chunk
  chunk_in l h = rw (in_range_lem d.reader h)

  pub chunk_out : (l : List ℕ) → fits_reader d.reader ≡ false → read_chunk d l ≡ read_outcome (refused 1) d
  unfolding read_chunk
  chunk_out l e = rw e

  pub end_in : FitReader d.reader → read_end d ≡ answering (end_read d)
  unfolding read_end
  end_in h = rw (in_range_lem d.reader h)

  pub end_out : fits_reader d.reader ≡ false → read_end d ≡ read_outcome (refused 1) d
  unfolding read_end
  end_out e = rw e

pub cut : (d : Session) (a b : List ℕ) → Bytes a → read_chunk (read_chunk d a).left b ≡ read_chunk d (a ++ b)
cut d a b k = go (either d.reader)
  where
    go : Either d.reader → read_chunk (read_chunk d a).left b ≡ read_chunk d (a ++ b)
    go (inside h) =
        ap (λ (o : ReadOutcome). read_chunk o.left b) (chunk_in d a h)
        ∙ chunk_in (bytes_read d a) b (bytes_range d k h) ∙ ap answering (bytes_read_append d a b) ∙ sym (chunk_in d (a ++ b) h)
    go (outside e) = ap (λ (o : ReadOutcome). read_chunk o.left b) (chunk_out d a e) ∙ chunk_out d b e ∙ sym (chunk_out d (a ++ b) e)

-- Any number of cuts.
pub cuts : (d : Session) (l : List ℕ) (ls : List (List ℕ)) → Bytes (l ++ joined_bytes ls)
    → read_chunks (read_chunk d l) ls ≡ read_chunk d (l ++ joined_bytes ls)
unfolding read_chunks joined_bytes
cuts d l [] k = ap (read_chunk d) (sym (append-nil l))
cuts d l (m ∷ ls) k =
    ap (λ (o : ReadOutcome). read_chunks o ls) (cut d l m (bytes_front l (m ++ joined_bytes ls) k))
    ∙ cuts d (l ++ m) ls (rw append_assoc k) ∙ ap (read_chunk d) (append_assoc l m (joined_bytes ls))

-- While nothing is noted.
pub byte_open : (d : Session) (b : ℕ) → d.reader.note ≡ unsaid → byte_read d b ≡ byte_came d.reader d.index b
unfolding byte_read
byte_open d b e = rw e

pub end_open : (d : Session) → d.reader.note ≡ unsaid → end_read d ≡ end_came d.reader d.index
unfolding end_read
end_open d e = rw e

-- What is noted stays, and so does all else.
pub byte_said : (d : Session) {a : Answer} (b : ℕ) → d.reader.note ≡ said a → byte_read d b ≡ d
unfolding byte_read
byte_said d b e = rw e

pub bytes_said : (d : Session) {a : Answer} (l : List ℕ) → d.reader.note ≡ said a → bytes_read d l ≡ d
unfolding bytes_read
bytes_said d [] e = refl
bytes_said d (b ∷ l) e = ap (λ (x : Session). bytes_read x l) (byte_said d b e) ∙ bytes_said d l e

pub end_said : (d : Session) {a : Answer} → d.reader.note ≡ said a → end_read d ≡ d
unfolding end_read
end_said d e = rw e

module _ (d : Session) (h : FitReader d.reader) {a : Answer} (e : d.reader.note ≡ said a) where
  says : answering d ≡ read_outcome a d
  says = ap (λ (n : Note). read_outcome (note_answer n d.reader.taken) d) e

  pub chunk_stays : (l : List ℕ) → read_chunk d l ≡ read_outcome a d
  chunk_stays l = chunk_in d l h ∙ ap answering (bytes_said d l e) ∙ says

  pub end_stays : read_end d ≡ read_outcome a d
  end_stays = end_in d h ∙ ap answering (end_said d e) ∙ says

-- A reader that answers a refusal has it noted.
refused_said : (n : Note) (taken : ℕ) → (note_answer n taken).number ≢ 0 → n ≡ said (note_answer n taken)
refused_said unsaid taken h = absurd (h refl)
refused_said (said a) taken h = refl

-- Both calls after one that left its answer noted, or was out of range.
abbrev Again : Session → ReadOutcome → List ℕ → Type 0
Again d o m = (read_chunk d m ≡ o) × (read_end d ≡ o)

again_in : (d : Session) (m : List ℕ) → FitReader d.reader → d.reader.note ≡ said (reader_answer d.reader) → Again d (answering d) m
again_in d m h e = (chunk_stays d h e m, end_stays d h e)

again_out : (d : Session) (m : List ℕ) → fits_reader d.reader ≡ false → Again d (read_outcome (refused 1) d) m
again_out d m e = (chunk_out d m e, end_out d e)

again_by : {o p : ReadOutcome} (m : List ℕ) → o ≡ p → Again p.left p m → Again o.left o m
again_by m e g = rw e g

pub chunk_again : (d : Session) (l m : List ℕ) → Bytes l → (read_chunk d l).answer.number ≢ 0
    → Again (read_chunk d l).left (read_chunk d l) m
chunk_again d l m k n = go (either d.reader)
  where
    go : Either d.reader → Again (read_chunk d l).left (read_chunk d l) m
    go (inside h) =
        let x = bytes_read d l in
        let c = chunk_in d l h in
        let q = refused_said x.reader.note x.reader.taken (λ z. n (ap (λ (o : ReadOutcome). o.answer.number) c ∙ z)) in
        again_by m c (again_in x m (bytes_range d k h) q)
    go (outside e) = again_by m (chunk_out d l e) (again_out d m e)

-- The end call notes an answer, whichever.
abbrev Answered : Session → Type 0
Answered d = d.reader.note ≡ said (reader_answer d.reader)

end_came_notes : (r : Reader) (ix : Index) → Answered (end_came r ix)
unfolding end_came turned_down
end_came_notes r ix = pick_both Answered (is_whole r) _ _ refl refl

end_notes : (d : Session) → Answered (end_read d)
end_notes d = go d.reader.note refl
  where
    go : (n : Note) → d.reader.note ≡ n → Answered (end_read d)
    go unsaid e = rw (end_open d e) (end_came_notes d.reader d.index)
    go (said a) e = rw (end_said d e) (e ∙ ap (λ (n : Note). said (note_answer n d.reader.taken)) (sym e))

pub end_again : (d : Session) (l : List ℕ) → Again (read_end d).left (read_end d) l
end_again d l = go (either d.reader)
  where
    go : Either d.reader → Again (read_end d).left (read_end d) l
    go (inside h) = again_by l (end_in d h) (again_in (end_read d) l (end_range d h) (end_notes d))
    go (outside e) = again_by l (end_out d e) (again_out d l e)
