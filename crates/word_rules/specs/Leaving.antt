-- What a call comes to, said of the words that it answers and leaves by the call's own outcome and by the rules' tables.
use Rattle.std.specs.Prelude.{◌≡◌, ◌≢◌, ◌⊎◌, ◌↔◌, List, [], ◌∷◌, ◌++◌, ℕ, ◌/◌, ◌<◌, ◌≤◌, length, get_or}
use Rattle.slots.specs.Words.{null, most_slots}
use Rattle.slots.specs.Pairs.{Pair}
use Rattle.slots.specs.Answers.{Answer, given, refused}
use Rattle.tree_rules.specs.Find.{slots_of}
use Rattle.index_rules.specs.Live.{Live, Fit}
use Rattle.index_rules.specs.Sound.{Sound}
use Rattle.index_rules.specs.Index.{Index, Outcome, FitIndex, length_of}
use Rattle.index_rules.specs.Batch.{FitCalls, batches, singly}
use Rattle.set_rules.specs.Words.{Set}
use Rattle.set_rules.specs.Cursor.{Cursor, starts}
use Rattle.set_rules.specs.Walk.{nexts}
use Rattle.set_rules.specs.Walked.{WholeWalk}
use Rattle.upload_rules.specs.Upload.{Upload, entries_of}
use Rattle.endian.specs.Bytes.{Bytes}
use Rattle.upload_rules.specs.Reader.{said, Reader, new_reader, FitReader}
use Rattle.upload_rules.specs.Reading.{session, ReadOutcome, read_start}
use Rattle.upload_rules.specs.Parts.{Enters, Refusal, Short}
use Rattle.upload_rules.specs.Left.{Uploaded, Restored}
use Rattle.night_rules.specs.Account.{Account, Explained}
use Rattle.night_rules.specs.Reason.{Reason}
use Rattle.night_rules.specs.Salvage.{Salvaged, salvaged}
use Rattle.night_rules.specs.Saved.{FitSalvage}
use Rattle.night_rules.specs.Claims.{Saves}
use Rattle.word_rules.specs.Told.{WordTells}
use Rattle.word_rules.specs.Lent.{ReaderWords, CursorWords, AccountWords, SaysNothing, ReportWord}
use Rattle.word_rules.specs.Words.{Worded, batch_worded, WhyWorded, SalvageWorded}
use Rattle.word_rules.specs.Readers.{ReadWorded, started_reader, chunk_read, ended_reader}
use Rattle.word_rules.specs.Cursors.{Kept, started_cursor, walked_cursor}

-- "Number 0 is no refusal": the word is that of a refusal.
abbrev pub RefusedBy : ℕ → Type 0
RefusedBy word = word / 4294967296 ≢ 0

-- Of a call that writes: the word tells the outcome's answer, and its index is left.
pub record WritesTold (o : Outcome) (r : Worded) : Type 0 where
  pub tells : WordTells null o.answer r.word
  pub left : r.left ≡ o.left

-- The first words tell these answers, one each.
pub data EachTold : List Answer → List ℕ → Type 0 where
  end : {l : List ℕ} → EachTold [] l
  next : {a : Answer} {rest : List Answer} {word : ℕ} {l : List ℕ} → WordTells null a word → EachTold rest l
      → EachTold (a ∷ rest) (word ∷ l)

pub record BatchTold (ix : Index) (calls answers : List ℕ) : Type 0 where
  pub tells : WordTells null (batches ix calls answers).answer (batch_worded (batches ix calls answers)).word
  pub left : (batch_worded (batches ix calls answers)).left ≡ (batches ix calls answers).left
  pub refuses : RefusedBy (batch_worded (batches ix calls answers)).word → (batch_worded (batches ix calls answers)).answers ≡ answers
  -- an answer's word for each call, in their order
  pub each : FitIndex ix → Sound ix.live → (c : FitCalls calls answers)
      → EachTold (singly c.made ix) (batch_worded (batches ix calls answers)).answers

-- oz_why, on any words of `shown`: of the rules' call that comes to o the word tells the answer, and what is told is true.
pub record ReasonTold (t : Live) (shown : List ℕ) (o : Explained) (r : WhyWorded) : Type 0 where
  pub tells : WordTells null o.answer r.word
  -- "It is 1 where the tree's slices do not fit or `shown` is not eight words, and `shown` stays as it was."
  pub one : (r.word / 4294967296 ≡ 1) ↔ ((Fit t × (length shown ≡ 8)) → ⊥)
  pub stays : RefusedBy r.word → r.shown ≡ shown
  -- "Refusals: 1 only."
  pub only_one : RefusedBy r.word → r.word / 4294967296 ≡ 1
  -- "The number told is 0 for a sound tree, else that of the first broken rule", one of "T1 to T8"
  pub sound : (r.word ≡ 0) ↔ (Fit t × (length shown ≡ 8) × Sound t)
  pub rules : r.word / 4294967296 ≡ 0 → r.word ≤ 8
  -- the one true reason, in these words
  pub reason : r.word / 4294967296 ≡ 0 → r.word ≢ 0
      → (a : Account) × Reason t a × (a.rule ≡ r.word) × AccountWords r.shown a
  -- "Words of `shown` that say nothing are null"
  pub nulls : r.word / 4294967296 ≡ 0 → (at : ℕ) → at < 8 → SaysNothing r.word at → get_or r.shown at 0 ≡ null

-- oz_salvage, on any words: of the rules' call that comes to o the word tells the answer, and what is left is what the rules say.
pub record SalvageTold (names cells : List ℕ) (u : Live) (report : List ℕ) (o : Salvaged) (r : SalvageWorded) : Type 0 where
  pub tells : WordTells null o.answer r.word
  -- "Refusals: 1 only."
  pub one : (r.word / 4294967296 ≡ 1) ↔ (FitSalvage names cells u report → ⊥)
  pub only_one : RefusedBy r.word → r.word / 4294967296 ≡ 1
  -- "A refused call writes nothing."
  pub stays : RefusedBy r.word → (r.into ≡ u) × (r.report ≡ report)
  -- "It answers the slots kept", no more than there are, and all that is left is what section 14 says
  pub few : r.word / 4294967296 ≡ 0 → r.word ≤ slots_of names
  pub saves : r.word / 4294967296 ≡ 0 → Saves names cells u report (salvaged (given r.word) r.into r.report)
  -- each word of the report, by the table
  pub words : r.word / 4294967296 ≡ 0 → (i : ℕ) → i < slots_of names → ReportWord names cells i (get_or r.report i null)

-- The words are told as 1 and stay.
abbrev pub UnknownReader : Index → List ℕ → ReadWorded → Type 0
UnknownReader ix w r = WordTells 4294967296 (refused 1) r.word × (r.left ≡ ix) × (r.reader ≡ w)

-- oz_read_start, on any words of the reader.
pub record StartTold (ix : Index) (w : List ℕ) : Type 0 where
  pub tells : length w ≡ 8 → (r : Reader) → WordTells 4294967296 (read_start (session r ix)).answer (started_reader ix w).word
  -- "it writes the reader and nothing else"
  pub left : (started_reader ix w).left ≡ ix
  -- "A refused start leaves the reader as it was."
  pub refuses : RefusedBy (started_reader ix w).word → (started_reader ix w).reader ≡ w
  pub begins : length w ≡ 8 → (started_reader ix w).word / 4294967296 ≡ 0
      → ReaderWords (started_reader ix w).reader (new_reader (length_of ix.lines))
  -- "A reader of another length than eight words is 1."
  pub another : length w ≢ 8 → UnknownReader ix w (started_reader ix w)

-- A call of the reader that comes to o: the word tells the answer, the index is left, and the words are the reader that is left.
pub record ReadTold (o : ReadOutcome) (r : ReadWorded) : Type 0 where
  pub tells : WordTells 4294967296 o.answer r.word
  pub left : r.left ≡ o.left.index
  pub reader : ReaderWords r.reader o.left.reader

-- Chunks and end calls one after the other, each lent what the one before left.
pub record Continued (ix : Index) (w : List ℕ) : Type 0 where
  -- "Wherever the upload is cut, inside a section header above all, answers, tree and journal are the same."
  pub cutting : (a b : List ℕ) → Bytes a → chunk_read (chunk_read ix w a).left (chunk_read ix w a).reader b ≡ chunk_read ix w (a ++ b)
  -- "Every later chunk and end call give the noted answer again, whatever is lent, and change nothing."
  pub again : (l m : List ℕ) → Bytes l → RefusedBy (chunk_read ix w l).word
      → (chunk_read (chunk_read ix w l).left (chunk_read ix w l).reader m ≡ chunk_read ix w l)
      × (ended_reader (chunk_read ix w l).left (chunk_read ix w l).reader ≡ chunk_read ix w l)
  pub ended : (l : List ℕ) → (chunk_read (ended_reader ix w).left (ended_reader ix w).reader l ≡ ended_reader ix w)
      × (ended_reader (ended_reader ix w).left (ended_reader ix w).reader ≡ ended_reader ix w)
  -- "whatever is lent": any index
  pub noted : (r : Reader) (a : Answer) → ReaderWords w r → FitReader r → r.note ≡ said a → (l : List ℕ)
      → (WordTells 4294967296 a (chunk_read ix w l).word × ((chunk_read ix w l).left ≡ ix) × ((chunk_read ix w l).reader ≡ w))
      × (WordTells 4294967296 a (ended_reader ix w).word × ((ended_reader ix w).left ≡ ix) × ((ended_reader ix w).reader ≡ w))

-- What start, one chunk of these bytes and the end call leave, on any eight words.
abbrev pub chunk_after_start : Index → List ℕ → List ℕ → ReadWorded
chunk_after_start ix w l = chunk_read (started_reader ix w).left (started_reader ix w).reader l

abbrev pub end_after_chunk : Index → List ℕ → List ℕ → ReadWorded
end_after_chunk ix w l = ended_reader (chunk_after_start ix w l).left (chunk_after_start ix w l).reader

-- An upload from a fit and sound index on, nobody else writing.
pub record UploadTold (ix : Index) (h : Sound ix.live) (w l : List ℕ) : Type 0 where
  -- "The end call answers n exactly if the bytes are an upload of n entries" that can all be taken
  pub accepted : (n : ℕ) → n < 4294967296 → ((end_after_chunk ix w l).word ≡ n)
      ↔ ((ss : List (List Pair)) × Upload l ss × (length (entries_of 1 0 ss) ≡ n) × Enters ix h (entries_of 1 0 ss))
  -- "The tree then holds what it held and these entries"
  pub holds : (ss : List (List Pair)) → Upload l ss → Enters ix h (entries_of 1 0 ss)
      → Uploaded ix h (entries_of 1 0 ss) (end_after_chunk ix w l).left
  -- "the first in byte order is the answer"
  pub refusing : (n : ℕ) → n ≢ 0 → ((chunk_after_start ix w l).word / 4294967296 ≡ n) ↔ Refusal ix h l n
  pub ending : (n : ℕ) → n ≢ 0 → ((end_after_chunk ix w l).word / 4294967296 ≡ n) ↔ (Refusal ix h l n ⊎ (Short ix h l × (n ≡ 12)))
  -- "On refusal .. the tree holds what it held at the start"
  pub restores : RefusedBy (chunk_after_start ix w l).word → Restored ix h (chunk_after_start ix w l).left
  pub restored : RefusedBy (end_after_chunk ix w l).word → Restored ix h (end_after_chunk ix w l).left

-- The words are told as 1 and stay.
abbrev pub UnknownCursor : List ℕ → Kept → Type 0
UnknownCursor w k = WordTells null (refused 1) k.word × (k.cursor ≡ w)

-- oz_start, on any words of the cursor.
pub record CursorMade (s : Set) (t : ℕ) (w : List ℕ) : Type 0 where
  pub tells : length w ≡ 11 → WordTells null (starts s t).answer (started_cursor s t w).word
  pub made : length w ≡ 11 → (started_cursor s t w).word / 4294967296 ≡ 0 → CursorWords (started_cursor s t w).cursor (starts s t).cursor
  -- "a refused call leaves it as it was"
  pub refuses : RefusedBy (started_cursor s t w).word → (started_cursor s t w).cursor ≡ w
  -- "another length is 1"
  pub another : length w ≢ 11 → UnknownCursor w (started_cursor s t w)

-- oz_walk, on any words of the cursor.
pub record WalkTold (s : Set) (w : List ℕ) : Type 0 where
  -- a step from the cursor that the words are, and then they are the cursor after it
  pub tells : (c : Cursor) → CursorWords w c → WordTells null (nexts s c).answer (walked_cursor s w).word
  pub below : (c : Cursor) → (x : ℕ) → (nexts s c).answer ≡ given x → x < most_slots
  pub steps : (c : Cursor) → CursorWords w c → CursorWords (walked_cursor s w).cursor (nexts s c).cursor
  pub refuses : RefusedBy (walked_cursor s w).word → (walked_cursor s w).cursor ≡ w
  pub another : length w ≢ 11 → UnknownCursor w (walked_cursor s w)

-- The slots that calls of oz_walk answer, each lent the words that the one before left, until Done.
pub data WordsListing (s : Set) : List ℕ → List ℕ → Type 0 where
  done : {w : List ℕ} → (walked_cursor s w).word ≡ null → WordsListing s w []
  step : {w : List ℕ} {x : ℕ} {l : List ℕ} → (walked_cursor s w).word ≡ x → x < null → WordsListing s (walked_cursor s w).cursor l
      → WordsListing s w (x ∷ l)

-- From the words that oz_start leaves for table t: what set_rules says of a whole walk is said of them.
pub record WordsWalk (s : Set) (t : ℕ) (w : List ℕ) : Type 0 where
  pub walk : WholeWalk s t
  pub same : (l : List ℕ) → WordsListing s (started_cursor s t w).cursor l ↔ (l ≡ walk.given-slots)
