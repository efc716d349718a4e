-- The reader that the section reader's calls are lent: eight words, and what a call leaves in them.
use Rattle.std.specs.Prelude.{List, ℕ, ◌+◌, ◌-◌, length, get_or, set, eqb, ltb}
use Rattle.slots.specs.Words.{pick}
use Rattle.slots.specs.Answers.{refused, answer_word}
use Rattle.index_rules.specs.Index.{Index}
use Rattle.upload_rules.specs.Reader.{Reader, reader_of, new_reader}
use Rattle.upload_rules.specs.Reading.{session, ReadOutcome, read_start, read_chunk, read_end}
use Rattle.reader.specs.Notes.{note_at}
use Rattle.upload_rules.specs.Notes.{NoteSaid, known, unknown, note_word}

-- The words say a reader, or none: word 5 is 0, or more than 1 above a 32-bit word, or the note is no answer of the reader.
pub data ReaderSaid : Type 0 where
  saying : Reader → ReaderSaid
  saying_none : ReaderSaid

abbrev pub with_note : List ℕ → NoteSaid → ReaderSaid
with_note w (known n) =
    saying (reader_of (get_or w 0 0) (get_or w 1 0) (get_or w 2 0) (get_or w 3 0) (get_or w 4 0) (get_or w 5 0 - 1) (get_or w 6 0) n)
with_note w unknown = saying_none

-- "A reader of another length than eight words is 1." Word 5 is "the mark of the start, and 1 more", "so that eight zeros are no reader".
unfoldable pub reader_in : List ℕ → ReaderSaid
reader_in w =
    pick (eqb (length w) 8)
    (pick (eqb (get_or w 5 0) 0) saying_none (pick (ltb (get_or w 5 0) 4294967297) (with_note w (note_at (get_or w 7 0))) saying_none))
    saying_none

unfoldable pub reader_written : List ℕ → Reader → List ℕ
reader_written w r =
    let low = set (set (set (set w 0 r.section) 1 r.got) 2 r.owed) 3 r.hash in
    set (set (set (set low 4 r.key) 5 (r.mark + 1)) 6 r.taken) 7 (note_word r.note)

-- What a call comes to: its word, and what it leaves in the index and in the reader's words.
pub record ReadWorded : Type 0 where
  pub word : ℕ
  pub left : Index
  pub reader : List ℕ

abbrev pub read_worded : ℕ → Index → List ℕ → ReadWorded
read_worded word ix w = record { word = word; left = ix; reader = w }

-- "A refused start leaves the reader as it was": the word of a refusal is 2^32 or more.
unfoldable pub started_reader : Index → List ℕ → ReadWorded
started_reader ix w =
    let o = read_start (session (new_reader 0) ix) in
    pick (eqb (length w) 8)
    (read_worded (answer_word o.answer) ix (pick (ltb (answer_word o.answer) 4294967296) (reader_written w o.left.reader) w))
    (read_worded (answer_word (refused 1)) ix w)

abbrev pub read_into : List ℕ → ReadOutcome → ReadWorded
read_into w o = read_worded (answer_word o.answer) o.left.index (reader_written w o.left.reader)

unfoldable pub chunk_read : Index → List ℕ → List ℕ → ReadWorded
chunk_read ix w chunk =
    elim (reader_in w) [
      | saying r ↦ read_into w (read_chunk (session r ix) chunk)
      | saying_none ↦ read_worded (answer_word (refused 1)) ix w
    ]

unfoldable pub ended_reader : Index → List ℕ → ReadWorded
ended_reader ix w =
    elim (reader_in w) [ saying r ↦ read_into w (read_end (session r ix)) | saying_none ↦ read_worded (answer_word (refused 1)) ix w ]
