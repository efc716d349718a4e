-- What start, chunk and end do: "bytes are taken one after the other", an insert at an entry's last byte, a rollback on a refusal.
use Rattle.std.specs.Prelude.{Bool, List, [], ◌∷◌, ◌++◌, ℕ, ◌+◌, ◌-◌, ◌*◌, ◌/◌, eqb, ltb}
use Rattle.slots.specs.Words.{pick}
use Rattle.slots.specs.Answers.{Answer, given, refused}
use Rattle.index_rules.specs.Sound.{sound}
use Rattle.index_rules.specs.Index.{Index, Outcome, fits_index, length_of}
use Rattle.index_rules.specs.Insert.{inserts}
use Rattle.index_rules.specs.Rollback.{rolls}
use Rattle.upload_rules.specs.Reader.{unsaid, Reader, reader_of, new_reader, noting, fits_reader, is_whole, is_open, reader_answer}

-- All that the three calls work on.
pub record Session : Type 0 where
  pub reader : Reader
  pub index : Index

abbrev pub session : Reader → Index → Session
session r ix = record { reader = r; index = ix }

-- What a call comes to: its answer, and all that it leaves.
pub record ReadOutcome : Type 0 where
  pub answer : Answer
  pub left : Session

abbrev pub read_outcome : Answer → Session → ReadOutcome
read_outcome a d = record { answer = a; left = d }

-- What is noted: "the refusal itself .. or, where the rollback is refused in turn, its 1, 2, 7 or 8".
unfoldable pub goes_up : Answer → Answer → Answer
goes_up a back = pick (eqb back.number 0) a back

-- To which mark: that of the start; "a journal whose length is below mark + taken answers 7, as a rollback to mark + taken does".
unfoldable pub back_mark : Reader → Index → ℕ
back_mark r ix = let all = r.mark + r.taken in pick (ltb (length_of ix.lines) all) all r.mark

-- A refusal: "by rollback to the mark of the start".
unfoldable pub turned_down : Reader → Index → Answer → Session
turned_down r ix a = let o = rolls ix (back_mark r ix) in session (noting r (goes_up a o.answer)) o.left

-- A number with the next of its bytes on top, where the lowest byte goes: the count's two bytes, a hash's or a key's eight.
unfoldable pub count_byte : ℕ → ℕ → ℕ
count_byte x b = x / 256 + 256 * b

unfoldable pub name_byte : ℕ → ℕ → ℕ
name_byte x b = x / 256 + 72057594037927936 * b

-- So many entries are to come in the section: the next one, or else the next section.
unfoldable pub owing : Reader → ℕ → ℕ → Reader
owing r owed taken =
    pick (eqb owed 0)
    (reader_of (r.section + 1) 0 0 0 0 r.mark taken unsaid)
    (reader_of r.section 3 owed 0 0 r.mark taken unsaid)

-- "A wrong kind byte is 18 at that byte."
unfoldable pub kind_came : Reader → Index → ℕ → Session
kind_came r ix b =
    pick (eqb b (r.section + 1))
    (session (reader_of r.section 1 0 0 0 r.mark r.taken unsaid) ix)
    (turned_down r ix (refused 18))

-- A byte of the count.
unfoldable pub count_came : Reader → ℕ → Reader
count_came r b =
    let owed = count_byte r.owed b in
    pick (eqb r.got 1) (reader_of r.section 2 owed 0 0 r.mark r.taken unsaid) (owing r owed r.taken)

-- The next byte is one of the hash.
unfoldable pub in_hash : Reader → Bool
in_hash r = ltb r.got 11

-- A byte of an entry that is not its last.
unfoldable pub entry_came : Reader → ℕ → Reader
entry_came r b =
    pick (in_hash r)
    (reader_of r.section (r.got + 1) r.owed (name_byte r.hash b) r.key r.mark r.taken unsaid)
    (reader_of r.section (r.got + 1) r.owed r.hash (name_byte r.key b) r.mark r.taken unsaid)

-- "the offset of its first byte in the upload", told by the sections and entries taken
unfoldable pub entry_place : Reader → ℕ
entry_place r = 3 * r.section + 3 + 16 * r.taken

-- "An entry is inserted at its last byte": what comes of the insert.
abbrev pub came_of : Reader → Outcome → Session
came_of r o =
    pick (eqb o.answer.number 0)
    (session (owing r (r.owed - 1) (r.taken + 1)) o.left)
    (turned_down r o.left o.answer)

unfoldable pub last_came : Reader → Index → ℕ → Session
last_came r ix b = came_of r (inserts ix r.hash (name_byte r.key b) (entry_place r))

-- A byte, nothing being noted: "any byte after section 4 is 13".
unfoldable pub byte_came : Reader → Index → ℕ → Session
byte_came r ix b =
    pick (is_whole r) (turned_down r ix (refused 13))
    (pick (eqb r.got 0) (kind_came r ix b)
    (pick (ltb r.got 3) (session (count_came r b) ix)
    (pick (ltb r.got 18) (session (entry_came r b) ix) (last_came r ix b))))

-- A byte: "every later chunk and end call give the noted answer again, whatever is lent, and change nothing".
unfoldable pub byte_read : Session → ℕ → Session
byte_read d b = pick (is_open d.reader.note) (byte_came d.reader d.index b) d

unfoldable pub bytes_read : Session → List ℕ → Session
bytes_read d [] = d
bytes_read d (b ∷ l) = bytes_read (byte_read d b) l

-- The end of the bytes, nothing being noted: "The end call before section 4 is whole is 12." "An accepted end call is noted likewise."
unfoldable pub end_came : Reader → Index → Session
end_came r ix = pick (is_whole r) (session (noting r (given r.taken)) ix) (turned_down r ix (refused 12))

unfoldable pub end_read : Session → Session
end_read d = pick (is_open d.reader.note) (end_came d.reader d.index) d

-- The answer of what a call leaves; a word of the reader out of its range is 1, and nothing changes.
abbrev pub if_fit : Session → Session → ReadOutcome
if_fit d e = pick (fits_reader d.reader) (read_outcome (reader_answer e.reader) e) (read_outcome (refused 1) d)

-- chunk
unfoldable pub read_chunk : Session → List ℕ → ReadOutcome
read_chunk d l = if_fit d (bytes_read d l)

-- end
unfoldable pub read_end : Session → ReadOutcome
read_end d = if_fit d (end_read d)

-- start: "The start refuses unless tree and journal pass 1 and 2."
abbrev pub new_session : Index → Session
new_session ix = session (new_reader (length_of ix.lines)) ix

unfoldable pub read_start : Session → ReadOutcome
read_start d =
    let ix = d.index in
    pick (fits_index ix)
    (pick (sound ix.live) (read_outcome (given 1) (new_session ix)) (read_outcome (refused 2) d))
    (read_outcome (refused 1) d)

-- Chunks one after another: what the last answers, and what is left.
unfoldable pub read_chunks : ReadOutcome → List (List ℕ) → ReadOutcome
read_chunks o [] = o
read_chunks o (l ∷ ls) = read_chunks (read_chunk o.left l) ls

-- The bytes of chunks.
unfoldable pub joined_bytes : List (List ℕ) → List ℕ
joined_bytes [] = []
joined_bytes (l ∷ ls) = l ++ joined_bytes ls

-- A whole upload in one chunk, and the end call.
abbrev pub read_whole : Index → List ℕ → ReadOutcome
read_whole ix l = read_end (read_chunk (new_session ix) l).left
