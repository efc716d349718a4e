-- What crate `upload_rules` proves of the reader, in one record. Every statement of the crate stands here.
use Rattle.std.specs.Prelude.{◌≡◌, ◌≢◌, ◌⊎◌, ◌↔◌, List, ◌++◌, ℕ, ◌<◌, length}
use Rattle.slots.specs.Pairs.{Pair}
use Rattle.slots.specs.Answers.{Answer, some, given, refused}
use Rattle.index_rules.specs.Sound.{Sound}
use Rattle.index_rules.specs.Index.{Index, FitIndex, length_of}
use Rattle.index_rules.specs.Insert.{inserts}
use Rattle.index_rules.specs.Rollback.{rolls}
use Rattle.index_rules.specs.Contents.{contents}
use Rattle.index_rules.specs.Calls.{Places}
use Rattle.upload_rules.specs.Upload.{Upload, entries_of}
use Rattle.endian.specs.Bytes.{Bytes}
use Rattle.upload_rules.specs.Reader.{new_reader, unsaid, said, noting, FitReader}
use Rattle.upload_rules.specs.Reading.{Session, session, read_outcome, byte_read, new_session}
use Rattle.upload_rules.specs.Reading.{read_start, read_chunk, read_end, read_chunks, joined_bytes, read_whole}
use Rattle.upload_rules.specs.Steps.{ByteStep}
use Rattle.upload_rules.specs.Parts.{UploadPart, part_entries, Enters, IsPart, Refusal, Short, PresentIn}
use Rattle.upload_rules.specs.Left.{Uploaded, Restored}

-- start on any words.
pub record ReadStarts (d : Session) : Type 0 where
  -- "The start refuses unless tree and journal pass 1 and 2", exactly when insert would
  pub one : ((read_start d).answer ≡ refused 1) ↔ (FitIndex d.index → ⊥)
  pub two : ((read_start d).answer ≡ refused 2) ↔ (FitIndex d.index × (Sound d.index.live → ⊥))
  pub accepted : ((read_start d).answer ≡ given 1) ↔ (FitIndex d.index × Sound d.index.live)
  pub as_insert : (hash key p : ℕ) → (((read_start d).answer ≡ refused 1) ↔ ((inserts d.index hash key p).answer ≡ refused 1))
      × (((read_start d).answer ≡ refused 2) ↔ ((inserts d.index hash key p).answer ≡ refused 2))
  -- "A refused start leaves the reader as it was"; else it writes the reader, whatever its words were, and nothing else
  pub refuses : (read_start d).answer.number ≢ 0 → (read_start d).left ≡ d
  pub begins : (read_start d).answer ≡ given 1 → (read_start d).left ≡ session (new_reader (length_of d.index.lines)) d.index
  pub inside : (read_start d).answer ≡ given 1 → FitReader (read_start d).left.reader

-- chunk and end on any words, with any reader.
pub record ReadCalls (d : Session) : Type 0 where
  -- "Wherever the upload is cut, inside a section header above all, answers, tree and journal are the same"; and so is the reader
  pub cutting : (a b : List ℕ) → Bytes a → read_chunk (read_chunk d a).left b ≡ read_chunk d (a ++ b)
  pub cuttings : (l : List ℕ) (ls : List (List ℕ)) → Bytes (l ++ joined_bytes ls)
      → read_chunks (read_chunk d l) ls ≡ read_chunk d (l ++ joined_bytes ls)
  -- "every later chunk and end call give the noted answer again, whatever is lent, and change nothing": after a refusal, after an end call,
  -- and on any index
  pub again : (l m : List ℕ) → Bytes l → (read_chunk d l).answer.number ≢ 0
      → (read_chunk (read_chunk d l).left m ≡ read_chunk d l) × (read_end (read_chunk d l).left ≡ read_chunk d l)
  pub ended : (l : List ℕ) → (read_chunk (read_end d).left l ≡ read_end d) × (read_end (read_end d).left ≡ read_end d)
  pub stays : FitReader d.reader → (a : Answer) → d.reader.note ≡ said a → (l : List ℕ)
      → (read_chunk d l ≡ read_outcome a d) × (read_end d ≡ read_outcome a d)
  -- "Out of them chunk and end answer 1, which is not noted, and change nothing"; "a byte leaves a reader in range", and the end call too
  pub outside : (FitReader d.reader → ⊥) → (l : List ℕ)
      → (read_chunk d l ≡ read_outcome (refused 1) d) × (read_end d ≡ read_outcome (refused 1) d)
  pub inside : FitReader d.reader → (l : List ℕ) → Bytes l
      → FitReader (read_chunk d l).left.reader × FitReader (read_end d).left.reader
  -- what a byte does to the index, whoever wrote it: nothing, an insert, or a rollback; "the 1, 2, 7 or 8 that an insert or rollback gives
  -- goes up and that insert or rollback writes nothing"
  pub step : FitReader d.reader → d.reader.note ≡ unsaid → (b : ℕ) → ByteStep d.reader d.index (byte_read d b)
  -- the 1 or 2 of an insert is the one that goes up: the rollback answers the same
  pub agrees : (hash key p m : ℕ) → ((inserts d.index hash key p).answer ≡ refused 1 → (rolls d.index m).answer ≡ refused 1)
      × ((inserts d.index hash key p).answer ≡ refused 2 → (rolls d.index m).answer ≡ refused 2)
  -- "the end call of a whole upload" makes "no call of the index", and its answer is noted; else it is refused like a byte
  pub last : FitReader d.reader → d.reader.note ≡ unsaid → d.reader.section ≡ 4
      → read_end d ≡ read_outcome (given d.reader.taken) (session (noting d.reader (given d.reader.taken)) d.index)
  pub short : FitReader d.reader → d.reader.note ≡ unsaid → d.reader.section ≢ 4
      → ByteStep d.reader d.index (read_end d).left

-- Uploads from a fit and sound index on, nobody else writing. The bytes l are all that came since the start, in one chunk: what is said of
-- it is by `cuttings` said of any chunks.
pub record Uploads (ix : Index) (f : FitIndex ix) (h : Sound ix.live) (p : Places (contents h)) (l : List ℕ) (k : Bytes l) : Type 0 where
  -- the end call answers n exactly if the bytes are an upload of n entries that can all be taken
  pub accepted : (n : ℕ) → ((read_whole ix l).answer ≡ given n)
      ↔ ((ss : List (List Pair)) × Upload l ss × (length (entries_of 1 0 ss) ≡ n) × Enters ix h (entries_of 1 0 ss))
  -- then the tree holds what it held and each entry "with the offset of its first byte in the upload as place"
  pub holds : (ss : List (List Pair)) → Upload l ss → Enters ix h (entries_of 1 0 ss)
      → Uploaded ix h (entries_of 1 0 ss) (read_whole ix l).left.index
  -- "A chunk and the end call answer the entries taken since the start": a chunk that is not refused those of the part that came
  pub taken : (n : ℕ) → ((read_chunk (new_session ix) l).answer ≡ given n)
      ↔ ((part : UploadPart) × IsPart ix h l part × (length (part_entries part) ≡ n))
  pub so_far : (part : UploadPart) → IsPart ix h l part → Uploaded ix h (part_entries part) (read_chunk (new_session ix) l).left.index
  -- "the first in byte order is the answer": of a chunk each number exactly when its reason holds, and of the end call also 12
  pub refusing : (n : ℕ) → n ≢ 0 → ((read_chunk (new_session ix) l).answer.number ≡ n) ↔ Refusal ix h l n
  pub ending : (n : ℕ) → n ≢ 0 → ((read_whole ix l).answer.number ≡ n) ↔ (Refusal ix h l n ⊎ (Short ix h l × (n ≡ 12)))
  -- "3 with the slot of the pair at that point", and no other refusal has a value with it
  pub slot : (x : ℕ) → ((read_chunk (new_session ix) l).answer ≡ record { number = 3; value = some x }) ↔ PresentIn ix h l x
  pub present : (read_chunk (new_session ix) l).answer.number ≡ 3 → (x : ℕ) × PresentIn ix h l x
  pub plain : (read_whole ix l).answer.number ≢ 0 → (read_whole ix l).answer.number ≢ 3
      → (read_whole ix l).answer ≡ refused (read_whole ix l).answer.number
  -- "On refusal .. the tree holds what it held at the start", of a chunk or of the end call
  pub restores : (read_chunk (new_session ix) l).answer.number ≢ 0 → Restored ix h (read_chunk (new_session ix) l).left.index
  pub restored : (read_whole ix l).answer.number ≢ 0 → Restored ix h (read_whole ix l).left.index

pub record Claims : Type 0 where
  -- "An upload has fewer than 2^22 bytes", so each offset is a place
  pub bytes : {l : List ℕ} {ss : List (List Pair)} → Upload l ss → length l < 4194304
  pub start : (d : Session) → ReadStarts d
  pub calls : (d : Session) → ReadCalls d
  pub uploads : (ix : Index) (fit : FitIndex ix) (h : Sound ix.live) (words : Places (contents h)) (l : List ℕ) (bytes : Bytes l)
      → Uploads ix fit h words l bytes
