-- What crate `reader` proves beside its contracts: its replies are told apart by their numbers and values, its readers by their words, and
-- each public routine has one outcome, what it returns with all that is left in the lent slices.
use Rattle.std.specs.Prelude.{◌≡◌, List, Option, ℕ, ◌<◌}
use Rattle.slots.specs.Answers.{Answer, OneAnswer, value_beside}
use Rattle.slots.specs.Coded.{answer_of}
use Rattle.index_rules.specs.Index.{Index, lent}
use Rattle.upload_rules.specs.Reader.{Note as Noting, said, new_reader}
use Rattle.upload_rules.specs.Reading.{Session, session, ReadOutcome, read_start, read_chunk, read_end}
use Rattle.reader.specs.Meanings.{Reply, reply_of, words_of, reading_of}
use Rattle.reader.specs.Notes.{note_at_of, note_at}
use Rattle.upload_rules.specs.Notes.{known, note_word}
use Rattle.reader.specs.declared.words.Reader.{Reader}
use Rattle.reader.specs.declared.read.Read.{Read}

-- What a call returns, and the words of the five slices after it.
pub record ReadReturned : Type 0 where
  pub read : Read
  pub names : List ℕ
  pub cells : List ℕ
  pub head : List ℕ
  pub sizes : List ℕ
  pub lines : List ℕ

abbrev pub returned_by : (Read → Index → ReadOutcome) → ReadReturned → ReadOutcome
returned_by f r = f r.read (lent r.names r.cells r.head r.sizes r.lines)

pub record Claims : Type 0 where
  pub reply_one_to_one : (a b : Reply) → reply_of a ≡ reply_of b → a ≡ b
  pub reader_one_to_one : (a b : Reader) → words_of a ≡ words_of b → a ≡ b
  -- start lends its slices to be read: what it returns is one
  pub start_one : (ix : Index) → OneAnswer (λ r. reading_of r ix ≡ read_start (session (new_reader 0) ix))
  pub chunk_one : (d : Session) (chunk : List ℕ) → OneAnswer (λ r. returned_by reading_of r ≡ read_chunk d chunk)
  pub end_one : (d : Session) → OneAnswer (λ r. returned_by reading_of r ≡ read_end d)
  pub answer_one : (a : Answer) → OneAnswer (λ r. answer_of r ≡ a)
  -- a note and its word: a noted answer's word says that answer, and a word that says a note is that note's
  pub note_one_to_one : (a b : Option (Option Reply)) → note_at_of a ≡ note_at_of b → a ≡ b
  pub word_one : (n : Noting) → OneAnswer (λ r. r ≡ note_word n)
  pub of_word_one : (w : ℕ) → OneAnswer (λ r. note_at_of r ≡ note_at w)
  pub word_back : (a : Reply) → value_beside 0 (reply_of a).number (reply_of a).value < 4294967296
      → note_at (note_word (said (reply_of a))) ≡ known (said (reply_of a))
  pub said_back : (w : ℕ) (n : Noting) → note_at w ≡ known n → note_word n ≡ w
