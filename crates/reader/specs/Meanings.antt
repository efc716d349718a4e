-- The number and value of each reply, the words of a reader, and what a call comes to.
use Rattle.std.specs.Prelude.{Option, None, Some, Result, ℕ}
use Rattle.slots.specs.Answers.{Answer, some, given, refused}
use Rattle.slots.specs.Coded.{told_by}
use Rattle.index_rules.specs.Index.{Index}
use Rattle.upload_rules.specs.Reader.{Note as Noting, unsaid, said, Reader as Words, reader_of}
use Rattle.upload_rules.specs.Reading.{session, ReadOutcome, read_outcome}
use Rattle.reader.specs.declared.reply.ReadRefusal.{ReadRefusal}
use Rattle.reader.specs.declared.reply.ReadRefusal.TheVariants.{Unfit, Damaged, Present, Full, JournalFull, BadMark, Misfit, Short}
use Rattle.reader.specs.declared.reply.ReadRefusal.TheVariants.{Long, WrongKind}
use Rattle.reader.specs.declared.words.Reader.{Reader}
use Rattle.reader.specs.declared.read.Read.{Read}

abbrev pub read_refusal_of : ReadRefusal → Answer
read_refusal_of Unfit = refused 1
read_refusal_of Damaged = refused 2
read_refusal_of (Present slot) = record { number = 3; value = some slot }
read_refusal_of Full = refused 5
read_refusal_of JournalFull = refused 6
read_refusal_of BadMark = refused 7
read_refusal_of Misfit = refused 8
read_refusal_of Short = refused 12
read_refusal_of Long = refused 13
read_refusal_of WrongKind = refused 18

abbrev pub Reply : Type 0
Reply = Result ℕ ReadRefusal

abbrev pub reply_of : Reply → Answer
reply_of = told_by given read_refusal_of

abbrev pub note_of : Option Reply → Noting
note_of None = unsaid
note_of (Some reply) = said (reply_of reply)

abbrev pub words_of : Reader → Words
words_of r = reader_of r.section r.got r.owed r.hash r.key r.mark r.taken (note_of r.note)

-- What a call returns, with the index that it leaves.
abbrev pub reading_of : Read → Index → ReadOutcome
reading_of r ix = read_outcome (reply_of r.reply) (session (words_of r.reader) ix)
