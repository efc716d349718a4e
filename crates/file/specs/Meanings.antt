-- The number and value of each answer of the loader, the words of a loader, and what a call comes to.
use Rattle.std.specs.Prelude.{Option, None, Some, Result, [], ◌∷◌, ℕ}
use Rattle.slots.specs.Answers.{Answer, given, refused}
use Rattle.upload_rules.specs.Reader.{Note, unsaid, said}
use Rattle.set_rules.specs.Words.{Set}
use Rattle.file_rules.specs.Loader.{Loader as Words, loader_of}
use Rattle.file_rules.specs.Loading.{loading, LoadOutcome, load_outcome}
use Rattle.slots.specs.Coded.{told_by}
use Rattle.file.specs.declared.reply.LoadRefusal.{LoadRefusal}
use Rattle.file.specs.declared.reply.LoadRefusal.TheVariants.{Unfit, Damaged, Short, Long, OverLimit}
use Rattle.file.specs.declared.loader.Loader.{Loader}
use Rattle.file.specs.declared.load.Load.{Load}

abbrev pub load_refusal_of : LoadRefusal → Answer
load_refusal_of Unfit = refused 1
load_refusal_of Damaged = refused 2
load_refusal_of Short = refused 12
load_refusal_of Long = refused 13
load_refusal_of OverLimit = refused 14

abbrev pub load_reply_of : Result ℕ LoadRefusal → Answer
load_reply_of = told_by given load_refusal_of

abbrev pub load_note_of : Option (Result ℕ LoadRefusal) → Note
load_note_of None = unsaid
load_note_of (Some reply) = said (load_reply_of reply)

abbrev pub loader_words : Loader → Words
loader_words r =
    loader_of r.section r.at r.part (r.tables ∷ (r.words ∷ (r.headers ∷ (r.slots ∷ [])))) (load_note_of r.note)

-- What a call returns, with the slices that it leaves.
abbrev pub loaded_of : Load → Set → LoadOutcome
loaded_of r t = load_outcome (load_reply_of r.reply) (loading (loader_words r.loader) t)
