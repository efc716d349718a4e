-- The note of a word.
use Rattle.std.specs.Prelude.{Option, None, Some, Result, ℕ, ◌-◌, ◌/◌, ◌%◌, eqb}
use Rattle.slots.specs.Words.{pick}
use Rattle.slots.specs.Answers.{given, refused}
use Rattle.upload_rules.specs.Reader.{unsaid, said}
use Rattle.upload_rules.specs.Notes.{NoteSaid, known, unknown}
use Rattle.file.specs.Meanings.{load_note_of}
use Rattle.file.specs.declared.reply.LoadRefusal.{LoadRefusal}

abbrev pub load_note_at_of : Option (Option (Result ℕ LoadRefusal)) → NoteSaid
load_note_at_of (Some note) = known (load_note_of note)
load_note_at_of None = unknown

-- A number with its value: the bytes with 0, and 0 with each refusal of the loader.
unfoldable pub load_note_with : ℕ → ℕ → NoteSaid
load_note_with number value =
    pick (eqb number 0) (known (said (given value)))
    (pick (eqb value 0)
    (pick (eqb number 1) (known (said (refused 1)))
    (pick (eqb number 2) (known (said (refused 2)))
    (pick (eqb number 12) (known (said (refused 12)))
    (pick (eqb number 13) (known (said (refused 13))) (pick (eqb number 14) (known (said (refused 14))) unknown)))))
    unknown)

unfoldable pub load_note_at : ℕ → NoteSaid
load_note_at w = pick (eqb w 0) (known unsaid) (load_note_with ((w - 1) / 4294967296) ((w - 1) % 4294967296))
