-- The note of a word.
use Rattle.std.specs.Prelude.{Option, None, Some, ℕ, ◌-◌, ◌/◌, ◌%◌, eqb}
use Rattle.slots.specs.Words.{pick}
use Rattle.slots.specs.Answers.{some, given, refused}
use Rattle.upload_rules.specs.Reader.{unsaid, said}
use Rattle.upload_rules.specs.Notes.{NoteSaid, known, unknown}
use Rattle.reader.specs.Meanings.{Reply, note_of}

abbrev pub note_at_of : Option (Option Reply) → NoteSaid
note_at_of (Some note) = known (note_of note)
note_at_of None = unknown

-- A refusal that has no value with it.
unfoldable pub plain_at : ℕ → NoteSaid
plain_at number =
    pick (eqb number 1) (known (said (refused 1)))
    (pick (eqb number 2) (known (said (refused 2)))
    (pick (eqb number 5) (known (said (refused 5)))
    (pick (eqb number 6) (known (said (refused 6)))
    (pick (eqb number 7) (known (said (refused 7)))
    (pick (eqb number 8) (known (said (refused 8)))
    (pick (eqb number 12) (known (said (refused 12)))
    (pick (eqb number 13) (known (said (refused 13)))
    (pick (eqb number 18) (known (said (refused 18))) unknown))))))))

-- A number with its value: the entries with 0, the slot with 3, and 0 with another.
unfoldable pub note_with : ℕ → ℕ → NoteSaid
note_with number value =
    pick (eqb number 0) (known (said (given value)))
    (pick (eqb number 3) (known (said (record { number = 3; value = some value })))
    (pick (eqb value 0) (plain_at number) unknown))

unfoldable pub note_at : ℕ → NoteSaid
note_at w = pick (eqb w 0) (known unsaid) (note_with ((w - 1) / 4294967296) ((w - 1) % 4294967296))
