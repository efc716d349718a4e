-- The word of a note, and what a word says of one: for readers and loaders that are kept as words.
use Rattle.std.specs.Prelude.{ℕ, ◌+◌}
use Rattle.slots.specs.Answers.{answer_word}
use Rattle.upload_rules.specs.Reader.{Note, unsaid, said}

-- "0 while nothing is noted, else 1 + the answer word"
unfoldable pub note_word : Note → ℕ
note_word unsaid = 0
note_word (said a) = 1 + answer_word a

-- A word says a note, or it is no answer of the routine.
pub data NoteSaid : Type 0 where
  known : Note → NoteSaid
  unknown : NoteSaid
