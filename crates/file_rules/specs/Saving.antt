-- What save answers and leaves in `out`.
use Rattle.std.specs.Prelude.{List, ◌++◌, ℕ, length, drop, leb}
use Rattle.slots.specs.Words.{pick, ◌and◌}
use Rattle.slots.specs.Answers.{Answer, given, refused}
use Rattle.set_rules.specs.Words.{Set, fits}
use Rattle.set_rules.specs.Accepting.{accepted}
use Rattle.file_rules.specs.File.{set_bytes, set_size}

pub record Saved : Type 0 where
  pub answer : Answer
  pub out : List ℕ

abbrev pub saved : Answer → List ℕ → Saved
saved a out = record { answer = a; out = out }

-- "Refusals: save 1 (also output too short), 2 (not accepted); nothing is written then."
unfoldable pub saves : Set → List ℕ → Saved
saves s out =
    pick (fits s and leb (set_size s) (length out))
    (pick (accepted s) (saved (given (set_size s)) (set_bytes s ++ drop (set_size s) out)) (saved (refused 2) out))
    (saved (refused 1) out)
