-- What crate `finisher` proves beside its contract: its public routine has one outcome, and all of the line has room.
use Rattle.std.specs.Prelude.{◌≡◌, List, ℕ, ◌≤◌, length, take}
use Rattle.slots.specs.Answers.{OneAnswer}
use Rattle.script_rules.specs.Feeding.{Paper, typed, lent_paper}
use Rattle.move_rules.specs.Printed.{file_written, lined_out}

pub record Claims : Type 0 where
  pub answer_one : (bytes out : List ℕ) (p : Paper) → OneAnswer (λ r. r ≡ lined_out (file_written bytes out) p)
  -- with room for the longest line, all of it stands in the buffer from its front on
  pub whole : (bytes out text : List ℕ) → 128 ≤ length text
      → take (typed (lent_paper text 0) (file_written bytes out).line).at (typed (lent_paper text 0) (file_written bytes out).line).bytes
      ≡ (file_written bytes out).line
