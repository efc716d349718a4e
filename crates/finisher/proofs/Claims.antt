-- An equation has one answer, and a line that has room is written whole.
use mathlib.Core.Path.{sym, ◌∙◌}
use native.Mathlib.Omega.{arith}
use Rattle.script_rules.specs.Feeding.{lent_paper}
use Rattle.script_rules.proofs.Room.{typed_whole}
use Rattle.move_rules.specs.Printed.{file_written}
use Rattle.move_rules.proofs.Claims as move-rules
use Rattle.finisher.specs.Claims.{Claims}

pub claims : Claims
claims =
    record {
      answer_one = λ bytes out p a b e f. e ∙ sym f;
      whole = λ bytes out text h.
          (typed_whole (lent_paper text 0) (file_written bytes out).line (omega (arith, (move-rules.claims).room bytes out))).behind;
    }
