-- What is left of the set is written.
use mathlib.Core.Path.{ap, ◌∙◌}
use Rattle.script_rules.specs.Feeding.{lent_paper}
use Rattle.move_rules.specs.Finishing.{Finish}
use Rattle.move_rules.specs.Printed.{finish_written, lined_out}
use Rattle.finisher.proofs.answer.finish_set.Goals as goal

pub returns : goal.returns
returns c =
    let a = c.args in
    c.write_set.ensures
    ∙ ap (λ (f : Finish). lined_out (finish_written f a.out.now) (lent_paper a.text.now 0)) c.finish-told.ensures
