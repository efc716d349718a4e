-- The slices begin as zeros.
use mathlib.Core.Path.{ap, ◌∙◌}
use Rattle.script_rules.specs.Feeding.{lent_paper}
use Rattle.file_rules.specs.Loading.{LoadOutcome}
use Rattle.move_rules.specs.Printed.{load_written, largest_slices, file_written, lined_out}
use Rattle.finisher.proofs.answer.answer.Goals as goal

pub returns : goal.returns
unfolding file_written largest_slices
returns c =
    let a = c.args in
    c.finish_loaded.ensures
    ∙ ap (λ (o : LoadOutcome). lined_out (load_written o a.out.now) (lent_paper a.text.now 0)) c.load_whole-load.ensures
