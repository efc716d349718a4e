-- What was loaded is what is told.
use mathlib.Core.Path.{ap, ◌∙◌}
use Rattle.script_rules.specs.Feeding.{typed}
use Rattle.dump_rules.specs.Sentence.{index_text}
use Rattle.dump.proofs.answer.tell_loaded.Goals as goal

pub returns : goal.returns
returns c =
    let a = c.args in
    c.tell_index.ensures ∙ ap (typed _) (ap (index_text a.c) c.load.ensures)
