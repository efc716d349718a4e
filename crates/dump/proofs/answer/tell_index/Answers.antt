-- The journal's length decides.
use mathlib.Core.Path.{ap, ◌∙◌}
use Rattle.script_rules.specs.Feeding.{typed}
use Rattle.dump.proofs.Telling.{within_lines, past_lines}
use Rattle.dump.proofs.answer.tell_index.Goals as goal

pub returns-then-length-c : goal.returns-then-length-c
returns-then-length-c c =
    c.tell_tree.ensures ∙ ap (typed _) (within_lines _ _ c.word-length.ensures c.if-length-c.true)

pub returns : goal.returns
returns c =
    c.fill.ensures ∙ ap (typed _) (past_lines _ _ c.word-length.ensures c.if-length-c.false)
