-- The colour picks the word.
use mathlib.Core.Path.{ap, ◌∙◌}
use Rattle.script_rules.specs.Feeding.{typed}
use Rattle.dump.proofs.Telling.{step_red, step_black}
use Rattle.dump.proofs.ways.put_step.Goals as goal

pub returns-then-is_red : goal.returns-then-is_red
returns-then-is_red c =
    c.fill.ensures ∙ ap (typed _) (step_red _ _ c.is_red.ensures c.if-is_red.true)

pub returns : goal.returns
returns c =
    c.fill-2.ensures ∙ ap (typed _) (step_black _ _ c.is_red.ensures c.if-is_red.false)
