-- The word of the report decides.
use mathlib.Core.Path.{ap, ◌∙◌}
use Rattle.script_rules.specs.Feeding.{typed}
use Rattle.dump.proofs.Telling.{nothing-more}
use Rattle.dump.proofs.Writing.{loss_unknown, loss_repeats, loss_none}
use Rattle.dump.proofs.rescue.tell_loss.Goals as goal

pub returns-then-w-eq2 : goal.returns-then-w-eq2
returns-then-w-eq2 c =
    c.fill.ensures ∙ ap (typed _) (loss_unknown _ _ _ c.word-w.ensures c.if-w-eq2.true c.get-state.ensures)

pub returns-then-w-gt2 : goal.returns-then-w-gt2
returns-then-w-gt2 c =
    c.fill-then-w-gt2.ensures ∙ ap (typed _) (loss_repeats _ _ _ c.word-w.ensures c.if-w-eq2.false c.if-w-gt2.true)

pub returns : goal.returns
returns c =
    nothing-more _ ∙ ap (typed _) (loss_none _ _ _ c.word-w.ensures c.if-w-eq2.false c.if-w-gt2.false)
