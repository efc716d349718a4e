use mathlib.Core.Path.{sym, ◌∙◌}
use borrow.Author.Rules.{rules}
use Rattle.dump.proofs.Writing.{losses_turn, losses_over}
use Rattle.dump.proofs.rescue.tell_losses.Goals as goal

pub loop-i-preserved : goal.loop-i-preserved
loop-i-preserved c =
    (losses_turn _ _ _ _ _ c.loop-i-test.true c.tell_loss-end.ensures ∙ c.loop-i.invariant.0, search rules)

pub returns : goal.returns
returns c = sym (losses_over _ _ _ _ _ c.loop-i-test.false) ∙ c.loop-i.invariant.0
