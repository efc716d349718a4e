use mathlib.Core.Path.{ap, ◌∙◌}
use native.Mathlib.Omega.{arith}
use borrow.Author.Rules.{rules}
use Rattle.script_rules.specs.Feeding.{typed}
use Rattle.dump.proofs.Telling.{nothing-more, on_end, on_out, on_turn}
use Rattle.dump.proofs.ways.put_onward.Goals as goal

pub returns-then-link : goal.returns-then-link
returns-then-link c = nothing-more _ ∙ ap (typed _) (on_end _ _ _ c.if-link.true) ∙ c.loop.invariant.0

pub loop-preserved : goal.loop-preserved
loop-preserved c = (
  on_turn _ _ _ _ _ (omega arith) c.if-link.false c.put_word-next.ensures c.put_step-end.ensures c.get-link.ensures
      ∙ c.loop.invariant.0,
  search rules,
)

pub returns : goal.returns
returns c = nothing-more _ ∙ ap (typed _) (on_out _ _ _ (omega arith)) ∙ c.loop.invariant.0
