use mathlib.Core.Path.{sym, ◌∙◌}
use native.Mathlib.Omega.{arith}
use borrow.Author.Rules.{rules}
use Rattle.dump.proofs.Writing.{little_turn, little-over}
use Rattle.dump.proofs.write.put_little.Goals as goal

pub loop-preserved : goal.loop-preserved
loop-preserved c = (little_turn _ _ _ _ (omega arith) c.put_byte-end.ensures ∙ c.loop.invariant.0, search rules)

pub returns : goal.returns
returns c = sym (little-over _ _ _ (omega arith)) ∙ c.loop.invariant.0
