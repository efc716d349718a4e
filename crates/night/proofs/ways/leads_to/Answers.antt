use mathlib.Core.Path.{◌∙◌}
use native.Mathlib.Omega.{arith}
use Rattle.night.proofs.Stepping.{leads_there, leads_end, leads_on}
use Rattle.night.proofs.ways.leads_to.Goals as goal

pub returns-then-at-x : goal.returns-then-at-x
returns-then-at-x c = leads_there _ _ _ _ _ c.if-at-x.true ∙ c.loop.invariant

pub loop-preserved : goal.loop-preserved
loop-preserved c = leads_on _ _ _ _ _ _ (omega arith) c.if-at-x.false c.get-at.ensures ∙ c.loop.invariant

pub returns : goal.returns
returns c = leads_end _ _ _ _ _ (omega arith) ∙ c.loop.invariant
