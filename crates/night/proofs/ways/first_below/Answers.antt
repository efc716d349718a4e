use mathlib.Core.Path.{◌∙◌}
use native.Mathlib.Omega.{arith}
use Rattle.night.proofs.Stepping.{below_here, below_on, below_end}
use Rattle.night.proofs.ways.first_below.Goals as goal

pub returns-then-l : goal.returns-then-l
returns-then-l c = below_here _ _ _ (omega arith) c.get-l.ensures c.if-l.true ∙ c.loop.invariant

pub loop-preserved : goal.loop-preserved
loop-preserved c = below_on _ _ _ _ (omega arith) c.get-l.ensures c.if-l.false ∙ c.loop.invariant

pub returns : goal.returns
returns c = below_end _ _ _ (omega arith) ∙ c.loop.invariant
