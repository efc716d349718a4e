use mathlib.Core.Path.{◌∙◌}
use native.Mathlib.Omega.{arith}
use Rattle.night.proofs.Stepping.{above_none, above_here, above_on, above_end}
use Rattle.night.proofs.ways.next_above.Goals as goal

pub returns-then-p : goal.returns-then-p
returns-then-p c = above_none _ _ c.get-p.ensures _ (omega arith) c.if-p.true ∙ c.loop.invariant

pub returns-then-get-at : goal.returns-then-get-at
returns-then-get-at c =
    above_here _ _ c.get-p.ensures _ (omega arith) c.if-p.false c.get.ensures c.if-get-at.true ∙ c.loop.invariant

pub loop-preserved : goal.loop-preserved
loop-preserved c =
    above_on _ _ c.get-p.ensures _ _ (omega arith) c.if-p.false c.get.ensures c.if-get-at.false ∙ c.loop.invariant

pub returns : goal.returns
returns c = above_end _ _ _ (omega arith) ∙ c.loop.invariant
