use mathlib.Core.Path.{◌∙◌}
use native.Mathlib.Omega.{arith}
use Rattle.night.proofs.Sought.{low_here, low_on, low_end}
use Rattle.night.proofs.search.lowest.Goals as goal

pub returns-then-shows-clause-lowest : goal.returns-then-shows-clause-lowest
returns-then-shows-clause-lowest g c =
    λ f t. low_here f _ _ (t _ c.loop-i-test.true _ c.shows.ensures) c.loop-i-test.true c.if-shows.true ∙ c.loop-i.invariant f t

pub loop-i-preserved : goal.loop-i-preserved
loop-i-preserved g c =
    λ f t. low_on f _ _ (t _ c.loop-i-test.true _ c.shows.ensures) c.loop-i-test.true c.if-shows.false ∙ c.loop-i.invariant f t

pub returns-clause-lowest : goal.returns-clause-lowest
returns-clause-lowest g c = λ f t. low_end f _ _ (omega arith) ∙ c.loop-i.invariant f t
