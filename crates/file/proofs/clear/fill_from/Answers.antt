-- One word more, and the next.
use mathlib.Core.Path.{◌∙◌}
use native.Mathlib.Omega.{arith}
use Rattle.file.proofs.Clearing.{rest_on}
use Rattle.file.proofs.clear.fill_from.Goals as goal

pub loop-i-preserved : goal.loop-i-preserved
loop-i-preserved g c = rest_on c.args.value c.loop-i.words c.loop-i.i (omega arith) ∙ c.loop-i.invariant
