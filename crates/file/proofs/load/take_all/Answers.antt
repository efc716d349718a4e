use native.Mathlib.Omega.{arith}
use Rattle.std.proofs.lemmas.Grind.{common_steps}
use Rattle.file.proofs.Running.{from_place}
use Rattle.file.proofs.Stepping.{going_on, going_end}
use Rattle.file.proofs.load.take_all.Goals as goal

pub loop-rest-preserved : goal.loop-rest-preserved
loop-rest-preserved c =
    going_on c.loop-rest.invariant c.step-next.ensures (from_place c.loop-rest.rest.now c.step-next.result.used)

pub returns : goal.returns
returns c = going_end c.loop-rest.invariant (grind (arith, common_steps))
