-- What is written stays within the buffer.
use native.Mathlib.Omega.{arith}
use Rattle.console.proofs.Turns.{turn_within}
use Rattle.console.proofs.feed.finish.Goals as goal

pub returns-clause-bounds : goal.returns-clause-bounds
returns-clause-bounds c = turn_within _ _ _ c.obey-written.ensures (omega arith)
