-- The tables before have had their turn, each of which adds no more than 33,554,432.
use mathlib.Core.Path.{◌≡◌}
use Prim.Native.Nat.{◌*◌, ◌≤◌}
use Rattle.std.specs.Prelude.{Ok}
use Rattle.set_rules.specs.Words.{lent_set}
use Rattle.move_rules.specs.Finishing.{finish_begun, tables_finished}
use Rattle.mover.specs.Moved.{FitAccepted}
use Rattle.mover.specs.Finished.{finish_of}
use Rattle.mover.proofs.finishing.finish_tables.Given as goal

abbrev pub invariant-loop-k : goal.invariant-loop-k
invariant-loop-k l =
    (finish_of (Ok l.gone) (lent_set l.lengths l.bins l.heads l.names l.cells) ≡ tables_finished l.k
    (finish_begun (lent_set l.lengths l.initial.bins l.initial.heads l.names l.initial.cells)))
    × FitAccepted (lent_set l.lengths l.bins l.heads l.names l.cells)
    × (l.gone ≤ 33554432 * l.k)
