-- The bins before have had their turn, each of which adds no more than 8,192.
use mathlib.Core.Path.{◌≡◌}
use Prim.Native.Nat.{◌+◌, ◌*◌, ◌≤◌}
use Rattle.std.specs.Prelude.{Ok}
use Rattle.set_rules.specs.Words.{lent_set}
use Rattle.move_rules.specs.Finishing.{bins_finished}
use Rattle.mover.specs.Moved.{FitAccepted}
use Rattle.mover.specs.Finished.{finish_of}
use Rattle.mover.proofs.finishing.finish_bins.Given as goal

abbrev pub invariant-loop-i : goal.invariant-loop-i
invariant-loop-i l =
    (finish_of (Ok l.gone) (lent_set l.lengths l.bins l.heads l.names l.cells)
    ≡ bins_finished l.i (finish_of (Ok l.before) (lent_set l.lengths l.initial.bins l.initial.heads l.names l.initial.cells)) l.k)
    × FitAccepted (lent_set l.lengths l.bins l.heads l.names l.cells)
    × (l.gone ≤ 33554432 * l.k + 8192 * l.i)
