-- The loop's invariant: the bins that are left, with the visits that are left, come to what the whole table comes to.
use mathlib.Core.Path.{◌≡◌}
use Prim.Native.Nat.{◌<◌, ◌≤◌, ◌^◌}
use lib.ListN.{get_or}
use Rattle.set_rules.specs.Words.{Set}
use Rattle.set_rules.specs.Accepting.{table_fine}
use Rattle.sets.proofs.accept.table_fine.Given as goal

abbrev pub invariant-loop-i : goal.invariant-loop-i
invariant-loop-i l =
    let s : Set = record { lengths = l.lengths; bins = l.bins; heads = l.heads; names = l.names; cells = l.cells } in
    (table_fine l.i s l.rest ≡ table_fine (get_or l.lengths 0 0) s l.visits) × (l.i ≤ get_or l.lengths 0 0) × (l.rest < 2 ^ 64)

abbrev pub decreases-loop-i : goal.decreases-loop-i
decreases-loop-i l = l.i
