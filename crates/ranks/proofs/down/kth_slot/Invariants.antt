-- The loop's invariant: the way from here ends where the way from the root does.
use Rattle.std.proofs.Common.{◌≡◌}
use Rattle.tree_rules.specs.Ranks.{kth_from}
use Rattle.ranks.proofs.down.kth_slot.Given as goal

abbrev pub invariant-loop-left : goal.invariant-loop-left
invariant-loop-left l =
    kth_from l._left l.cells l.sizes l.i l.rest ≡ kth_from l.steps l.cells l.sizes l.root l.k
