-- The loop's invariant: the model from here, with the steps that are left, equals the model from the start.
use Rattle.std.proofs.Common.{◌≡◌, ◌-◌}
use Rattle.redblack.specs.Hanging.{descended}
use Rattle.links.proofs.spot.descend.Given as goal

abbrev pub invariant-loop : goal.invariant-loop
invariant-loop l =
    descended l.names l.cells (l.steps - l.counter) l.at l.hash l.key ≡ descended l.names l.cells l.steps l.p l.hash l.key
