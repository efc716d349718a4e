-- The loop's invariant: the model from here, with the steps that are left, equals the model from the start.
use Rattle.std.proofs.Common.{◌≡◌, ◌-◌}
use Rattle.redblack.specs.Climbing.{climbed}
use Rattle.links.proofs.sizes.climb.Given as goal

abbrev pub invariant-loop : goal.invariant-loop
invariant-loop l = climbed (l.budget - l.counter) l.cells l.sizes l.at l.d ≡ climbed l.budget l.cells l.initial.sizes l.p l.d
