-- The loop's invariant: the model from here, with the turns that are left, equals the model from the start.
use Rattle.std.proofs.Common.{◌≡◌, ◌-◌}
use Rattle.redblack.specs.Insertion.{insertion_turns}
use Rattle.redblack.specs.Links.{lent_links}
use Rattle.links.proofs.balance.insertion_turns.Given as goal

abbrev pub invariant-loop : goal.invariant-loop
invariant-loop l =
    insertion_turns (l.budget - l.counter) (lent_links l.cells l.top l.sizes) l.at
    ≡ insertion_turns l.budget (lent_links l.initial.cells l.root l.initial.sizes) l.x
