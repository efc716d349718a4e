-- The loop's invariant: the model from here, with the turns that are left, equals the model from the start.
use Rattle.std.proofs.Common.{◌≡◌, ◌-◌}
use Rattle.redblack.specs.Deletion.{balanced_deletion}
use Rattle.redblack.specs.Links.{lent_links}
use Rattle.links.proofs.balance.balance_deletion.Given as goal

abbrev pub invariant-loop : goal.invariant-loop
invariant-loop l =
    balanced_deletion (l.budget - l.counter) (lent_links l.cells l.top l.sizes) l.at
    ≡ balanced_deletion l.budget (lent_links l.initial.cells l.root l.initial.sizes) l.x
