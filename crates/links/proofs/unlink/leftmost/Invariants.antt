-- The loop's invariant: the model from here, with the steps that are left, equals the model from the start.
use Rattle.std.proofs.Common.{◌≡◌, ℕ, ◌-◌, List}
use Rattle.redblack.specs.Removal.{leftmost}
use Rattle.redblack.specs.Links.{lent_links}
use Rattle.links.proofs.unlink.leftmost.Given as goal

abbrev pub invariant-loop : goal.invariant-loop
invariant-loop l =
    (root : ℕ) (sizes : List ℕ)
    → leftmost (l.budget - l.counter) (lent_links l.cells root sizes) l.at ≡ leftmost l.budget (lent_links l.cells root sizes) l.q
