-- What is left to join from here on comes to what there was to join from the start on.
use mathlib.Core.Path.{◌≡◌}
use mathlib.Core.List.{[]}
use Prim.Native.Nat.{◌-◌}
use Rattle.slots.specs.Words.{null}
use Rattle.redblack.specs.Links.{lent_links}
use Rattle.move_rules.specs.Passes.{joined_from}
use Rattle.mover.proofs.passes.join_all.Given as goal

abbrev pub invariant-loop : goal.invariant-loop
invariant-loop l =
    joined_from (l.n - l.counter) l.names (lent_links l.cells l.root []) l.p
    ≡ joined_from l.n l.names (lent_links l.initial.cells null []) l.first
