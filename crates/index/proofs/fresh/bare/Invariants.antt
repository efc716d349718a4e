-- The loop's invariant: clearing the slots left clears them all.
use mathlib.Core.Path.{◌≡◌}
use Rattle.index_rules.specs.Live.{lent_tree}
use Rattle.index_rules.specs.Fresh.{bared}
use Rattle.index.proofs.fresh.bare.Given as goal

abbrev pub invariant-loop-k : goal.invariant-loop-k
invariant-loop-k l =
    bared l.k (lent_tree l.names l.cells l.head l.sizes) ≡ bared l.n (lent_tree l.initial.names l.initial.cells l.head l.initial.sizes)
