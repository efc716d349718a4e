-- The loop's invariant: undoing the lines left undoes them all, and the count has room for them.
use Rattle.index_rules.specs.Live.{lent_tree}
use Rattle.index.proofs.Undoing.{Turn}
use Rattle.index.proofs.lines.unroll.Given as goal

abbrev pub invariant-loop-c : goal.invariant-loop-c
invariant-loop-c l =
    Turn (lent_tree l.initial.names l.initial.cells l.initial.head l.initial.sizes) l.lines l.m l.count
    (lent_tree l.names l.cells l.head l.sizes) l.floor l.c
