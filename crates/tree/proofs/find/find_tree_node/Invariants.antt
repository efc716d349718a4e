-- The loop's invariant: the search from here, after so many looks, is the whole search.
use mathlib.Core.Path.{◌≡◌}
use Prim.Native.Nat.{◌-◌}
use Rattle.tree_rules.specs.Find.{slots_of, counted, found, searched}
use Rattle.tree.proofs.Searching.{later}
use Rattle.tree.proofs.find.find_tree_node.Given as goal

abbrev pub invariant-loop-looks : goal.invariant-loop-looks
invariant-loop-looks l =
    later l.looks (searched l.names l.cells (slots_of l.names - l.looks) l.p l.hash l.key)
    ≡ counted (found l.names l.cells l.root l.hash l.key)
