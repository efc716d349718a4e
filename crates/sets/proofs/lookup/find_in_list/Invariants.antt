-- The loop's invariant: the list from here, after so many looks, is the whole list.
use mathlib.Core.Path.{◌≡◌}
use Prim.Native.Nat.{◌-◌}
use Rattle.tree_rules.specs.Find.{counted, slots_of}
use Rattle.tree.proofs.Searching.{later}
use Rattle.set_rules.specs.Lookup.{sought_in_list}
use Rattle.sets.proofs.lookup.find_in_list.Given as goal

abbrev pub invariant-loop-looks : goal.invariant-loop-looks
invariant-loop-looks l =
    later l.looks (sought_in_list l.names l.cells (slots_of l.names - l.looks) l.p l.hash l.key)
    ≡ counted (sought_in_list l.names l.cells (slots_of l.names) l.first l.hash l.key)
