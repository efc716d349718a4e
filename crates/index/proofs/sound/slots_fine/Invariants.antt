-- The loop's invariant: what is left of the slots decides the whole.
use mathlib.Core.Path.{◌≡◌}
use mathlib.Core.List.{[]}
use Rattle.index_rules.specs.Live.{lent_tree}
use Rattle.index_rules.specs.Sound.{slots_fine}
use Rattle.index.proofs.sound.slots_fine.Given as goal

abbrev pub invariant-loop-k : goal.invariant-loop-k
invariant-loop-k l = slots_fine l.k l.n (lent_tree l.names l.cells [] []) ≡ slots_fine l.n l.n (lent_tree l.names l.cells [] [])
