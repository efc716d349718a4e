-- The loop's invariant: the slots left come to what all of them come to, and those below are done.
use Rattle.index_rules.specs.Live.{lent_tree}
use Rattle.night_rules.specs.Salvage.{salvaging}
use Rattle.night.proofs.Saving.{SlotTurn}
use Rattle.night.proofs.salvage.save_all.Given as goal

abbrev pub invariant-loop-i : goal.invariant-loop-i
invariant-loop-i l =
    SlotTurn l.names l.cells (lent_tree l.initial.names2 l.initial.cells2 l.initial.head2 l.initial.sizes2) l.initial.report l.n l.i
    (salvaging (lent_tree l.names2 l.cells2 l.head2 l.sizes2) l.kept l.report) l.from
