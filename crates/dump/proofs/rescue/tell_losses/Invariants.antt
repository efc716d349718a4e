-- The loop's invariant: the lines of the slots from here on leave what all lines leave.
use mathlib.Core.Path.{◌≡◌}
use Prim.Native.Nat.{◌-◌}
use lib.ListN.{length}
use Rattle.script_rules.specs.Feeding.{typed, lent_paper}
use Rattle.dump_rules.specs.Rescue.{loss_texts}
use Rattle.dump.proofs.rescue.tell_losses.Given as goal

abbrev pub invariant-loop-i : goal.invariant-loop-i
invariant-loop-i l =
    (typed (lent_paper l.out l.end) (loss_texts (l.n - l.i) l.cells l.report l.i) ≡ typed (lent_paper l.initial.out l.at)
    (loss_texts l.n l.cells l.report 0))
    × (length l.out ≡ length l.initial.out)
