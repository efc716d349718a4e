-- What the rows from here on come to is what all of them come to.
use mathlib.Core.Path.{◌≡◌}
use Prim.Native.Nat.{◌-◌}
use Rattle.script_rules.specs.Feeding.{typed, lent_paper}
use Rattle.figure_rules.specs.Printed.{rows_text}
use Rattle.tally.proofs.tell.tell_rows.Given as goal

abbrev pub invariant-loop-i : goal.invariant-loop-i
invariant-loop-i l =
    typed (lent_paper l.out l.end) (rows_text (33 - l.i) l.totals l.i) ≡ typed (lent_paper l.initial.out l.initial.end)
    (rows_text 32 l.totals 1)
