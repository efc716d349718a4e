-- The loop's invariant: the lines that are left, written from here, leave what all of them leave.
use mathlib.Core.Path.{◌≡◌}
use Prim.Native.Nat.{◌-◌}
use Rattle.script_rules.specs.Answers.{entry_lines}
use Rattle.script_rules.specs.Feeding.{typed}
use Rattle.console.proofs.answer.tell_entries.Given as goal

abbrev pub invariant-loop : goal.invariant-loop
invariant-loop l =
    typed (record { bytes = l.out; at = l.end }) (entry_lines (l.count - l.counter) l.names l.cells l.i)
    ≡ typed (record { bytes = l.initial.out; at = l.at }) (entry_lines l.count l.names l.cells l.first)
