-- Slot after slot.
use mathlib.Core.Path.{◌≡◌}
use Rattle.file.specs.Runs.{slots_names, slots_cells}
use Rattle.file.proofs.runs.read_slots.Given as goal

abbrev pub invariant-loop-i : goal.invariant-loop-i
invariant-loop-i l = (l.names ≡ slots_names l.initial.names 0 l.rest l.i) × (l.cells ≡ slots_cells l.initial.cells 0 l.rest l.i)
