-- The loop's invariant: the slots before this one stand behind each other.
use mathlib.Core.Path.{◌≡◌}
use mathlib.Core.List.{[]}
use lib.Seq.{sets}
use Rattle.set_rules.specs.Words.{lent_set}
use Rattle.file_rules.specs.File.{slots_bytes}
use Rattle.file.proofs.put.put_slots.Given as goal

abbrev pub invariant-loop-i : goal.invariant-loop-i
invariant-loop-i l = l.out ≡ sets l.initial.out l.at (slots_bytes (lent_set [] [] [] l.names l.cells) l.i)
