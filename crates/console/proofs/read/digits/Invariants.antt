-- The loop's invariant: the number read on from here is the one read from the start.
use mathlib.Core.Path.{◌≡◌}
use Prim.Native.Nat.{◌<◌, ◌^◌}
use lib.ListN.{drop}
use Rattle.script_rules.specs.Text.{read_on}
use Rattle.console.proofs.read.digits.Given as goal

abbrev pub invariant-loop-i : goal.invariant-loop-i
invariant-loop-i l = (read_on l.most l.value (drop l.i l.line) ≡ read_on l.most l.v (drop l.at l.line)) × (l.value < 2 ^ 64)
