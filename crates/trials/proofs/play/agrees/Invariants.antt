-- The loop's invariant: the rest of the part, from here, agrees as the whole of it does.
use mathlib.Core.Path.{◌≡◌}
use lib.ListN.{drop}
use Rattle.trials.specs.Playing.{agreed}
use Rattle.trials.proofs.play.agrees.Given as goal

abbrev pub invariant-loop-byte : goal.invariant-loop-byte
invariant-loop-byte l = agreed l.expected l.at (drop l.byte-index l.part) ≡ agreed l.expected l.from l.part
