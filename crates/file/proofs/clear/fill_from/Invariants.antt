-- The words from here on come to what those from the start come to.
use mathlib.Core.Path.{◌≡◌}
use Rattle.file.proofs.Clearing.{rest_filled}
use Rattle.file.proofs.clear.fill_from.Given as goal

abbrev pub invariant-loop-i : goal.invariant-loop-i
invariant-loop-i g l = rest_filled l.value l.i l.words ≡ rest_filled l.value l.from l.initial.words
