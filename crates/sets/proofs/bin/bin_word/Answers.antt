-- The table's bins begin where the model says.
use mathlib.Core.Path.{refl}
use Rattle.sets.proofs.bin.bin_word.Goals as goal

pub returns : goal.returns
returns c = rw (c.word_from.ensures, c.bins_before.ensures) refl
