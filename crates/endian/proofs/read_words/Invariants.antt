-- The loop's invariant: the words before this one are written.
use mathlib.Core.Path.{◌≡◌}
use mathlib.Core.List.{map}
use lib.ListN.{take}
use Rattle.endian.specs.Bytes.{words_in}
use Rattle.endian.proofs.read_words.Given as goal

abbrev pub invariant-loop-i : goal.invariant-loop-i
invariant-loop-i g l = take l.i l.words ≡ map g.T.Word.of (words_in g.T.Word.WIDTH l.bytes 0 l.i)
