-- The loop's invariant: the words that are still to be stored, from here on, come to what all of them come to from the start.
use mathlib.Core.Path.{◌≡◌}
use Prim.Native.Nat.{◌+◌, ◌*◌}
use lib.ListN.{drop}
use lib.Seq.{sets}
use Rattle.endian.specs.Bytes.{words_bytes}
use Rattle.file.proofs.put.put_words.Given as goal

abbrev pub invariant-loop-i : goal.invariant-loop-i
invariant-loop-i l = sets l.out (l.at + 4 * l.i) (words_bytes 4 (drop l.i l.words)) ≡ sets l.initial.out l.at (words_bytes 4 l.words)
