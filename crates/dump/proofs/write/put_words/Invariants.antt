-- The loop's invariant: the words from here on, written, leave what all words leave.
use mathlib.Core.Path.{◌≡◌}
use Rattle.std.specs.Prelude.{map}
use lib.ListN.{length, drop}
use Rattle.endian.specs.Bytes.{words_bytes}
use Rattle.script_rules.specs.Feeding.{typed, lent_paper}
use Rattle.dump.proofs.write.put_words.Given as goal

abbrev pub invariant-loop-x : goal.invariant-loop-x
invariant-loop-x g l =
    (typed (lent_paper l.out l.end) (words_bytes l.k (map g.W.Number.number (drop l.x-index l.words)))
    ≡ typed (lent_paper l.initial.out l.at) (words_bytes l.k (map g.W.Number.number l.words)))
    × (length l.out ≡ length l.initial.out)
