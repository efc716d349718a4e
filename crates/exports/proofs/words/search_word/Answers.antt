-- The answer's word has 48 bits, and the looks have 16.
use mathlib.Core.Path.{ap}
use Prim.Native.Nat.{◌+◌, ◌*◌}
use Rattle.tree.specs.Find.{counted_of}
use Rattle.word_rules.specs.Words.{search_word}
use Rattle.exports.proofs.words.search_word.Goals as goal

pub returns : goal.returns
unfolding search_word
returns c = ap (λ low. low + 281474976710656 * (counted_of c.args.counted).looks) c.answer_word-low.ensures
