-- The word with null beside 0.
use Rattle.std.proofs.Common.{rules}
use Rattle.slots.specs.Answers.{answer_word}
use Rattle.slots.proofs.answer.answer_word.Goals as goal

pub returns : goal.returns
unfolding answer_word
returns c = search rules
