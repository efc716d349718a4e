-- The library answers what the model does, and its word is that answer's.
use mathlib.Core.Path.{ap, ◌∙◌}
use Rattle.slots.specs.Answers.{word_of}
use Rattle.word_rules.specs.Words.{check_word}
use Rattle.exports.proofs.reads.oz_check.Goals as goal

pub returns : goal.returns
unfolding check_word
returns c = c.word_with.ensures ∙ ap (word_of 0) (c.answer.ensures ∙ c.check-checked.ensures)
