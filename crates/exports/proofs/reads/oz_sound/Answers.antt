-- The library answers what the model does, and its word is that answer's.
use mathlib.Core.Path.{ap, ◌∙◌}
use Rattle.slots.specs.Answers.{answer_word}
use Rattle.exports.proofs.reads.oz_sound.Goals as goal

pub returns : goal.returns
returns c = c.answer_word.ensures ∙ ap answer_word (c.answer.ensures ∙ c.sound-verdict.ensures)
