-- The library answers what the model does, and its word is that answer's.
use mathlib.Core.Path.{ap, ◌∙◌}
use Rattle.slots.specs.Answers.{answer_word}
use Rattle.exports.proofs.frozen.oz_accept.Goals as goal

pub returns : goal.returns
returns c = c.answer_word.ensures ∙ ap answer_word (c.answer.ensures ∙ c.accept-acceptance.ensures)
