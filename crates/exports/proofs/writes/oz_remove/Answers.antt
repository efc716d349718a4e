-- The library comes to what the model does, and its word is that answer's.
use mathlib.Core.Path.{ap, ◌∙◌}
use Rattle.slots.specs.Answers.{answer_word}
use Rattle.word_rules.proofs.Telling.{tells}
use Rattle.exports.proofs.writes.oz_remove.Goals as goal

pub returns : goal.returns
returns c =
    tells (c.answer_word.ensures ∙ ap answer_word c.answer.ensures) c.remove-removed.ensures
