-- The library comes to what the model does, and its word is that answer's.
use mathlib.Core.Path.{ap, ◌∙◌}
use Rattle.slots.specs.Answers.{answer_word}
use Rattle.word_rules.proofs.Telling.{tells_batch}
use Rattle.exports.proofs.writes.oz_batch.Goals as goal

pub returns : goal.returns
returns c =
    tells_batch (c.answer_word.ensures ∙ ap answer_word c.answer.ensures) c.batch-made.ensures
