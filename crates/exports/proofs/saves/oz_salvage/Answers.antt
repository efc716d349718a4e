-- The library comes to what the model does, and its word is that answer's.
use mathlib.Core.Path.{ap, ◌∙◌}
use Rattle.slots.specs.Answers.{answer_word}
use Rattle.word_rules.proofs.Rescuing.{tells_salvage}
use Rattle.exports.proofs.saves.oz_salvage.Goals as goal

pub returns : goal.returns
returns c =
    tells_salvage (c.answer_word.ensures ∙ ap answer_word c.answer.ensures) c.salvage-made.ensures
