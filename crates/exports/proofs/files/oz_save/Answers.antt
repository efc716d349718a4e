-- The library comes to what the model does, and its word is that answer's.
use mathlib.Core.Path.{ap, ◌∙◌}
use Rattle.slots.specs.Answers.{answer_word}
use Rattle.exports.proofs.Filing.{tells_save}
use Rattle.exports.proofs.files.oz_save.Goals as goal

pub returns : goal.returns
returns c =
    tells_save (c.answer_word.ensures ∙ ap answer_word c.answer.ensures) c.save-made.ensures
