-- The library comes to what the model does, and its word is that answer's.
use mathlib.Core.Path.{ap, ◌∙◌}
use Rattle.slots.specs.Answers.{answer_word}
use Rattle.word_rules.proofs.Tallying.{tells_tally}
use Rattle.exports.proofs.totals.oz_tally.Goals as goal

pub returns : goal.returns
returns c =
    tells_tally (c.answer_word.ensures ∙ ap answer_word c.answer.ensures) c.tally-counted.ensures
