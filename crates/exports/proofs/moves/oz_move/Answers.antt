-- The library comes to what the model does, and its word is that answer's.
use mathlib.Core.Path.{ap, ◌∙◌}
use Rattle.slots.specs.Answers.{answer_word}
use Rattle.word_rules.proofs.Moving.{tells_move}
use Rattle.exports.proofs.moves.oz_move.Goals as goal

pub returns : goal.returns
returns c =
    tells_move (c.answer_word.ensures ∙ ap answer_word c.answer.ensures) c.move_bin-moved.ensures
