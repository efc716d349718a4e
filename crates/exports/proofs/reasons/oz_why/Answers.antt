-- A `shown` of another length is refused; else the library tells why, its words are shown, and its answer is the word.
use mathlib.Core.Path.{◌∙◌}
use Rattle.night.proofs.Claims.{claims}
use Rattle.index_rules.specs.Live.{lent_tree}
use Rattle.word_rules.proofs.Explaining.{why_short, why_long}
use Rattle.exports.proofs.reasons.oz_why.Goals as goal

pub returns-then-shown-ne8 : goal.returns-then-shown-ne8
returns-then-shown-ne8 c = why_short _ _ c.if-shown-ne8.true c.packed.ensures

pub returns : goal.returns
returns c =
    let a = c.args in
    why_long (lent_tree a.names.now a.cells.now a.head.now a.sizes.now) a.shown.now c.if-shown-ne8.false
    c.why-told.ensures c.show.ensures (c.answer.ensures ∙ claims.why_answer _) c.answer_word.ensures
