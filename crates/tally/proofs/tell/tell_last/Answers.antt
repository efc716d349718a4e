-- One line behind another.
use mathlib.Core.Path.{◌∙◌}
use Rattle.tally.proofs.Telling.{mean_told, last_told}
use Rattle.tally.proofs.tell.tell_last.Goals as goal

pub returns : goal.returns
returns c =
    let a = c.args in
    last_told a.totals.now _ c.tell_word-more.ensures
    (c.fill.ensures ∙ mean_told a.totals.now _ c.word.ensures c.word-2.ensures)
