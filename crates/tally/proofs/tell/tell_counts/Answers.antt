-- One line behind another.
use Rattle.tally.proofs.Telling.{counts_told}
use Rattle.tally.proofs.tell.tell_counts.Goals as goal

pub returns : goal.returns
returns c =
    let a = c.args in
    counts_told a.totals.now _ c.tell_word-sets.ensures c.tell_word-refused.ensures c.tell_word-entries.ensures c.tell_word-lists.ensures
    c.tell_word.ensures
