-- The word that is read is the one that is written.
use Rattle.tally.proofs.Counting.{more-is}
use Rattle.tally.proofs.totals.add_to.Goals as goal

pub returns : goal.returns
returns c =
    let a = c.args in
    more-is a.totals.now a.j a.v c.word-total.ensures c.put_word.ensures
