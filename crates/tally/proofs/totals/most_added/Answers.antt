-- The looks have a range of their own.
use Rattle.tally.proofs.Counting.{most_looks, most_other}
use Rattle.tally.proofs.totals.most_added.Goals as goal

pub returns-then-j-eq-LOOKS : goal.returns-then-j-eq-LOOKS
returns-then-j-eq-LOOKS c = most_looks c.if-j-eq-LOOKS.true

pub returns-else-j-eq-LOOKS : goal.returns-else-j-eq-LOOKS
returns-else-j-eq-LOOKS c = most_other c.if-j-eq-LOOKS.false
