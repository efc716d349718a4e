-- Up to 32 looks have a row of their own.
use Rattle.tally.proofs.Counting.{row_own, row_last}
use Rattle.tally.proofs.totals.row_word.Goals as goal

pub returns-then-looks-le32 : goal.returns-then-looks-le32
returns-then-looks-le32 c = row_own c.if-looks-le32.true

pub returns-else-looks-le32 : goal.returns-else-looks-le32
returns-else-looks-le32 c = row_last c.if-looks-le32.false
