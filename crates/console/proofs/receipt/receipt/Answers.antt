-- What is written stays within the buffer.
use native.Mathlib.Omega.{arith}
use Rattle.console.proofs.Receipts.{text_within}
use Rattle.console.proofs.receipt.receipt.Goals as goal

pub returns-then-number-ne0-clause-bounds : goal.returns-then-number-ne0-clause-bounds
returns-then-number-ne0-clause-bounds c = text_within _ _ c.tell.ensures (omega arith)

pub returns-clause-bounds : goal.returns-clause-bounds
returns-clause-bounds c = text_within _ _ c.tell_list.ensures (omega arith)
