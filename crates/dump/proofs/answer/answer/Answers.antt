-- What is written lies within the buffer.
use native.Mathlib.Omega.{arith}
use Rattle.console.proofs.Receipts.{text_within}
use Rattle.dump.proofs.answer.answer.Goals as goal

pub returns : goal.returns
returns c =
    let told = c.tell_bytes.ensures in record { result_after = told; bounds = text_within _ _ told (omega arith) }
