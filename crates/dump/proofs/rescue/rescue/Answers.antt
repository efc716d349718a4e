-- What is written lies within the buffers.
use native.Mathlib.Omega.{arith}
use Rattle.console.proofs.Receipts.{text_within}
use Rattle.dump.proofs.Writing.{both_papers}
use Rattle.dump.proofs.rescue.rescue.Goals as goal

pub returns : goal.returns
returns c =
    let told = c.save_bytes.ensures in
    record {
      said_after = both_papers _ _ _ told.0 told.1;
      bounds =
          (text_within _ _ told.0 (omega arith), text_within _ _ told.1 (omega arith));
    }
