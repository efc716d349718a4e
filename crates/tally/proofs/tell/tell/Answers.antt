-- One part behind another, and what is written lies within the buffer.
use native.Mathlib.Omega.{arith}
use Rattle.console.proofs.Receipts.{text_within}
use Rattle.tally.proofs.Telling.{over-told, not-over-told}
use Rattle.tally.proofs.tell.tell.Goals as goal

pub returns-then-over : goal.returns-then-over
returns-then-over c =
    let a = c.args in
    let told = over-told a.totals.now _ c.tell_counts-counts.ensures c.tell_rows-rows.ensures c.tell_last-last.ensures c.if-over.true
    c.fill.ensures in
    record { result_after = told; bounds = text_within _ _ told (omega arith) }

pub returns : goal.returns
returns c =
    let a = c.args in
    let told = not-over-told a.totals.now _ c.tell_counts-counts.ensures c.tell_rows-rows.ensures c.tell_last-last.ensures
    c.if-over.false in
    record { result_after = told; bounds = text_within _ _ told (omega arith) }
