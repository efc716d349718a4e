-- The fourth byte starts a loader; an earlier one is put on top of the number.
use Rattle.set_rules.specs.Words.{lent_set}
use Rattle.tally.specs.Meanings.{stream_of}
use Rattle.tally.proofs.Streaming.{fourth_byte, earlier_byte, started_goes}
use Rattle.tally.proofs.input.length_byte.Goals as goal

pub with_byte-left-requires : goal.with_byte-left-requires
with_byte-left-requires c =
    (c.requires.0, c.requires.1.length.number c.requires.0)

pub await_set-requires : goal.await_set-requires
await_set-requires c =
    let a = c.args in
    let s = lent_set a.lengths.now a.bins.now a.heads.now a.names.now a.cells.now in
    started_goes s c.start-started.ensures

pub returns-then-r-eq3 : goal.returns-then-r-eq3
returns-then-r-eq3 c =
    let a = c.args in
    let s = lent_set a.lengths.now a.bins.now a.heads.now a.names.now a.cells.now in
    let d = stream_of a.r s a.totals.now in
    fourth_byte d a.byte c.with_byte-left.ensures c.if-r-eq3.true c.start-started.ensures c.await_set.ensures

pub returns : goal.returns
returns c =
    let a = c.args in
    let s = lent_set a.lengths.now a.bins.now a.heads.now a.names.now a.cells.now in
    let d = stream_of a.r s a.totals.now in
    earlier_byte d a.byte c.with_byte-left.ensures c.if-r-eq3.false
