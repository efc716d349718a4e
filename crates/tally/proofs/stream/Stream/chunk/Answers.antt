-- Out of the ranges nothing changes; else what the bytes of the piece come to.
use Rattle.set_rules.specs.Words.{lent_set}
use Rattle.tally.specs.Meanings.{stream_of}
use Rattle.tally.proofs.Streaming.{in_ranges, piece_unfit, piece-taken}
use Rattle.tally.proofs.stream.Stream.chunk.Goals as goal

pub returns-then-not-fits : goal.returns-then-not-fits
returns-then-not-fits c =
    let a = c.args in
    let s = lent_set a.lengths.now a.bins.now a.heads.now a.names.now a.cells.now in
    let d = stream_of a.self s a.totals.now in
    piece_unfit d c.stream_fits-fits.ensures a.piece.now c.if-not-fits.true

pub take_all-stream-requires : goal.take_all-stream-requires
take_all-stream-requires c =
    let a = c.args in
    let s = lent_set a.lengths.now a.bins.now a.heads.now a.names.now a.cells.now in
    let d = stream_of a.self s a.totals.now in
    in_ranges d c.stream_fits-fits.ensures c.if-not-fits.false

pub counted-sets-requires : goal.counted-sets-requires
counted-sets-requires c =
    c.take_all-stream.ensures.1

pub returns : goal.returns
returns c =
    let a = c.args in
    let s = lent_set a.lengths.now a.bins.now a.heads.now a.names.now a.cells.now in
    let d = stream_of a.self s a.totals.now in
    piece-taken d c.stream_fits-fits.ensures a.piece.now c.if-not-fits.false c.take_all-stream.ensures.0 c.counted-sets.ensures
