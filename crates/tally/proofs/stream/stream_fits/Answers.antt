-- The second test decides where the first holds.
use Rattle.set_rules.specs.Words.{lent_set}
use Rattle.tally.specs.Meanings.{stream_of}
use Rattle.tally.proofs.Streaming.{all_fit, not_fit}
use Rattle.tally.proofs.stream.stream_fits.Goals as goal

pub returns-then-end_fits : goal.returns-then-end_fits
returns-then-end_fits c =
    let a = c.args in
    let s = lent_set a.lengths.now a.bins.now a.heads.now a.names.now a.cells.now in
    all_fit (stream_of a.r s a.totals.now) _ c.end_fits.ensures c.if-end_fits.true c.may_go_on.ensures

pub returns-else-end_fits : goal.returns-else-end_fits
returns-else-end_fits c =
    let a = c.args in
    let s = lent_set a.lengths.now a.bins.now a.heads.now a.names.now a.cells.now in
    not_fit (stream_of a.r s a.totals.now) _ c.end_fits.ensures c.if-end_fits.false
