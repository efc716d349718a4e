-- The second test decides where the first holds.
use mathlib.Core.List.{[]}
use Rattle.set_rules.specs.Words.{lent_set}
use Rattle.tally.specs.Meanings.{stream_of}
use Rattle.tally.proofs.Streaming.{end_both, end_not}
use Rattle.tally.proofs.stream.end_fits.Goals as goal

pub returns-then-length_fits : goal.returns-then-length_fits
returns-then-length_fits c =
    let a = c.args in
    let d = stream_of a.r (lent_set [] [] [] [] []) a.totals.now in
    end_both d c.length_fits.ensures c.if-length_fits.true c.fit_totals.ensures

pub returns-else-length_fits : goal.returns-else-length_fits
returns-else-length_fits c =
    let a = c.args in
    let d = stream_of a.r (lent_set [] [] [] [] []) a.totals.now in
    end_not d c.length_fits.ensures c.if-length_fits.false
