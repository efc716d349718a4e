-- Out of the ranges nothing changes; else what the end of the input comes to.
use mathlib.Core.List.{[]}
use Rattle.set_rules.specs.Words.{lent_set}
use Rattle.tally.specs.Meanings.{stream_of}
use Rattle.tally.proofs.Streaming.{end_unfit, end_taken, ended_fit}
use Rattle.tally.proofs.stream.Stream.end.Goals as goal

pub returns-then-not-fits : goal.returns-then-not-fits
returns-then-not-fits c =
    let a = c.args in
    end_unfit (stream_of a.self (lent_set [] [] [] [] []) a.totals.now) c.end_fits-fits.ensures c.if-not-fits.true

pub counted-sets-requires : goal.counted-sets-requires
counted-sets-requires c =
    let a = c.args in
    ended_fit (stream_of a.self (lent_set [] [] [] [] []) a.totals.now) c.end_fits-fits.ensures c.if-not-fits.false
    c.end_over-over.ensures

pub returns : goal.returns
returns c =
    let a = c.args in
    end_taken (stream_of a.self (lent_set [] [] [] [] []) a.totals.now) c.end_fits-fits.ensures c.if-not-fits.false
    c.end_over-over.ensures c.counted-sets.ensures
