-- The input ends where a set would begin, or within one.
use mathlib.Core.List.{[]}
use Rattle.set_rules.specs.Words.{lent_set}
use Rattle.tally.specs.Meanings.{stream_of}
use Rattle.tally.proofs.Streaming.{at_begin, within_set}
use Rattle.tally.proofs.figure.end_over.Goals as goal

pub returns-then-r-eq0 : goal.returns-then-r-eq0
returns-then-r-eq0 c =
    let a = c.args in
    at_begin (stream_of a.r (lent_set [] [] [] [] []) a.totals.now) c.if-r-eq0.true

pub returns : goal.returns
returns c =
    let a = c.args in
    within_set (stream_of a.r (lent_set [] [] [] [] []) a.totals.now) c.if-r-eq0.false c.tally_none.ensures
