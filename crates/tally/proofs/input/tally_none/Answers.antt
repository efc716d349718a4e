-- The tally of five empty slices is one set more.
use Rattle.figure_rules.specs.Stream.{no_set, figures}
use Rattle.tally.proofs.Streaming.{one_more_lem}
use Rattle.tally.proofs.input.tally_none.Goals as goal

pub returns : goal.returns
returns c =
    let a = c.args in
    one_more_lem (figures a.totals.now a.over) no_set c.tally-reply.ensures c.over_after.ensures
