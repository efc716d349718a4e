-- By the tests, one after the other.
use Rattle.tally.proofs.Streaming.{own_fits, none_left, past_four, number_fits}
use Rattle.tally.proofs.stream.length_fits.Goals as goal

pub returns-then-left-ge1 : goal.returns-then-left-ge1
returns-then-left-ge1 c = own_fits _ _ c.if-got-eq4.true c.if-left-ge1.true

pub returns-else-left-ge1 : goal.returns-else-left-ge1
returns-else-left-ge1 c = none_left _ _ c.if-got-eq4.true c.if-left-ge1.false

pub returns-then-got-ge4 : goal.returns-then-got-ge4
returns-then-got-ge4 c = past_four _ _ c.if-got-eq4.false c.if-got-ge4.true

pub returns : goal.returns
returns c =
    number_fits _ _ c.if-got-eq4.false c.if-got-ge4.false c.unit.ensures
