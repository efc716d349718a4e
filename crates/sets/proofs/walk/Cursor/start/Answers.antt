-- The tests of fitness and of the table decide between 1, 10 and a cursor.
use Rattle.sets.proofs.Walking.{start_unfit, start_unknown, start_made}
use Rattle.sets.proofs.walk.Cursor.start.Goals as goal

pub returns-then-not-fits : goal.returns-then-not-fits
returns-then-not-fits c =
    start_unfit _ _ c.fit_set-fits.ensures c.if-not-fits.true

pub returns-then-lengths-table : goal.returns-then-lengths-table
returns-then-lengths-table c =
    start_unknown _ _ c.fit_set-fits.ensures c.if-not-fits.false c.if-lengths-table.true

pub returns : goal.returns
returns c =
    start_made _ _ c.fit_set-fits.ensures c.if-not-fits.false c.if-lengths-table.false
