-- Two tests decide between 9 and the loop.
use Rattle.sets.proofs.Looking.{many_tables, no_table, looped}
use Rattle.sets.proofs.lookup.lookup_fit.Goals as goal

pub returns-then-lengths-gt8 : goal.returns-then-lengths-gt8
returns-then-lengths-gt8 c = many_tables _ _ _ _ c.if-lengths-gt8.true

pub returns-then-lengths-table : goal.returns-then-lengths-table
returns-then-lengths-table c = no_table _ _ _ _ c.if-lengths-gt8.false c.if-lengths-table.true

pub returns : goal.returns
returns c = looped _ _ _ _ c.if-lengths-gt8.false c.search.ensures
