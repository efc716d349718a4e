-- The limit, and then the slices.
use Rattle.set_rules.specs.Words.{lent_set}
use Rattle.file.proofs.Ranging.{count-over, count_within}
use Rattle.file.proofs.room.may_count.Goals as goal

pub returns-then-most-c : goal.returns-then-most-c
returns-then-most-c c =
    let a = c.args in
    let s = lent_set a.lengths.now a.bins.now a.heads.now a.names.now a.cells.now in
    count-over s _ _ c.most_of-most.ensures.0 c.if-most-c.true

pub returns : goal.returns
returns c =
    let a = c.args in
    let s = lent_set a.lengths.now a.bins.now a.heads.now a.names.now a.cells.now in
    count_within s _ _ c.most_of-most.ensures.0 c.if-most-c.false c.can_hold.ensures
