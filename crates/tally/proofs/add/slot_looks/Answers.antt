-- The pair that is looked up is the slot's own.
use Rattle.set_rules.specs.Words.{lent_set}
use Rattle.tally.proofs.Counting.{own_looks}
use Rattle.tally.proofs.add.slot_looks.Goals as goal

pub returns : goal.returns
returns c =
    let a = c.args in
    let s = lent_set a.lengths.now a.bins.now a.heads.now a.names.now a.cells.now in
    own_looks s a.x c.name-hash.ensures c.name-key.ensures c.lookup_fit.ensures c.looks_of.ensures
