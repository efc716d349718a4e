-- The pass from the bin's first slot is the model's.
use Rattle.set_rules.specs.Words.{lent_set}
use Rattle.mover.proofs.Written.{counts}
use Rattle.mover.proofs.halves.half_count.Goals as goal

pub returns : goal.returns
returns c =
    let a = c.args in
    let s = lent_set a.lengths.now a.bins.now a.heads.now a.names.now a.cells.now in
    counts s a.k a.i a.n c.requires.0 c.length_at-below.ensures c.first_of-first.ensures a.j c.home_count.ensures
