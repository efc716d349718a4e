-- The pass from the bin's first slot is the model's.
use Rattle.set_rules.specs.Words.{lent_set}
use Rattle.mover.proofs.Written.{finds}
use Rattle.mover.proofs.halves.half_first.Goals as goal

pub returns : goal.returns
returns c =
    let a = c.args in
    let s = lent_set a.lengths.now a.bins.now a.heads.now a.names.now a.cells.now in
    finds s a.k a.i a.n c.requires.0 c.length_at-below.ensures c.first_of-first.ensures a.j c.first_home.ensures
