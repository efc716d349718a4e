-- What is read comes before what is written.
use Rattle.set_rules.specs.Words.{lent_set}
use Rattle.mover.proofs.Written.{takes}
use Rattle.mover.proofs.laying.take_bin.Goals as goal

pub returns : goal.returns
returns c =
    let a = c.args in
    let s = lent_set a.lengths.now a.bins.now a.heads.now a.names.now a.cells.now in
    takes s a.k a.i a.n c.requires.0 c.length_at-below.ensures c.first_of-first.ensures c.header_of-own.ensures
    c.put_bin.ensures
    c.put_header.ensures
    c.thread.ensures
