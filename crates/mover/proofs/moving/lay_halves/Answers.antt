-- The halves' first slots are read before the bin is taken out; then one half is laid after the other.
use Rattle.set_rules.specs.Words.{lent_set}
use Rattle.mover.proofs.Moves.{both}
use Rattle.mover.proofs.moving.lay_halves.Goals as goal

pub lay-requires-2 : goal.lay-requires-2
lay-requires-2 c =
    c.requires.0

pub returns : goal.returns
returns c =
    let a = c.args in
    let s = lent_set a.lengths.now a.bins.now a.heads.now a.names.now a.cells.now in
    λ under over e f. both s a.k a.i a.j under over a.low a.high c.half_first-a.ensures c.half_first-b.ensures
    c.take_bin.ensures
    (c.lay.ensures under e)
    (c.lay-2.ensures over f)
