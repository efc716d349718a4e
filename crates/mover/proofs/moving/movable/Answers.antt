-- Each way out is one of the model's.
use Rattle.set_rules.specs.Words.{lent_set}
use Rattle.mover.proofs.Movable.{last_table, no_bin, gone, may}
use Rattle.mover.proofs.moving.movable.Goals as goal

pub returns-then-lengths-k : goal.returns-then-lengths-k
returns-then-lengths-k c =
    let a = c.args in
    let s = lent_set a.lengths.now a.bins.now a.heads.now a.names.now a.cells.now in
    last_table s a.k a.i c.if-lengths-k.true

pub returns-then-length-i : goal.returns-then-length-i
returns-then-length-i c =
    let a = c.args in
    let s = lent_set a.lengths.now a.bins.now a.heads.now a.names.now a.cells.now in
    no_bin s a.k a.i c.if-lengths-k.false c.length_at-length.ensures c.if-length-i.true

pub returns-then-says_moved : goal.returns-then-says_moved
returns-then-says_moved c =
    let a = c.args in
    let s = lent_set a.lengths.now a.bins.now a.heads.now a.names.now a.cells.now in
    gone s a.k a.i c.if-lengths-k.false c.length_at-length.ensures c.if-length-i.false c.says_moved.ensures c.if-says_moved.true

pub returns : goal.returns
returns c =
    let a = c.args in
    let s = lent_set a.lengths.now a.bins.now a.heads.now a.names.now a.cells.now in
    may s a.k a.i c.if-lengths-k.false c.length_at-length.ensures c.if-length-i.false c.says_moved.ensures c.if-says_moved.false
    c.parent_moved.ensures
