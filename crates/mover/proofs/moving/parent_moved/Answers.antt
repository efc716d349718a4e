-- The parent's word is compared.
use native.Mathlib.Omega.{arith}
use Rattle.set_rules.specs.Words.{lent_set}
use Rattle.mover.proofs.Movable.{parent_none, parent_up, some_bins}
use Rattle.mover.proofs.moving.parent_moved.Goals as goal

pub returns-then-k-eq0 : goal.returns-then-k-eq0
returns-then-k-eq0 c =
    let a = c.args in
    let s = lent_set a.lengths.now a.bins.now a.heads.now a.names.now a.cells.now in
    parent_none s a.i a.k c.if-k-eq0.true

pub nonzero_rem-i : goal.nonzero_rem-i
nonzero_rem-i c =
    let a = c.args in
    let s = lent_set a.lengths.now a.bins.now a.heads.now a.names.now a.cells.now in
    omega (arith, some_bins s a.i a.k c.requires.0 c.requires.1 c.length_at-length.ensures)

pub returns : goal.returns
returns c =
    let a = c.args in
    let s = lent_set a.lengths.now a.bins.now a.heads.now a.names.now a.cells.now in
    parent_up s a.i a.k c.if-k-eq0.false c.length_at-length.ensures c.says_moved.ensures
