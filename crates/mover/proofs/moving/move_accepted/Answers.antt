-- Both ways out are the model's.
use mathlib.Core.Path.{sym, ◌∙◌}
use borrow.Author.Tests.{not-false}
use Rattle.set_rules.specs.Words.{lent_set}
use Rattle.mover.proofs.Moves.{cannot_moves, may_moves}
use Rattle.mover.proofs.moving.move_accepted.Goals as goal

pub returns-then-not-movable : goal.returns-then-not-movable
returns-then-not-movable c =
    let a = c.args in
    let s = lent_set a.lengths.now a.bins.now a.heads.now a.names.now a.cells.now in
    cannot_moves s a.table a.bin c.requires.0 c.requires.1 c.movable.ensures c.if-not-movable.true

pub move_entries-requires : goal.move_entries-requires
move_entries-requires c =
    (c.requires.0.fit, sym c.movable.ensures ∙ not-false c.movable.result c.if-not-movable.false-raw)

pub returns : goal.returns
returns c =
    let a = c.args in
    let s = lent_set a.lengths.now a.bins.now a.heads.now a.names.now a.cells.now in
    may_moves s a.table a.bin c.requires.0 c.requires.1 c.movable.ensures c.if-not-movable.false
    c.move_entries.ensures
