-- A list's word and its slots, or a tree, its header and its word.
use mathlib.Core.Path.{sym, ◌∙◌}
use Rattle.set_rules.specs.Words.{lent_set}
use Rattle.mover.proofs.Heading.{listed, planted}
use Rattle.mover.proofs.Written.{lays_few, lays_many}
use Rattle.mover.proofs.laying.lay.Goals as goal

pub returns-in_default : goal.returns-in_default
returns-in_default c =
    let a = c.args in
    let s = lent_set a.lengths.now a.bins.now a.heads.now a.names.now a.cells.now in
    λ h e. lays_few s a.k a.i a.n c.requires h a.first a.count c.list_head.result (listed a.count h (sym c.in_default.is ∙ e))
    c.list_head.ensures
    c.put_bin.ensures
    c.plain.ensures

pub returns : goal.returns
returns c =
    let a = c.args in
    let s = lent_set a.lengths.now a.bins.now a.heads.now a.names.now a.cells.now in
    λ h e.
    let own = planted a.count h (sym c.in-Some.is ∙ e) in
    lays_many s a.k a.i a.n c.requires h a.first a.count c.tree_head.result c.grow-root.result own.0
    c.grow-root.ensures
    (rw (← own.1) c.put_header.ensures)
    (rw (← own.1) c.tree_head.ensures)
    c.put_bin-2.ensures
