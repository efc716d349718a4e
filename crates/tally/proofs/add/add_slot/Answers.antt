-- A free slot adds nothing, another the entry that it is.
use native.Mathlib.Omega.{arith}
use Rattle.set_rules.specs.Words.{lent_set}
use Rattle.tally.proofs.Counting.{slot_free, slot_used}
use Rattle.tally.proofs.add.add_slot.Goals as goal

pub returns-then-get-eq-FREE : goal.returns-then-get-eq-FREE
returns-then-get-eq-FREE c =
    let a = c.args in
    let s = lent_set a.lengths.now a.bins.now a.heads.now a.names.now a.cells.now in
    slot_free s a.x a.totals.now c.get.ensures c.if-get-eq-FREE.true

pub add_entry-requires : goal.add_entry-requires
add_entry-requires c =
    (c.requires.0, omega (arith, c.requires.1, c.slot_looks-looks.ensures))

pub returns : goal.returns
returns c =
    let a = c.args in
    let s = lent_set a.lengths.now a.bins.now a.heads.now a.names.now a.cells.now in
    slot_used s a.x a.totals.now c.get.ensures c.if-get-eq-FREE.false c.slot_looks-looks.ensures c.add_entry.ensures
