-- The sets, then the slots, then the bins, each with room.
use native.Mathlib.Omega.{arith}
use Rattle.set_rules.specs.Words.{lent_set}
use Rattle.tally.proofs.Tallied.{slots_room, bins_room, set_made}
use Rattle.tally.proofs.add.add_set.Goals as goal

pub add_to-requires : goal.add_to-requires
add_to-requires c = omega (arith, c.requires.2 0)

pub add_slots-requires : goal.add_slots-requires
add_slots-requires c =
    let a = c.args in
    let s = lent_set a.lengths.now a.bins.now a.heads.now a.names.now a.cells.now in
    let r = slots_room s a.totals.now c.requires.0 c.requires.1 c.requires.2 c.add_to.ensures in
    (c.requires.0, r.0, r.1)

pub add_bins-requires : goal.add_bins-requires
add_bins-requires c =
    let a = c.args in
    let s = lent_set a.lengths.now a.bins.now a.heads.now a.names.now a.cells.now in
    bins_room s a.totals.now c.requires.0 c.requires.1 c.requires.2 c.add_to.ensures c.add_slots.ensures

pub returns : goal.returns
returns c =
    let a = c.args in
    let s = lent_set a.lengths.now a.bins.now a.heads.now a.names.now a.cells.now in
    set_made s a.totals.now c.requires.0 c.requires.1 c.requires.2 c.add_to.ensures c.add_slots.ensures
    c.add_bins.ensures
