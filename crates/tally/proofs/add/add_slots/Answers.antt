use mathlib.Core.Path.{◌≡◌, refl, ap, ◌∙◌}
use Prim.Native.Nat.{◌/◌}
use native.Mathlib.Omega.{arith}
use lib.ListN.{length}
use Rattle.set_rules.specs.Words.{lent_set}
use Rattle.figure_rules.specs.Tally.{slots_tallied}
use Rattle.tally.proofs.Looping.{slots_start, slots_on, slot_room, slot_word_most}
use Rattle.tally.proofs.add.add_slots.Goals as goal

pub loop-x-init : goal.loop-x-init
loop-x-init c = slots_start _ _

pub overflow_cast-x : goal.overflow_cast-x
overflow_cast-x c =
    let a = c.args in
    let s = lent_set a.lengths.now a.bins.now a.heads.now a.names.now a.cells.now in
    omega (arith, slot_word_most s c.requires.0 refl c.loop-x-test.true)

pub add_slot-requires : goal.add_slot-requires
add_slot-requires c =
    let a = c.args in
    let s = lent_set a.lengths.now a.bins.now a.heads.now a.names.now a.cells.now in
    slot_room s a.totals.now c.loop-x.x c.loop-x.invariant c.requires.0 c.requires.1 c.requires.2 (omega arith)

pub loop-x-preserved : goal.loop-x-preserved
loop-x-preserved c =
    let a = c.args in
    let s = lent_set a.lengths.now a.bins.now a.heads.now a.names.now a.cells.now in
    slots_on s a.totals.now c.loop-x.x c.loop-x.invariant c.add_slot.ensures

pub returns : goal.returns
returns c =
    let a = c.args in
    let s = lent_set a.lengths.now a.bins.now a.heads.now a.names.now a.cells.now in
    let all : c.loop-x.x ≡ length a.names.now / 2 = omega arith in
    c.loop-x.invariant ∙ ap (λ k. slots_tallied s k a.totals.now) all
