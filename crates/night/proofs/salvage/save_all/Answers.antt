use mathlib.Core.Path.{refl, sym}
use native.Mathlib.Omega.{arith}
use Rattle.night.proofs.Saving.{turn_start, turn_ready, turn_on, turn_end}
use Rattle.night.proofs.salvage.save_all.Goals as goal

pub overflow_cast-n : goal.overflow_cast-n
overflow_cast-n c =
    omega (arith, c.requires.two, c.requires.most)

pub loop-i-init : goal.loop-i-init
loop-i-init c =
    turn_start c.requires refl refl

pub slice_bounds-save_slot-end : goal.slice_bounds-save_slot-end
slice_bounds-save_slot-end c =
    sym c.loop-i.invariant.sources.long

pub save_slot-kept-requires : goal.save_slot-kept-requires
save_slot-kept-requires c =
    let r = turn_ready c.loop-i.invariant c.loop-i-test.true in
    record {
      names2_len_bound = r.0;
      null_bound = r.1.0;
      i_lt_most_slots = r.1.1.0;
      kept_le_i = r.1.1.1.0;
      slot_ready = r.1.1.1.1;
    }

pub loop-i-preserved : goal.loop-i-preserved
loop-i-preserved c =
    turn_on c.loop-i.invariant c.loop-i-test.true c.save_slot-kept.ensures.0
    c.save_slot-kept.auto.names2
    c.save_slot-kept.auto.cells2
    c.save_slot-kept.auto.head2
    c.save_slot-kept.auto.sizes2
    c.save_slot-kept.auto.report
    c.save_slot-kept.ensures.1

pub returns : goal.returns
returns c =
    turn_end c.loop-i.invariant c.loop-i-test.false
