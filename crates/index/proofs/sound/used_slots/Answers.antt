use Prim.Native.Nat.{◌-◌}
use native.Mathlib.Omega.{arith}
use Rattle.index_rules.specs.Sound.{used}
use Rattle.index.proofs.Slots.{tally_on, tally_none, used_one}
use Rattle.index.proofs.sound.used_slots.Goals as goal

pub loop-k-preserved : goal.loop-k-preserved
loop-k-preserved c =
    let a = c.args in
    let k = c.loop-k.k in
    let one = c.used_slot-count.ensures in
    let most = used_one a.cells.now (k - 1) in
    let step = tally_on (used a.cells.now) k c.loop-k-test.true in
    (omega (arith, step, one), omega (arith, most, one))

pub returns : goal.returns
returns c =
    let a = c.args in
    omega (arith, tally_none (used a.cells.now) c.loop-k.k c.loop-k-test.false)
