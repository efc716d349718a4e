use mathlib.Core.Path.{◌≡◌, ap}
use Prim.Native.Nat.{ℕ, ◌+◌, ◌-◌, ◌*◌, ◌≤◌}
use native.Mathlib.Omega.{arith}
use lib.ListN.{length, take, drop, length-drop}
use lib.Seq.{length-take-le}
use Rattle.file.proofs.Running.{no_slots, slots-more, cells_more}
use Rattle.file.proofs.runs.read_slots.Goals as goal

pub loop-i-init : goal.loop-i-init
loop-i-init c = ((no_slots c.args.names.now 0 c.args.rest.now).0, (no_slots c.args.cells.now 0 c.args.rest.now).1)

pub read_slot-requires : goal.read_slot-requires
read_slot-requires c =
    let rest = c.args.rest.now in
    let i = c.loop-i.i in
    let long = length-drop (41 * i) rest in
    let room : 41 ≤ length (drop (41 * i) rest) = omega (arith, c.requires.1, c.loop-i-test.true) in
    let z : 41 * i + 41 - 41 * i ≡ 41 = omega arith in
    (omega (arith, c.requires.0, c.loop-i-test.true), rw (z, length-take-le 41 (drop (41 * i) rest) room) (omega arith))

pub loop-i-preserved : goal.loop-i-preserved
loop-i-preserved c =
    let a = c.args in
    let i = c.loop-i.i in
    let rest = a.rest.now in
    let long = length-drop (41 * i) rest in
    let room : 41 ≤ length (drop (41 * i) rest) = omega (arith, c.requires.1, c.loop-i-test.true) in
    let z : 41 * i + 41 - 41 * i ≡ 41 = omega arith in
    let own = ap (λ (n : ℕ). take n (drop (41 * i) rest)) z in (
      slots-more a.names.now 0 rest 0 i i (omega arith) c.loop-i.invariant.0 room own c.read_slot.ensures.0,
      cells_more a.cells.now 0 rest 0 i i (omega arith) c.loop-i.invariant.1 room own c.read_slot.ensures.1,
    )

pub returns : goal.returns
returns c =
    let e : c.loop-i.i ≡ c.args.n = omega arith in (rw e at c.loop-i.invariant.0, rw e at c.loop-i.invariant.1)
