use mathlib.Core.Path.{◌≡◌}
use Prim.Native.Nat.{◌+◌, ◌-◌}
use native.Mathlib.Omega.{arith}
use Rattle.sets.proofs.Cursors.{advanced_none, advanced_plus, advanced_up, base_stays}
use Rattle.sets.proofs.cursor.advance.Goals as goal

pub returns-then-on-lower : goal.returns-then-on-lower
returns-then-on-lower c =
    let a = c.args in
    let z : c.loop-d.d - 1 + 1 ≡ c.loop-d.d = omega (arith, c.loop-d-test.true) in
    rw z
    (advanced_plus
    a.lengths.now
    a.base
    c.loop-d.indexes
    c.loop-d.d
    c.loop-d.invariant.0
    c.loop-d-test.true
    (rw z at c.length_at-lower.ensures)
    c.length_at-upper.ensures
    (rw z at c.index_at.ensures)
    c.if-on-lower.true
    (rw z at c.set_index.ensures))

pub loop-d-preserved : goal.loop-d-preserved
loop-d-preserved c =
    let a = c.args in
    let z : c.loop-d.d - 1 + 1 ≡ c.loop-d.d = omega (arith, c.loop-d-test.true) in (
      advanced_up
          a.lengths.now
          a.base
          c.loop-d.indexes
          c.loop-d.d
          c.loop-d.invariant.0
          c.loop-d-test.true
          (rw z at c.length_at-lower.ensures)
          c.length_at-upper.ensures
          (rw z at c.index_at.ensures)
          c.if-on-lower.false
          (rw z at c.set_index-in-loop-d.ensures),
      omega arith,
      omega (
        arith,
        c.loop-d.invariant.2,
        base_stays c.loop-d.indexes c.loop-d.d 0 c.loop-d-test.true (rw z at c.set_index-in-loop-d.ensures),
      ),
    )

pub returns : goal.returns
returns c =
    let a = c.args in
    advanced_none
    a.lengths.now
    a.base
    c.loop-d.indexes
    c.loop-d.d
    c.loop-d.invariant.0
    c.loop-d-test.false
    c.index_at-first.ensures
    c.set_index-2.ensures
