-- So many items are within the slice, or all of it.
use mathlib.Core.Path.{refl, sym, ◌∙◌}
use Prim.Native.Nat.{◌*◌}
use native.Mathlib.Omega.{arith}
use lib.Seq.{take_all}
use Rattle.finisher.proofs.Filing.{items_within, items_past}
use Rattle.finisher.proofs.cut.front.Goals as goal

pub overflow_mul-result : goal.overflow_mul-result
overflow_mul-result c =
    let a = c.args in
    omega (arith, items_within a.count a.width a.len c.requires c.if-count-len.true)

pub returns-then-count-len : goal.returns-then-count-len
returns-then-count-len c =
    let a = c.args in
    (items_within a.count a.width a.len c.requires c.if-count-len.true, λ l e. refl)

pub returns : goal.returns
returns c =
    let a = c.args in (
      omega arith,
      λ l e. take_all a.len l (omega (arith, e))
          ∙ sym (take_all (a.width * a.count) l
          (omega (arith, e, items_past a.count a.width a.len c.requires c.if-count-len.false))),
    )
