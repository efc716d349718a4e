use mathlib.Core.Path.{◌∙◌}
use native.Mathlib.Omega.{arith}
use Rattle.night.proofs.Stepping.{one_fits, blacks_none, blacks_on, blacks_end}
use Rattle.night.proofs.ways.blacks_above.Goals as goal

pub returns-then-p : goal.returns-then-p
returns-then-p c = blacks_none _ _ _ c.get-p.ensures _ (omega arith) c.if-p.true ∙ c.loop.invariant.0

pub overflow_add-m : goal.overflow_add-m
overflow_add-m c = omega (arith, one_fits _ _ c.one_if_black.ensures)

pub loop-preserved : goal.loop-preserved
loop-preserved c =
    let inv = c.loop.invariant in (
      blacks_on _ _ _ c.get-p.ensures _ _ (omega arith) c.if-p.false c.one_if_black.ensures ∙ inv.0,
      omega (arith, one_fits _ _ c.one_if_black.ensures),
    )

pub returns : goal.returns
returns c = blacks_end _ _ _ _ (omega arith) ∙ c.loop.invariant.0
