use mathlib.Core.Path.{◌∙◌}
use native.Mathlib.Omega.{arith}
use Rattle.night.proofs.Stepping.{one_fits, way_here, way_on_lem, way_end}
use Rattle.night.proofs.ways.lefts.Goals.{else-loop-test, then-loop-test+then-q}
use Rattle.night.proofs.ways.lefts.Goals as goal

pub loop-preserved : goal.loop-preserved
loop-preserved c =
    let inv = c.loop.invariant in (
      way_on_lem _ _ _ _ c.get-q.ensures _ _ (omega arith) c.if-q.false c.one_if_black.ensures ∙ inv.0,
      omega (arith, one_fits _ _ c.one_if_black.ensures),
    )

pub returns : goal.returns
returns c =
    elim c.loop-test.branch [
      | else-loop-test w ↦ way_end _ _ _ _ _ (omega arith) ∙ c.loop.invariant.0
      | then-loop-test+then-q w ↦ way_here _ _ _ _ w.get-q.ensures _ (omega arith) w.if-q.true ∙ c.loop.invariant.0
    ]
