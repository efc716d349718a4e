-- The black slots to the slot, then its right link, then left links.
use mathlib.Core.Path.{◌∙◌}
use native.Mathlib.Omega.{arith}
use Rattle.slots.specs.Words.{rightward}
use Rattle.night.proofs.Stepping.{one_fits, to_fits, way_end, way_here, way_on_lem}
use Rattle.night.proofs.ways.by_right.Goals.{then-n-eq0-via-then-n-eq0, then-n-eq0-via-else-n-eq0+then-q}
use Rattle.night.proofs.ways.by_right.Goals as goal

pub overflow_cast-result : goal.overflow_cast-result
overflow_cast-result c =
    omega (arith, to_fits _ _ _ c.blacks_to-k.ensures, c.requires)

pub returns-then-n-eq0 : goal.returns-then-n-eq0
returns-then-n-eq0 c = elim c.then-n-eq0.branch [
  | then-n-eq0-via-then-n-eq0 w ↦ rw (← c.blacks_to-k.ensures) (way_end _ _ rightward _ _ (omega (arith, w.if-n-eq0.true)))
  | then-n-eq0-via-else-n-eq0+then-q w ↦
      rw (← c.blacks_to-k.ensures) (way_here _ _ rightward _ c.get-q.ensures _ (omega (arith, w.if-n-eq0.false)) w.if-q.true)
]

pub overflow_add-k : goal.overflow_add-k
overflow_add-k c =
    omega (arith, one_fits _ _ c.one_if_black-one.ensures, to_fits _ _ _ c.blacks_to-k.ensures, c.requires)

pub lefts-requires : goal.lefts-requires
lefts-requires c =
    omega (arith, one_fits _ _ c.one_if_black-one.ensures, to_fits _ _ _ c.blacks_to-k.ensures, c.requires)

pub returns : goal.returns
returns c =
    rw (← c.blacks_to-k.ensures)
    (c.lefts.ensures
    ∙ way_on_lem _ _ rightward _ c.get-q.ensures _ _ (omega (arith, c.if-n-eq0.false)) c.if-q.false c.one_if_black-one.ensures)
