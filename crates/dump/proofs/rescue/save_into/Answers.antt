-- What fresh and salvage leave is dumped and told.
use mathlib.Core.Path.{ap}
use native.Mathlib.Omega.{arith}
use Rattle.index_rules.specs.Index.{Outcome}
use Rattle.dump.proofs.Writing.{dumped_saved, told-saved, kept_is}
use Rattle.dump.proofs.rescue.save_into.Goals as goal

pub shape_of-names2 : goal.shape_of-names2
shape_of-names2 c =
    omega (arith, c.names2-2-1.given, c.names2-1.given)

pub shape_of-cells2 : goal.shape_of-cells2
shape_of-cells2 c =
    omega (arith, c.cells2-2-1.given, c.cells2-1.given)

pub shape_of-head2 : goal.shape_of-head2
shape_of-head2 c =
    omega (arith, c.head2-2-1.given, c.head2-1.given)

pub shape_of-sizes2 : goal.shape_of-sizes2
shape_of-sizes2 c =
    omega (arith, c.sizes2-2-1.given, c.sizes2-1.given)

pub returns : goal.returns
returns c =
    let a = c.args in
    let made = ap (λ (o : Outcome). o.left) c.fresh.ensures in (
      dumped_saved a.names.now a.cells.now _ _ a.report.now _ made c.salvage.ensures _ a.n a.c
          c.write-dumped.ensures,
      told-saved a.names.now a.cells.now _ _ a.report.now _ made c.salvage.ensures _ a.n (kept_is c.salvage.result c.unwrap_or-kept.ensures)
          c.tell_saved-said.ensures,
    )
