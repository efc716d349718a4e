use mathlib.Core.Path.{◌≡◌, refl, ◌∙◌, ap}
use Prim.Native.Nat.{◌<◌}
use native.Mathlib.Omega.{arith}
use lib.ListN.{get_or, take}
use Rattle.std.proofs.lemmas.List.{get_or-take, length-take}
use Rattle.set_rules.specs.Words.{bins_before}
use Rattle.sets.proofs.Sized.{begins_on, begins_within}
use Rattle.sets.proofs.fit.bins_before.Goals as goal

pub loop-length-init : goal.loop-length-init
unfolding bins_before
loop-length-init c = (refl, omega arith)

pub loop-length-preserved : goal.loop-length-preserved
loop-length-preserved c =
    let l = c.args.lengths.now in
    let k = c.loop-length.length-index in
    let inside : k < c.min-tables.result = omega (arith, length-take c.min-tables.result l) in
    let here : get_or (take c.min-tables.result l) k 0 ≡ get_or l k 0 = get_or-take c.min-tables.result l k 0 inside in
    (omega (arith, here, begins_on l k), omega (arith, here, c.type_inv.lengths k))

pub returns : goal.returns
returns c =
    let l = c.args.lengths.now in
    let z : c.loop-length.length-index ≡ c.min-tables.result = omega (arith, length-take c.min-tables.result l) in
    c.loop-length.invariant.0 ∙ ap (bins_before l) z ∙ begins_within l c.args.k _ c.min-tables.ensures
