use mathlib.Core.Path.{◌≡◌, refl, ap, ◌∙◌}
use mathlib.Core.List.{[]}
use Prim.Native.Nat.{◌/◌}
use native.Mathlib.Omega.{arith}
use lib.ListN.{length}
use lib.Seq.{sets}
use Rattle.set_rules.specs.Words.{lent_set}
use Rattle.file_rules.specs.File.{slots_bytes}
use Rattle.file.proofs.Laying.{slots_on}
use Rattle.file.proofs.put.put_slots.Goals as goal

pub loop-i-init : goal.loop-i-init
unfolding slots_bytes
loop-i-init c = refl

pub loop-i-preserved : goal.loop-i-preserved
loop-i-preserved c =
    let l = c.loop-i in
    let a = c.args in
    slots_on a.out.now a.at (lent_set [] [] [] a.names.now a.cells.now) l.i l.invariant c.put_slot.ensures

pub returns : goal.returns
returns c =
    let l = c.loop-i in
    let a = c.args in
    let all : l.i ≡ length a.names.now / 2 = omega arith in
    l.invariant ∙ ap (λ k. sets a.out.now a.at (slots_bytes (lent_set [] [] [] a.names.now a.cells.now) k)) all
