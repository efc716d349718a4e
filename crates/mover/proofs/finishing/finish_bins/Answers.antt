use mathlib.Core.Path.{◌≡◌, refl, ◌∙◌}
use native.Mathlib.Omega.{arith}
use borrow.Author.Rules.{rules}
use Prim.Native.Nat.{◌+◌}
use Rattle.set_rules.specs.Words.{lent_set, length_at}
use Rattle.move_rules.specs.Finishing.{bins_finished}
use Rattle.mover.proofs.Turns.{bins_turn, bins_over, not_none, limits}
use Rattle.mover.proofs.finishing.finish_bins.Goals as goal

pub loop-i-init : goal.loop-i-init
unfolding bins_finished
loop-i-init c = (refl, c.requires.0, omega arith)

pub overflow_add-gone : goal.overflow_add-gone
overflow_add-gone c =
    let a = c.args in
    let s = lent_set a.lengths.now a.bins.now a.heads.now a.names.now a.cells.now in
    let m = limits s a.k c.requires.0 in
    omega (arith, c.in-Ok.ensures.2, c.loop-i.invariant.2, c.requires.1, m.most, m.width, c.length_at-length.ensures)

pub returns-in-Err : goal.returns-in-Err
returns-in-Err c =
    let a = c.args in
    let s = lent_set a.lengths.now a.bins.now a.heads.now a.names.now a.cells.now in
    let l = c.loop-i in
    let told = c.in-Err.ensures in (
      bins_over _ a.k (l.i + 1) (length_at s a.k) (bins_turn _ a.k l.i l.invariant.0 (told.0 l.gone)) (not_none c.in-Err.refusal)
          (omega (arith, c.length_at-length.ensures)),
      told.1,
      search rules,
    )

pub loop-i-preserved : goal.loop-i-preserved
loop-i-preserved c =
    let l = c.loop-i in
    let told = c.in-Ok.ensures in
    (bins_turn _ c.args.k l.i l.invariant.0 (told.0 l.gone), told.1, omega (arith, told.2, l.invariant.2))

pub returns : goal.returns
returns c =
    let a = c.args in
    let s = lent_set a.lengths.now a.bins.now a.heads.now a.names.now a.cells.now in
    let l = c.loop-i in
    let z : l.i ≡ length_at s a.k = omega (arith, c.length_at-length.ensures, c.loop-i-test.false) in
    let m = limits s a.k c.requires.0 in
    (l.invariant.0 ∙ rw z, l.invariant.1, omega (arith, l.invariant.2, m.width))
