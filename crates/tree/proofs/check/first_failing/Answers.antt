-- A test that holds hands on to the next, one that fails is the answer.
use mathlib.Core.Path.{refl, sym, ◌∙◌}
use native.Mathlib.Omega.{arith}
use Rattle.tree_rules.specs.Check.{first_failing}
use Rattle.tree.proofs.Testing.{holds_on, fails_here, all_held_lem}
use Rattle.tree.proofs.check.first_failing.Goals as goal

pub loop-t-init : goal.loop-t-init
unfolding first_failing
loop-t-init c = refl

pub returns-then-not-fine : goal.returns-then-not-fine
returns-then-not-fine c =
    let a = c.args in
    fails_here a.names.now a.cells.now a.i c.loop-t.t (omega (arith, c.loop-t.auto)) (omega (arith, c.loop-t-test.true))
    (sym c.test-fine.ensures ∙ c.if-not-fine.true) c.loop-t.invariant

pub loop-t-preserved : goal.loop-t-preserved
loop-t-preserved c =
    let a = c.args in
    sym (holds_on a.names.now a.cells.now a.i c.loop-t.t (omega (arith, c.loop-t-test.true))
    (sym c.test-fine.ensures ∙ c.if-not-fine.false))
    ∙ c.loop-t.invariant

pub returns : goal.returns
returns c =
    let a = c.args in
    let z = sym (all_held_lem a.names.now a.cells.now a.i c.loop-t.t (omega (arith, c.loop-t-test.false, c.loop-t.auto)))
    ∙ c.loop-t.invariant in
    rw (← z)
