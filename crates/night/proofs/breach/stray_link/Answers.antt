use mathlib.Core.Path.{ap, ◌∙◌}
use Prim.Native.Nat.{ℕ}
use mathlib.Core.Bool.{Bool}
use native.Mathlib.Omega.{arith}
use Rattle.slots.specs.Words.{cell}
use Rattle.tree_rules.specs.Check.{in_range}
use Rattle.night_rules.specs.Why.{neg}
use Rattle.night.proofs.Sought.{low_here, low_on, low_end}
use Rattle.night.proofs.breach.stray_link.Goals as goal

pub returns-then-not-in_range : goal.returns-then-not-in_range
returns-then-not-in_range c =
    let a = c.args in
    let test : ℕ → Bool = λ g. neg (in_range a.n (cell a.cells.now a.i g)) in
    let read = ap neg (c.in_range.ensures ∙ ap (in_range a.n) c.get.ensures) in
    low_here test 7 _ read c.loop-f-test.true (ap neg c.if-not-in_range.true) ∙ c.loop-f.invariant

pub loop-f-preserved : goal.loop-f-preserved
loop-f-preserved c =
    let a = c.args in
    let test : ℕ → Bool = λ g. neg (in_range a.n (cell a.cells.now a.i g)) in
    let read = ap neg (c.in_range.ensures ∙ ap (in_range a.n) c.get.ensures) in
    low_on test 7 _ read c.loop-f-test.true (ap neg c.if-not-in_range.false) ∙ c.loop-f.invariant

pub returns : goal.returns
returns c = low_end _ _ _ (omega arith) ∙ c.loop-f.invariant
