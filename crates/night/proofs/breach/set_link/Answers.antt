use mathlib.Core.Path.{ap, ◌∙◌}
use native.Mathlib.Omega.{arith}
use lib.Dec.{eqb}
use borrow.Author.Tests.{eq-eqb, ne_eqb}
use Rattle.slots.specs.Words.{null}
use Rattle.night_rules.specs.Why.{neg}
use Rattle.night_rules.specs.Breach.{is_set}
use Rattle.night.proofs.Sought.{low_here, low_on, low_end}
use Rattle.night.proofs.breach.set_link.Goals as goal

pub returns-then-get : goal.returns-then-get
returns-then-get c =
    let a = c.args in
    let read = ap (λ x. neg (eqb x null)) c.get.ensures in
    low_here (is_set a.cells.now a.i) 7 _ read c.loop-f-test.true (ap neg (ne_eqb _ _ c.if-get.true)) ∙ c.loop-f.invariant

pub loop-f-preserved : goal.loop-f-preserved
loop-f-preserved c =
    let a = c.args in
    let read = ap (λ x. neg (eqb x null)) c.get.ensures in
    low_on (is_set a.cells.now a.i) 7 _ read c.loop-f-test.true (ap neg (eq-eqb _ _ c.if-get.false)) ∙ c.loop-f.invariant

pub returns : goal.returns
returns c = low_end _ _ _ (omega arith) ∙ c.loop-f.invariant
