use mathlib.Core.Path.{◌∙◌}
use borrow.Author.Rules.{rules}
use Rattle.sets.proofs.Steps.{unlike-null, unlike_spent, unlike_same, unlike_on}
use Rattle.sets.proofs.lists.unlike.Goals as goal

pub returns-then-left-eq0 : goal.returns-then-left-eq0
returns-then-left-eq0 c =
    let a = c.args in
    unlike_spent a.names.now a.cells.now a.x c.loop-y.y c.loop-y.left c.loop-y-test.true
    c.if-left-eq0.true
    ∙ c.loop-y.invariant.0

pub returns-then-same : goal.returns-then-same
returns-then-same c =
    let a = c.args in
    unlike_same a.names.now a.cells.now a.x c.loop-y.y c.loop-y.left c.loop-y-test.true
    c.if-left-eq0.false c.same_pair-same.ensures c.if-same.true
    ∙ c.loop-y.invariant.0

pub loop-y-preserved : goal.loop-y-preserved
loop-y-preserved c =
    let a = c.args in (
      unlike_on
          a.names.now a.cells.now a.x c.loop-y.y c.loop-y.left c.loop-y-test.true
          c.if-left-eq0.false c.same_pair-same.ensures c.if-same.false
          c.get-next.ensures
          ∙ c.loop-y.invariant.0,
      search rules,
      search rules,
    )

pub returns : goal.returns
returns c =
    let a = c.args in
    unlike-null a.names.now a.cells.now a.x c.loop-y.y c.loop-y.left c.loop-y-test.false
    ∙ c.loop-y.invariant.0
