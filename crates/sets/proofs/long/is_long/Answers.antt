use mathlib.Core.Path.{◌∙◌}
use borrow.Author.Rules.{rules}
use Rattle.sets.proofs.Steps.{long_null, long_end, long_on}
use Rattle.sets.proofs.long.is_long.Goals as goal

pub returns-then-left-eq0 : goal.returns-then-left-eq0
returns-then-left-eq0 c =
    let a = c.args in
    long_end a.cells.now c.loop-x.x c.loop-x.left c.loop-x-test.true c.if-left-eq0.true ∙ c.loop-x.invariant.0

pub loop-x-preserved : goal.loop-x-preserved
loop-x-preserved c =
    let a = c.args in (
      long_on a.cells.now c.loop-x.x c.loop-x.left c.loop-x-test.true c.if-left-eq0.false
          c.get-next.ensures
          ∙ c.loop-x.invariant.0,
      search rules,
      search rules,
    )

pub returns : goal.returns
returns c =
    let a = c.args in
    long_null a.cells.now c.loop-x.x c.loop-x.left c.loop-x-test.false ∙ c.loop-x.invariant.0
