use mathlib.Core.Path.{◌∙◌}
use borrow.Author.Rules.{rules}
use Rattle.sets.proofs.Steps.{own_null, own_spent, own_wrong, own_on}
use Rattle.sets.proofs.trees.chain_own.Goals as goal

pub returns-then-left-eq0 : goal.returns-then-left-eq0
returns-then-left-eq0 c =
    let a = c.args in
    own_spent a.names.now a.cells.now a.length a.i c.loop-x.x c.loop-x.left c.loop-x-test.true
    c.if-left-eq0.true
    ∙ c.loop-x.invariant.0

pub returns-then-not-own : goal.returns-then-not-own
returns-then-not-own c =
    let a = c.args in
    own_wrong a.names.now a.cells.now a.length a.i c.loop-x.x c.loop-x.left
    c.loop-x-test.true c.if-left-eq0.false c.is_own-own.ensures
    c.if-not-own.true
    ∙ c.loop-x.invariant.0

pub loop-x-preserved : goal.loop-x-preserved
loop-x-preserved c =
    let a = c.args in (
      own_on
          a.names.now a.cells.now a.length a.i c.loop-x.x c.loop-x.left
          c.loop-x-test.true c.if-left-eq0.false c.is_own-own.ensures
          c.if-not-own.false
          c.get-next.ensures
          ∙ c.loop-x.invariant.0,
      search rules,
      search rules,
    )

pub returns : goal.returns
returns c =
    let a = c.args in
    own_null a.names.now a.cells.now a.length a.i c.loop-x.x c.loop-x.left c.loop-x-test.false
    ∙ c.loop-x.invariant.0
