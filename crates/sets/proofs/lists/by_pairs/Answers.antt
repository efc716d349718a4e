use mathlib.Core.Path.{◌∙◌}
use borrow.Author.Rules.{rules}
use Rattle.sets.proofs.Steps.{list_null, list_spent, list_wrong, list_on}
use Rattle.sets.proofs.lists.by_pairs.Goals as goal

pub returns-then-left-eq0 : goal.returns-then-left-eq0
returns-then-left-eq0 c =
    let a = c.args in
    list_spent a.names.now a.cells.now a.length a.i c.loop-x.x c.loop-x.left c.loop-x-test.true
    c.if-left-eq0.true
    ∙ c.loop-x.invariant.0

pub returns-then-not-fine : goal.returns-then-not-fine
returns-then-not-fine c =
    let a = c.args in
    list_wrong
    a.names.now a.cells.now a.length a.i c.loop-x.x c.loop-x.left c.loop-x-test.true
    c.if-left-eq0.false c.list_slot_fine-fine.ensures
    c.if-not-fine.true
    ∙ c.loop-x.invariant.0

pub loop-x-preserved : goal.loop-x-preserved
loop-x-preserved c =
    let a = c.args in (
      list_on
          a.names.now a.cells.now a.length a.i c.loop-x.x c.loop-x.left
          c.loop-x-test.true c.if-left-eq0.false c.list_slot_fine-fine.ensures
          c.if-not-fine.false
          c.get-next.ensures
          ∙ c.loop-x.invariant.0,
      search rules,
      search rules,
    )

pub returns : goal.returns
returns c =
    let a = c.args in
    list_null a.names.now a.cells.now a.length a.i c.loop-x.x c.loop-x.left c.loop-x-test.false
    ∙ c.loop-x.invariant.0
