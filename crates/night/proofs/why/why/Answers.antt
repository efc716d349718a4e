-- The test of fitness decides; it bounds the capacity, as the rest requires.
use mathlib.Core.Path.{sym, ◌∙◌}
use borrow.Author.Tests.{not-false, not-true}
use Rattle.index_rules.specs.Live.{lent_tree}
use Rattle.night.proofs.Sought.{told_fit, told_unfit, few_names}
use Rattle.night.proofs.why.why.Goals as goal

pub returns-then-not-fit : goal.returns-then-not-fit
returns-then-not-fit c =
    told_unfit _ (sym c.fit.ensures ∙ not-true c.fit.result c.if-not-fit.true-raw)

pub explain-requires : goal.explain-requires
explain-requires c =
    let a = c.args in
    few_names (lent_tree a.names.now a.cells.now a.head.now a.sizes.now)
    (sym c.fit.ensures ∙ not-false c.fit.result c.if-not-fit.false-raw)

pub returns : goal.returns
returns c =
    let a = c.args in
    told_fit (lent_tree a.names.now a.cells.now a.head.now a.sizes.now)
    (sym c.fit.ensures ∙ not-false c.fit.result c.if-not-fit.false-raw)
    c.explain.ensures
