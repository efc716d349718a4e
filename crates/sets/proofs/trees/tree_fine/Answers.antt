-- Each way out closes by the reads and the tests that led there.
use mathlib.Core.Path.{sym, ap, ◌∙◌}
use Rattle.tree.proofs.Judging.{obeyed_within}
use Rattle.tree.specs.Rules.{rest_of}
use borrow.Author.Tests.{not-false, not-true}
use Rattle.set_rules.specs.Accepting.{tree_fine}
use Rattle.sets.proofs.trees.tree_fine.Goals as goal

pub returns-in_err-rest : goal.returns-in_err-rest
unfolding tree_fine
returns-in_err-rest c =
    rw (c.from_residual.ensures, ← c.survey.ensures, c.in_err-rest.was)

pub overflow_sub-visits : goal.overflow_sub-visits
overflow_sub-visits c =
    let a = c.args in
    obeyed_within a.names.now a.cells.now a.root a.visits
    (ap rest_of (sym c.in_ok-rest.was) ∙ c.survey.ensures)

pub returns-then-not-good : goal.returns-then-not-good
unfolding tree_fine
returns-then-not-good c =
    rw (← c.survey.ensures, c.in_ok-rest.was, ← c.tree_good-good.ensures, not-true c.tree_good-good.result c.if-not-good.true-raw)

pub returns : goal.returns
unfolding tree_fine
returns c =
    rw (← c.survey.ensures, c.in_ok-rest.was, ← c.tree_good-good.ensures, not-false c.tree_good-good.result c.if-not-good.false-raw)
