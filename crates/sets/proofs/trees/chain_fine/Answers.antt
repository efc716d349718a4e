-- Each way out closes by the reads and the tests that led there.
use mathlib.Core.Path.{sym, ap, ◌∙◌}
use Rattle.slots.specs.Words.{null}
use Rattle.tree_rules.proofs.Visits.{chained_within}
use Rattle.tree.specs.Rules.{rest_of}
use Rattle.sets.proofs.trees.chain_fine.Goals as goal

pub returns-in_default : goal.returns-in_default
returns-in_default c =
    rw (← c.chain-walk.ensures, c.in_default.is)

pub overflow_sub-result : goal.overflow_sub-result
overflow_sub-result c =
    let a = c.args in
    chained_within a.n a.cells.now a.n null a.first c.in-Some.rest
    (sym c.chain-walk.ensures ∙ ap rest_of c.in-Some.is)

pub returns : goal.returns
returns c =
    rw (← c.chain-walk.ensures, c.in-Some.is)
