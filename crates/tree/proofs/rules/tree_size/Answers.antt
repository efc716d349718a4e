-- What a survey with a visit for each slot leaves is what the tree's slots did not take.
use Prim.Native.Nat.{◌/◌}
use lib.ListN.{length}
use Rattle.tree_rules.specs.Rules.{tree_size}
use Rattle.tree.proofs.Judging.{sized_within}
use Rattle.tree.proofs.rules.tree_size.Goals as goal

pub returns-in_err-rest : goal.returns-in_err-rest
unfolding tree_size
returns-in_err-rest c = rw (c.from_residual.ensures, ← c.in_err-rest.ensures)

pub overflow_sub-result : goal.overflow_sub-result
overflow_sub-result c =
    let a = c.args in
    sized_within a.names.now a.cells.now a.sizes.now a.root (length a.names.now / 2) c.in_ok-rest.ensures

pub returns : goal.returns
unfolding tree_size
returns c = rw (← c.in_ok-rest.ensures)
