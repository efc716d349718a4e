-- The six tests in a row are the model's.
use mathlib.Core.Path.{ap, ◌∙◌}
use mathlib.Core.Bool.{not}
use lib.Dec.{eqb}
use borrow.Author.Tests.{eq-eqb, ne_eqb}
use Rattle.slots.specs.Words.{null}
use Rattle.slots.proofs.Laws.{pick-not, and-next}
use Rattle.set_rules.specs.Accepting.{tree_good}
use Rattle.sets.proofs.trees.tree_good.Goals as goal

pub returns-then-chain_own : goal.returns-then-chain_own
unfolding tree_good
returns-then-chain_own c =
    let a = c.args in
    rw (← pick-not (eqb a.root null), ← pick-not (eqb a.first null))
    (and-next _ c.if-root-ne-NULL.branch-raw (λ w. (ap not (ne_eqb _ _ w.if-root-ne-NULL.true), w.t-15-is))
    (λ w. (ap not (eq-eqb _ _ w.if-root-ne-NULL.false), w.t-15-is))
    (and-next _ c.if-first-ne-NULL.branch-raw (λ w. (w.if-first-ne-NULL.true-raw, w.value-is))
    (λ w. (w.if-first-ne-NULL.false-raw, w.value-is))
    (and-next _ c.if-m-count.branch-raw (λ w. (w.if-m-count.true, w.value-is ∙ w.chain_fine.ensures))
    (λ w. (w.if-m-count.false, w.value-is))
    (and-next _ c.if-chain_fine.branch-raw (λ w. (w.if-chain_fine.true, w.value-is ∙ w.chain_own.ensures))
    (λ w. (w.if-chain_fine.false, w.value-is))
    (rw c.if-chain_own.true c.tree_home.ensures)))))

pub returns-else-chain_own : goal.returns-else-chain_own
unfolding tree_good
returns-else-chain_own c =
    let a = c.args in
    rw (← pick-not (eqb a.root null), ← pick-not (eqb a.first null))
    (and-next _ c.if-root-ne-NULL.branch-raw (λ w. (ap not (ne_eqb _ _ w.if-root-ne-NULL.true), w.t-15-is))
    (λ w. (ap not (eq-eqb _ _ w.if-root-ne-NULL.false), w.t-15-is))
    (and-next _ c.if-first-ne-NULL.branch-raw (λ w. (w.if-first-ne-NULL.true-raw, w.value-is))
    (λ w. (w.if-first-ne-NULL.false-raw, w.value-is))
    (and-next _ c.if-m-count.branch-raw (λ w. (w.if-m-count.true, w.value-is ∙ w.chain_fine.ensures))
    (λ w. (w.if-m-count.false, w.value-is))
    (and-next _ c.if-chain_fine.branch-raw (λ w. (w.if-chain_fine.true, w.value-is ∙ w.chain_own.ensures))
    (λ w. (w.if-chain_fine.false, w.value-is))
    (rw c.if-chain_own.false)))))
