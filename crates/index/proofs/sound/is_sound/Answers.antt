-- The rules in a row are the model's, where a pass over the slots and a walk of the tree answer for several each, and T1's links are
-- followed by the walk and the chain.
use mathlib.Core.Path.{◌∙◌}
use native.Mathlib.Omega.{arith}
use Rattle.slots.proofs.Laws.{and-next}
use Rattle.index_rules.specs.Sound.{rule2}
use Rattle.index_rules.proofs.Fit.{fits_fit}
use Rattle.index.proofs.Walked.{in_four}
use Rattle.index.proofs.sound.is_sound.Goals as goal

pub rules_of_the_slots-requires : goal.rules_of_the_slots-requires
rules_of_the_slots-requires c = let fit = fits_fit _ c.requires in omega (arith, fit.most, fit.two)

pub returns-then-rules_of_the_tree : goal.returns-then-rules_of_the_tree
unfolding rule2
returns-then-rules_of_the_tree c =
    rw (in_four _ c.requires, ← c.rules_of_the_slots.ensures, ← c.rule7.ensures c.args.sizes.now)
    (and-next _ c.if-rules_of_the_slots.branch-raw (λ w. (w.if-rules_of_the_slots.true, w.value-is ∙ w.rule2.ensures))
    (λ w. (w.if-rules_of_the_slots.false, w.value-is))
    (and-next _ c.if-rule2.branch-raw (λ w. (w.if-rule2.true, w.value-is ∙ w.rules_of_the_tree.ensures))
    (λ w. (w.if-rule2.false, w.value-is)) (rw c.if-rules_of_the_tree.true)))

pub returns-else-rules_of_the_tree : goal.returns-else-rules_of_the_tree
unfolding rule2
returns-else-rules_of_the_tree c =
    rw (in_four _ c.requires, ← c.rules_of_the_slots.ensures)
    (and-next _ c.if-rules_of_the_slots.branch-raw (λ w. (w.if-rules_of_the_slots.true, w.value-is ∙ w.rule2.ensures))
    (λ w. (w.if-rules_of_the_slots.false, w.value-is))
    (and-next _ c.if-rule2.branch-raw (λ w. (w.if-rule2.true, w.value-is ∙ w.rules_of_the_tree.ensures))
    (λ w. (w.if-rule2.false, w.value-is)) (rw c.if-rules_of_the_tree.false)))
