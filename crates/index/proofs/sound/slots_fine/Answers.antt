use mathlib.Core.Path.{refl, ◌∙◌}
use mathlib.Core.List.{[]}
use Rattle.index_rules.specs.Live.{lent_tree}
use Rattle.index_rules.specs.Sound.{slot_fine, slots_fine}
use Rattle.index.proofs.Slots.{fine_none, fine-not, fine_on}
use Rattle.index.proofs.sound.slots_fine.Goals as goal

pub returns-then-not-slot_fine : goal.returns-then-not-slot_fine
unfolding slots_fine
returns-then-not-slot_fine c =
    let a = c.args in
    let t = lent_tree a.names.now a.cells.now [] [] in
    fine-not (slot_fine a.n t) (λ k. slots_fine k a.n t) refl (λ k. refl) c.loop-k.k c.loop-k-test.true
    c.slot_fine.ensures c.if-not-slot_fine.true
    ∙ c.loop-k.invariant

pub loop-k-preserved : goal.loop-k-preserved
unfolding slots_fine
loop-k-preserved c =
    let a = c.args in
    let t = lent_tree a.names.now a.cells.now [] [] in
    fine_on (slot_fine a.n t) (λ k. slots_fine k a.n t) refl (λ k. refl) c.loop-k.k c.loop-k-test.true
    c.slot_fine.ensures c.if-not-slot_fine.false
    ∙ c.loop-k.invariant

pub returns : goal.returns
unfolding slots_fine
returns c =
    let a = c.args in
    let t = lent_tree a.names.now a.cells.now [] [] in
    fine_none (slot_fine a.n t) (λ k. slots_fine k a.n t) refl (λ k. refl) c.loop-k.k c.loop-k-test.false
    ∙ c.loop-k.invariant
