-- The tests in a row are the model's; what is asked of a slot does not read the header.
use mathlib.Core.Path.{sym, ap, ◌∙◌}
use mathlib.Core.List.{[]}
use Prim.Native.Nat.{◌/◌}
use lib.ListN.{length}
use Rattle.slots.proofs.Laws.{and-next}
use Rattle.slots.specs.Coded.{value_of}
use Rattle.tree_rules.specs.Check.{in_range}
use Rattle.index.specs.Sound.{rule1_unlinked}
use Rattle.index.proofs.Slots.{any_head, one_not, all_fine}
use Rattle.index.proofs.sound.rules_of_the_slots.Goals as goal

pub returns-in_default : goal.returns-in_default
unfolding rule1_unlinked
returns-in_default c =
    let a = c.args in
    rw (
      any_head a.names.now a.cells.now a.head.now [] a.sizes.now,
      one_not _ _ (ap value_of (sym c.in_default.is) ∙ c.used_if_fine.ensures),
    )

pub returns-then-in_range-2 : goal.returns-then-in_range-2
unfolding rule1_unlinked
returns-then-in_range-2 c =
    let a = c.args in
    let n = length a.names.now / 2 in
    let fine = all_fine _ _ (ap value_of (sym c.in-Some.is) ∙ c.used_if_fine.ensures) in
    rw (
      any_head a.names.now a.cells.now a.head.now [] a.sizes.now,
      fine.0,
      ← fine.1,
      ← c.word-count.ensures,
      ← c.word.ensures,
      ← c.in_range.ensures,
    )
    (and-next _ c.if-in_range.branch-raw
    (λ w. (w.if-in_range.true, w.value-is ∙ w.in_range-then-in_range.ensures ∙ ap (in_range n) w.word-then-in_range.ensures))
    (λ w. (w.if-in_range.false, w.value-is))
    (rw c.if-in_range-2.true))

pub returns-else-in_range-2 : goal.returns-else-in_range-2
unfolding rule1_unlinked
returns-else-in_range-2 c =
    let a = c.args in
    let n = length a.names.now / 2 in
    let fine = all_fine _ _ (ap value_of (sym c.in-Some.is) ∙ c.used_if_fine.ensures) in
    rw (
      any_head a.names.now a.cells.now a.head.now [] a.sizes.now,
      fine.0,
      ← fine.1,
      ← c.word-count.ensures,
      ← c.word.ensures,
      ← c.in_range.ensures,
    )
    (and-next _ c.if-in_range.branch-raw
    (λ w. (w.if-in_range.true, w.value-is ∙ w.in_range-then-in_range.ensures ∙ ap (in_range n) w.word-then-in_range.ensures))
    (λ w. (w.if-in_range.false, w.value-is))
    (rw c.if-in_range-2.false))
