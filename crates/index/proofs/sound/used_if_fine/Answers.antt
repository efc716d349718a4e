use mathlib.Core.Path.{refl, ap, ◌∙◌}
use mathlib.Core.List.{[]}
use Prim.Native.Nat.{◌-◌}
use native.Mathlib.Omega.{arith}
use Rattle.slots.specs.Answers.{some}
use Rattle.index_rules.specs.Live.{lent_tree}
use Rattle.index_rules.specs.Sound.{used}
use Rattle.index.specs.Sound.{state_fine, states_fine}
use Rattle.index.proofs.Slots.{fine_none, fine-not, fine_on, tally_on, tally_none, used_one}
use Rattle.index.proofs.sound.used_if_fine.Goals as goal

pub returns-then-not-state_fine : goal.returns-then-not-state_fine
unfolding states_fine
returns-then-not-state_fine c =
    let a = c.args in
    let t = lent_tree a.names.now a.cells.now [] a.sizes.now in
    rw (
      ← c.loop-k.invariant.0,
      ← fine-not (state_fine t) (λ k. states_fine k t) refl (λ k. refl) c.loop-k.k c.loop-k-test.true
          c.state_fine.ensures c.if-not-state_fine.true,
    )

pub loop-k-preserved : goal.loop-k-preserved
unfolding states_fine
loop-k-preserved c =
    let a = c.args in
    let t = lent_tree a.names.now a.cells.now [] a.sizes.now in
    let k = c.loop-k.k in
    let some_left = c.loop-k-test.true in
    let one = c.used_slot-count.ensures in
    let most = used_one a.cells.now (k - 1) in
    let step = tally_on (used a.cells.now) k some_left in (
      fine_on (state_fine t) (λ k. states_fine k t) refl (λ k. refl) k some_left c.state_fine.ensures
          c.if-not-state_fine.false
          ∙ c.loop-k.invariant.0,
      omega (arith, step, one),
      omega (arith, most, one),
    )

pub returns : goal.returns
unfolding states_fine
returns c =
    let a = c.args in
    let t = lent_tree a.names.now a.cells.now [] a.sizes.now in
    let k = c.loop-k.k in
    rw (
      ← c.loop-k.invariant.0,
      ← fine_none (state_fine t) (λ k. states_fine k t) refl (λ k. refl) k c.loop-k-test.false,
      ← c.loop-k.invariant.1,
    )
    (ap some (omega (arith, tally_none (used a.cells.now) k c.loop-k-test.false)))
