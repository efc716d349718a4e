-- The calls are known; what the full check answers goes up, or the calls are made where it has said yes.
use mathlib.Core.Path.{ap, sym, ◌∙◌}
use native.Mathlib.Omega.{arith}
use Rattle.slots.specs.Coded.{verdict}
use Rattle.slots.specs.declared.answer.Unsound.TheVariants.{Unfit}
use Rattle.index.proofs.Asking.{passed}
use Rattle.index.proofs.Singly.{ready}
use Rattle.batch.proofs.Making.{unfit, unknown, damaged, all_known, does, given-more, known_so_many}
use Rattle.batch.proofs.batch.batch.Goals as goal

pub returns-then-not-calls_fit : goal.returns-then-not-calls_fit
returns-then-not-calls_fit c = unknown _ _ _ (sym c.calls_fit.ensures ∙ c.if-not-calls_fit.true)

pub returns-in_err-sound_index : goal.returns-in_err-sound_index
returns-in_err-sound_index c = rw (passed Unfit _ c.from_residual.ensures.1) (unfit _ _ _ c.in_err-sound_index.ensures)

pub returns-then-not-branch : goal.returns-then-not-branch
returns-then-not-branch c =
    damaged _ _ _ (sym c.calls_fit.ensures ∙ c.if-not-calls_fit.false)
    (ap verdict (sym c.if-not-branch.true) ∙ c.in_ok-sound_index.ensures)

pub run-requires : goal.run-requires
run-requires c =
    let k = sym c.calls_fit.ensures ∙ c.if-not-calls_fit.false in
    record {
      ready = ready _ (ap verdict (sym c.if-not-branch.false) ∙ c.in_ok-sound_index.ensures);
      calls_value = known_so_many _ c.calls_in-m.ensures (all_known _ _ k);
    }

pub overflow_sub-result : goal.overflow_sub-result
overflow_sub-result c =
    omega (arith, c.length_of-after.ensures, c.length_of-before.ensures, c.run.ensures.lines_in_bounds)

pub overflow_cast-result : goal.overflow_cast-result
overflow_cast-result c =
    omega (arith, c.length_of-after.ensures, c.run.ensures.lines_bound)

pub returns : goal.returns
returns c =
    does _ _ _ (sym c.calls_fit.ensures ∙ c.if-not-calls_fit.false)
    (ap verdict (sym c.if-not-branch.false) ∙ c.in_ok-sound_index.ensures)
    (given-more _ _ _ c.length_of-after.ensures c.length_of-before.ensures c.calls_in-m.ensures c.run.ensures.answers_after)
