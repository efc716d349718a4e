use mathlib.Core.Path.{◌≡◌, refl, ◌∙◌}
use mathlib.Core.Bool.{Bool, true, false}
use mathlib.Core.List.{List}
use Prim.Native.Nat.{ℕ, zero, suc, ◌-◌, ◌<◌, ◌≤◌}
use native.Mathlib.Numerals.{sub-one}
use native.Mathlib.Omega.{arith}
use Rattle.index_rules.specs.Batch.{call_fits, all_fit}
use Rattle.batch.proofs.calls.all_fit.Goals as goal

module _ (calls : List ℕ) where
  fit_on : (k : ℕ) {b : Bool} → 0 < k → b ≡ call_fits calls (k - 1) → b ≡ true → all_fit (k - 1) calls ≡ all_fit k calls
  unfolding all_fit
  fit_on zero h e f = absurd (omega arith)
  fit_on (suc k) h e f = let g = rw sub-one at e in rw (sub-one, ← g, f)

  fit_not : (k : ℕ) {b : Bool} → 0 < k → b ≡ call_fits calls (k - 1) → b ≡ false → false ≡ all_fit k calls
  unfolding all_fit
  fit_not zero h e f = absurd (omega arith)
  fit_not (suc k) h e f = let g = rw sub-one at e in rw (← g, f)

  fit_end : (k : ℕ) → k ≤ 0 → true ≡ all_fit k calls
  unfolding all_fit
  fit_end zero h = refl
  fit_end (suc k) h = absurd (omega arith)

pub loop-k-init : goal.loop-k-init
loop-k-init c = refl

pub returns-then-not-call_fits : goal.returns-then-not-call_fits
returns-then-not-call_fits c =
    let a = c.args in
    fit_not a.calls.now c.loop-k.k c.loop-k-test.true c.call_fits.ensures
    c.if-not-call_fits.true
    ∙ c.loop-k.invariant

pub loop-k-preserved : goal.loop-k-preserved
loop-k-preserved c =
    let a = c.args in
    fit_on a.calls.now c.loop-k.k c.loop-k-test.true c.call_fits.ensures c.if-not-call_fits.false
    ∙ c.loop-k.invariant

pub returns : goal.returns
returns c =
    let a = c.args in
    fit_end a.calls.now c.loop-k.k c.loop-k-test.false ∙ c.loop-k.invariant
