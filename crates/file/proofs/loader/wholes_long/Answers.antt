use mathlib.Core.Path.{◌≡◌}
use native.Mathlib.Omega.{arith}
use Rattle.file.specs.Meanings.{loader_words}
use Rattle.file.proofs.Ranging.{wholes_none, wholes_on}
use Rattle.file.proofs.loader.wholes_long.Goals as goal

pub loop-s-init : goal.loop-s-init
loop-s-init c = (wholes_none (loader_words c.args.r) c.requires, omega arith)

pub overflow_add-bytes : goal.overflow_add-bytes
overflow_add-bytes c =
    let most = c.requires.sections in
    omega (arith, c.loop-s.invariant.1, c.loop-s-test.true, c.whole_long-bytes.ensures.1)

pub loop-s-preserved : goal.loop-s-preserved
loop-s-preserved c = (
  wholes_on (loader_words c.args.r) c.requires _ c.loop-s.invariant.0 c.whole_long-bytes.ensures.0,
  omega (arith, c.loop-s.invariant.1, c.whole_long-bytes.ensures.1),
)

pub returns : goal.returns
returns c =
    let e : c.loop-s.s ≡ c.args.r.section = omega arith in
    (rw e at c.loop-s.invariant.0, omega (arith, c.loop-s.invariant.1, c.requires.sections))
