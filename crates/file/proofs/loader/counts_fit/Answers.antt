use mathlib.Core.Path.{◌≡◌, sym, ◌∙◌}
use mathlib.Core.Bool.{true}
use Prim.Native.Nat.{ℕ}
use native.Mathlib.Omega.{arith}
use borrow.Author.Tests.{not-false}
use Rattle.file_rules.specs.Loader.{count_fits}
use Rattle.file.specs.Meanings.{loader_words}
use Rattle.file.proofs.Ranging.{one_more_lem, told-not, told_all}
use Rattle.file.proofs.loader.counts_fit.Goals as goal

pub loop-s-init : goal.loop-s-init
loop-s-init c = λ k l. absurd (omega arith)

pub returns-then-not-fits : goal.returns-then-not-fits
returns-then-not-fits c =
    told-not (loader_words c.args.r) _ c.loop-s-test.true c.count_fits-fits.ensures
    c.if-not-fits.true

pub loop-s-preserved : goal.loop-s-preserved
loop-s-preserved c =
    one_more_lem (λ (k : ℕ). count_fits (loader_words c.args.r) k ≡ true) _ c.loop-s.invariant
    (sym c.count_fits-fits.ensures ∙ not-false c.count_fits-fits.result c.if-not-fits.false-raw)

pub returns : goal.returns
returns c =
    told_all (loader_words c.args.r) _ c.loop-s-test.false c.loop-s.invariant
