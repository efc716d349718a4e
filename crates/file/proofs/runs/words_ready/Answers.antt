-- Each test in turn.
use mathlib.Core.Path.{refl}
use native.Mathlib.Omega.{arith}
use borrow.Author.Tests.{leb-true}
use Rattle.upload_rules.proofs.Ranges.{no_test}
use Rattle.file.proofs.runs.words_ready.Goals as goal

pub returns-then-r-gt2 : goal.returns-then-r-gt2
returns-then-r-gt2 c = λ e. absurd (no_test refl e)

pub returns-then-r-ne0 : goal.returns-then-r-ne0
returns-then-r-ne0 c = λ e. absurd (no_test refl e)

pub returns-then-r-lt8 : goal.returns-then-r-lt8
returns-then-r-lt8 c = λ e. absurd (no_test refl e)

pub returns : goal.returns
returns c =
    λ e. record {
      section = omega (arith, c.if-r-gt2.false);
      between = c.if-r-ne0.false;
      counted = c.if-r-lt8.false;
      whole = leb-true _ _ e;
    }
