-- Each test in turn.
use mathlib.Core.Path.{refl}
use borrow.Author.Tests.{leb-true}
use Rattle.upload_rules.proofs.Ranges.{no_test}
use Rattle.file.proofs.runs.slots_ready.Goals as goal

pub returns-then-r-ne3 : goal.returns-then-r-ne3
returns-then-r-ne3 c = λ e. absurd (no_test refl e)

pub returns-then-r-ne8 : goal.returns-then-r-ne8
returns-then-r-ne8 c = λ e. absurd (no_test refl e)

pub returns : goal.returns
returns c =
    λ e. record { section = c.if-r-ne3.false; between = c.if-r-ne8.false; whole = leb-true _ _ e }
