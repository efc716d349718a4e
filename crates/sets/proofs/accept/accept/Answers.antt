-- The test of fitness decides between 1 and the whole check.
use mathlib.Core.Path.{◌≡◌, refl, sym, ◌∙◌}
use mathlib.Core.Bool.{Bool, true, false}
use borrow.Author.Tests.{not-true}
use Rattle.slots.specs.Words.{pick}
use Rattle.slots.specs.Answers.{given}
use Rattle.slots.specs.Coded.{verdict}
use Rattle.set_rules.specs.Accepting.{accepts}
use Rattle.sets.proofs.accept.accept.Goals as goal

pub returns-then-not-fit : goal.returns-then-not-fit
unfolding accepts
returns-then-not-fit c =
    rw (← c.fit_set-fit.ensures, not-true c.fit_set-fit.result c.if-not-fit.true-raw)

pub is_accepted-requires : goal.is_accepted-requires
is_accepted-requires c =
    sym c.fit_set-fit.ensures ∙ c.if-not-fit.false

told : (b : Bool) → verdict b ≡ pick b (given 1) (given 0)
told true = refl
told false = refl

pub returns : goal.returns
unfolding accepts
returns c =
    rw (← c.fit_set-fit.ensures, c.if-not-fit.false, ← c.is_accepted.ensures) (told c.is_accepted.result)
