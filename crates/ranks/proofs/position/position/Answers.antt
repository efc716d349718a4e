-- The full check's answer settles the tests; then the way down decides.
use Rattle.std.proofs.Common.{◌≡◌, ℕ, refl, sym, ap, ◌∙◌, arith}
use Rattle.std.specs.Prelude.{Option, None, Some}
use Rattle.std.specs.Option.{ok_or}
use Rattle.slots.specs.Coded.{value_of, verdict}
use Rattle.index_rules.specs.Ranks.{ranked}
use Rattle.index.proofs.Asking.{passed}
use Rattle.ranks.specs.declared.position.PositionRefusal.TheVariants.{Unfit, Absent}
use Rattle.ranks.proofs.Calls.{few, position_unfit, position_damaged, position_done}
use Rattle.ranks.specs.Calls.{position_of}
use Rattle.ranks.proofs.position.position.Goals as goal

-- A position, or that the pair is absent.
ranked_so : (r : Option ℕ) → position_of (ok_or r Absent) ≡ ranked (value_of r)
ranked_so None = refl
ranked_so (Some k) = refl

pub returns-in_err-sound : goal.returns-in_err-sound
returns-in_err-sound c = rw (passed Unfit _ c.from_residual.ensures.1) (position_unfit _ _ _ c.in_err-sound.ensures)

pub returns-then-not-branch : goal.returns-then-not-branch
returns-then-not-branch c = position_damaged _ _ _ (ap verdict (sym c.if-not-branch.true) ∙ c.in_ok-sound.ensures)

pub overflow_cast-n : goal.overflow_cast-n
overflow_cast-n c =
    omega (arith, few _ (ap verdict (sym c.if-not-branch.false) ∙ c.in_ok-sound.ensures))

pub returns : goal.returns
returns c =
    rw c.ok_or.ensures.value
    (ranked_so c.pair_rank.result
    ∙ position_done _ _ _ (ap verdict (sym c.if-not-branch.false) ∙ c.in_ok-sound.ensures) c.word-root.ensures c.pair_rank.ensures)
