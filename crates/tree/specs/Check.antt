-- What the results of the check mean.
use Rattle.std.specs.Prelude.{Option, None, Some, Result, Ok, Err, ℕ, ◌+◌, eqb}
use Rattle.slots.specs.Words.{pick}
use Rattle.slots.specs.Answers.{Answer, some, refused}
use Rattle.slots.specs.Coded.{told_if_any}
use Rattle.tree_rules.specs.Check.{Walk, passed, failed, strayed}
use Rattle.tree.specs.declared.check.Fault.{Fault}
use Rattle.tree.specs.declared.check.Fault.TheVariants.{Fails, Lost}

-- The number of a failing test, which is not 0.
abbrev pub failing_of : ℕ → Option ℕ
failing_of t = pick (eqb t 0) None (Some t)

abbrev pub walk_of : Result ℕ Fault → Walk
walk_of (Ok v) = passed v
walk_of (Err (Fails t i)) = failed t i
walk_of (Err Lost) = strayed

-- The number of a failing test stands above 100.
abbrev pub fault_of : Fault → Answer
fault_of (Fails t i) = record { number = 100 + t; value = some i }
fault_of Lost = refused 9

-- The number and value of each answer.
abbrev pub checked_of : Option Fault → Answer
checked_of = told_if_any fault_of
