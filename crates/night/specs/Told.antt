-- What the code's structs stand for.
use Rattle.std.specs.Prelude.{ℕ}
use Rattle.slots.specs.Answers.{Answer, given}
use Rattle.index_rules.specs.Checked.{lesser}
use Rattle.night_rules.specs.Account.{WayDown, Account}
use Rattle.night.specs.declared.account.WayDown.{WayDown as WayCode}
use Rattle.night.specs.declared.account.Account.{Account as AccountCode}

abbrev pub way_of : WayCode → WayDown
way_of w = record { last = w.last; side = w.side; blacks = w.blacks }

-- Its number.
abbrev pub account_told : AccountCode → Answer
account_told a = given a.rule

abbrev pub account_of : AccountCode → Account
account_of a = record { rule = a.rule; slot = a.slot; other = a.other; one = way_of a.one; two = way_of a.two }

-- A number, held at 2^32, which is above any size that is stored.
unfoldable pub held_number : ℕ → ℕ
held_number x = lesser x 4294967296
