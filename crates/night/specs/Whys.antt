-- What the code's answer stands for.
use Rattle.std.specs.Prelude.{Result, Ok, Err}
use Rattle.slots.specs.declared.answer.Unfit.{Unfit}
use Rattle.night.specs.Shown.{Telling, refuses, tells}
use Rattle.night.specs.Told.{account_of}
use Rattle.night.specs.declared.account.Account.{Account}

abbrev pub why_of : Result Account Unfit → Telling
why_of (Ok account) = tells (account_of account)
why_of (Err _) = refuses
