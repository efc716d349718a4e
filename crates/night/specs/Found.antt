-- What the code's finding stands for.
use Rattle.std.specs.Prelude.{Option, None, Some, Result, Ok, Err}
use Rattle.slots.specs.declared.answer.Unfit.{Unfit}
use Rattle.night_rules.specs.Finding.{Finding, sound, broken, unfit}
use Rattle.night.specs.Told.{account_of}
use Rattle.night.specs.Breaches.{breach_of}
use Rattle.night.specs.declared.account.Account.{Account}
use Rattle.night.specs.declared.breach.Breach.{Breach}

abbrev pub finding_of : Result (Option (Account × Breach)) Unfit → Finding
finding_of (Ok None) = sound
finding_of (Ok (Some found)) = broken (account_of found.0) (breach_of found.1)
finding_of (Err _) = unfit
