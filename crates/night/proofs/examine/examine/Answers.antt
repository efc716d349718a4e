-- What was told decides what is found.
use mathlib.Core.Path.{◌∙◌}
use Rattle.night.proofs.Examined.{left_unfit, found_unfit, found_few, found-sound, found_broken}
use Rattle.night.proofs.examine.examine.Goals as goal

pub returns-in_err-account : goal.returns-in_err-account
returns-in_err-account c = left_unfit _ c.from_residual.ensures.0 ∙ found_unfit _ c.in_err-account.ensures

pub returns-then-account-eq0 : goal.returns-then-account-eq0
returns-then-account-eq0 c = found-sound _ c.in_ok-account.ensures c.if-account-eq0.true

pub broken_by-breach-requires : goal.broken_by-breach-requires
broken_by-breach-requires c = found_few _ c.in_ok-account.ensures

pub returns : goal.returns
returns c = found_broken _ c.in_ok-account.ensures c.if-account-eq0.false c.broken_by-breach.ensures
