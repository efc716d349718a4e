-- Every claim of the crate holds.
use Rattle.index.specs.Claims.{Claims}
use Rattle.index.proofs.Reading.{reading}
use Rattle.index.proofs.Driving.{driving}
use Rattle.index.proofs.Calling.{calling}
use Rattle.index.proofs.Restoring.{undoing}

pub claims : Claims
claims = record { reading = reading; driving = driving; calling = calling; undoing = undoing }
