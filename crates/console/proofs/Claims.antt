-- Every claim of the crate holds.
use Rattle.console.specs.Claims.{Claims}
use Rattle.console.proofs.Phrasing.{phrasing}
use Rattle.console.proofs.Feeding.{feeding}

pub claims : Claims
claims = record { phrasing = phrasing; feeding = feeding }
