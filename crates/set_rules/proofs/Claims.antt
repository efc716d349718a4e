-- Every claim of the crate holds.
use Rattle.set_rules.specs.Claims.{Claims}
use Rattle.set_rules.proofs.Judged.{judged}
use Rattle.set_rules.proofs.Walked.{walked}

pub claims : Claims
claims = record { judged = judged; walked = walked }
