-- Every claim of the crate holds.
use Rattle.links.specs.Claims.{Claims}
use Rattle.links.proofs.OneBalance.{balancing}
use Rattle.links.proofs.OneLink.{linking}

pub claims : Claims
claims = record { balancing = balancing; linking = linking }
