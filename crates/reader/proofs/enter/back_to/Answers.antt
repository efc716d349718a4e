-- Where the check has said yes the rollback without it is the rollback.
use Rattle.reader.proofs.Trusting.{rolls_on}
use Rattle.reader.proofs.enter.back_to.Goals as goal

pub returns-in-Some : goal.returns-in-Some
returns-in-Some c = rolls_on _ c.args.mark c.in-Some.is c.requires c.rollback_sound.ensures
