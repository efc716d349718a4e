-- Every claim of the crate holds.
use mathlib.Core.Path.{sym, ◌∙◌}
use Rattle.slots.proofs.Claims.{answer_one_to_one}
use Rattle.sets.specs.Claims.{Claims}
use Rattle.sets.proofs.Binning.{binning}
use Rattle.sets.proofs.Judging.{judging}
use Rattle.sets.proofs.OneLookup.{looking}
use Rattle.sets.proofs.Stepping.{stepping}

pub claims : Claims
claims =
    record {
      binning = binning;
      judging = judging;
      looking = looking;
      stepping = stepping;
      answer_one = λ _ a b p q. answer_one_to_one a b (p ∙ sym q);
    }
