-- Every claim of `Walked` holds.
use Rattle.set_rules.specs.Walk.{turns_in}
use Rattle.set_rules.specs.Walked.{Walked}
use Rattle.set_rules.proofs.Gates.{lookups_claims, starts_claims}
use Rattle.set_rules.proofs.Looks.{lookup_looks}
use Rattle.set_rules.proofs.Looking.{fit_loop}
use Rattle.set_rules.proofs.RawTable.{looks_as_source}
use Rattle.set_rules.proofs.Nexting.{nexts_claims}
use Rattle.set_rules.proofs.Holding.{looks_up}
use Rattle.set_rules.proofs.Iterating.{as_source}
use Rattle.set_rules.proofs.Righting.{made_not_bad}
use Rattle.set_rules.proofs.Ending.{walks_claims}
use Rattle.set_rules.proofs.Mapping.{map_claims}
use Rattle.set_rules.proofs.Whole.{whole}

pub walked : Walked
walked =
    record {
      looking = lookups_claims;
      looks = lookup_looks;
      looking_fit = λ s fit t hash key l. fit_loop s t hash key fit l;
      looks_as_source = λ w lost s fit t hash key l. looks_as_source w lost s fit t hash key l;
      starting = starts_claims;
      stepping = nexts_claims;
      as_source = λ s fit c good. (turns_in s c.base, as_source s fit c good);
      made_never_bad = made_not_bad;
      looking_accepted = λ s fit acc t hash key l. looks_up s fit acc hash key t l;
      walking_accepted = walks_claims;
      mapping_accepted = map_claims;
      whole_walk = whole;
    }
