-- What crate `set_rules` proves, in one record. Every statement of the crate stands here or in a record that is named here.
use Rattle.set_rules.specs.Judged.{Judged}
use Rattle.set_rules.specs.Walked.{Walked}

pub record Claims : Type 0 where
  pub judged : Judged
  pub walked : Walked
