-- What crate `links` proves, in one record. Every statement of the crate stands here or in a record that is named here.
use Rattle.links.specs.Balancing.{Balancing}
use Rattle.links.specs.Linking.{Linking}

pub record Claims : Type 0 where
  pub balancing : Balancing
  pub linking : Linking
