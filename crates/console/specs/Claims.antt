-- What crate `console` proves, in one record. Every statement of the crate stands here or in a record that is named here.
use Rattle.console.specs.Phrasing.{Phrasing}
use Rattle.console.specs.Feeding.{Feeding}

pub record Claims : Type 0 where
  pub phrasing : Phrasing
  pub feeding : Feeding
