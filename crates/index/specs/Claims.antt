-- What crate `index` proves, in one record. Every statement of the crate stands here or in a record that is named here.
use Rattle.index.specs.Reading.{Reading}
use Rattle.index.specs.Driving.{Driving}
use Rattle.index.specs.Calling.{Calling}
use Rattle.index.specs.Undoing.{Undoing}

pub record Claims : Type 0 where
  pub reading : Reading
  pub driving : Driving
  pub calling : Calling
  pub undoing : Undoing
