-- What was loaded is what is saved.
use mathlib.Core.Path.{refl}
use Rattle.dump.proofs.Writing.{same_bytes, same_text}
use Rattle.dump.proofs.rescue.save_loaded.Goals as goal

pub returns : goal.returns
returns c =
    let told = c.save_into.ensures in (
      same_bytes _ _ c.load.ensures refl refl _ told.0,
      same_text _ _ c.load.ensures refl refl told.1,
    )
