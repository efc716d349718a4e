-- What is found of a tree: that it is sound, or what is told of it with how the rule is broken, or that its slices do not fit.
use Rattle.std.specs.Prelude.{◌≡◌, ◌↔◌, eqb}
use Rattle.slots.specs.Words.{pick}
use Rattle.index_rules.specs.Live.{Live, Fit, fits}
use Rattle.index_rules.specs.Sound.{Sound}
use Rattle.night_rules.specs.Account.{Account}
use Rattle.night_rules.specs.Reason.{Reason}
use Rattle.night_rules.specs.Breach.{Breach, BreaksAt, breach}
use Rattle.night_rules.specs.Why.{why}

pub data Finding : Type 0 where
  sound : Finding
  broken : Account → Breach → Finding
  unfit : Finding

unfoldable pub examined : Live → Finding
examined t = pick (fits t) (pick (eqb (why t).rule 0) sound (broken (why t) (breach t (why t)))) unfit

-- Each finding exactly when, and true.
pub record Examined (t : Live) : Type 0 where
  pub unfit_when : (examined t ≡ unfit) ↔ (Fit t → ⊥)
  pub sound-when : (examined t ≡ sound) ↔ (Fit t × Sound t)
  pub broken_true : (w : Account) (b : Breach) → examined t ≡ broken w b → Fit t × Reason t w × BreaksAt t w b
  pub broken_when : Fit t → (w : Account) → Reason t w → examined t ≡ broken w (breach t w)
