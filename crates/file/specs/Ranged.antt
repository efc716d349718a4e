-- What the code's test of the four counts tells.
use Rattle.std.specs.Prelude.{◌≡◌, Bool, true, false, ℕ, ◌<◌}
use Rattle.file_rules.specs.Loader.{Loader, count_fits, fits_loader}

pub record CountsTold (r : Loader) (x : Bool) : Type 0 where
  pub counts : x ≡ true → (s : ℕ) → s < 4 → count_fits r s ≡ true
  pub none : x ≡ false → fits_loader r ≡ false
