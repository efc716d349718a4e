-- Slices of a set that fits, by their lengths, and a slice of bytes that has room for its file.
use Rattle.std.specs.Prelude.{ℕ, ◌+◌, ◌*◌, ◌/◌, ◌≤◌}

pub record FileRoom (lengths bins heads names out : ℕ) : Type 0 where
  pub tables : lengths ≤ 8
  pub words : bins ≤ 8160
  pub headers : heads ≤ 12288
  pub slots : names ≤ 8192
  pub room : (4 + 4 * lengths) + (4 + 4 * bins) + (4 + 4 * heads) + (4 + 41 * (names / 2)) ≤ out
