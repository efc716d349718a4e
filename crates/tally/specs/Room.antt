-- Words that have room for so much more.
use Rattle.std.specs.Prelude.{List, ℕ, ◌+◌, ◌<◌}
use Rattle.figure_rules.specs.Totals.{total_at}

abbrev pub RoomIn : List ℕ → ℕ → Type 0
RoomIn t m = (j : ℕ) → total_at t j + m < 18446744073709551616
