-- What a step of a piece's loop comes to.
use Rattle.std.specs.Prelude.{◌≡◌, List, ℕ, ◌≤◌, length, take}
use Rattle.figure_rules.specs.Stream.{Stream, bytes_figured}
use Rattle.figure_rules.specs.Pieces.{FitStream}

-- So many of the bytes that are left were taken.
pub record StreamStep (d : Stream) (rest : List ℕ) (used : ℕ) (e : Stream) : Type 0 where
  pub some : 1 ≤ used
  pub most : used ≤ length rest
  pub same : bytes_figured d (take used rest) ≡ e
  pub fit : FitStream e
