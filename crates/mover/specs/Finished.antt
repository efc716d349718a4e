-- What is told of all bins moved, and of a set of which no bin can be moved.
use Rattle.std.specs.Prelude.{◌≡◌, ◌≢◌, Result, Ok, Err, ℕ, ◌+◌, ◌<◌}
use Rattle.set_rules.specs.Words.{Set, tables_of}
use Rattle.move_rules.specs.Moving.{move_outcome, moves}
use Rattle.move_rules.specs.Finishing.{Finish}
use Rattle.mover.specs.Moved.{move_refusal_of}
use Rattle.mover.specs.declared.moving.MoveRefusal.{MoveRefusal}
use Rattle.mover.specs.declared.moving.MoveRefusal.TheVariants.{CannotMove}
use Rattle.mover.specs.declared.finishing.Stop.{Stop}

-- What is told, with the set that is left: the number of the refusal is 0 where nothing stopped it.
abbrev pub finish_of : Result ℕ Stop → Set → Finish
finish_of (Ok gone) s = record { number = 0; table = 0; bin = 0; gone = gone; set = s }
finish_of (Err stop) s =
    record { number = (move_refusal_of stop.refusal).number; table = stop.table; bin = stop.bin; gone = stop.gone; set = s }

-- So many entries moved, and then what a move of bin i of table k came to.
abbrev pub came_to : ℕ → ℕ → ℕ → Result ℕ MoveRefusal → Result ℕ Stop
came_to gone k i (Ok entries) = Ok (gone + entries)
came_to gone k i (Err refusal) = Err record { refusal = refusal; table = k; bin = i; gone = gone }

-- Every move is refused alike, which stops it.
pub record AllRefused (s : Set) (r : MoveRefusal) : Type 0 where
  pub stops : r ≢ CannotMove
  pub each : (k i : ℕ) → k < tables_of s → move_outcome (move_refusal_of r) s ≡ moves s k i
