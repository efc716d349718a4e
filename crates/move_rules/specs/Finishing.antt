-- All bins moved: what `finish` does to a set. "It goes through the tables from 0 up and the bins from 0 up, 16 is passed over".
use Rattle.std.specs.Prelude.{ℕ, zero, suc, ◌+◌, ◌-◌, eqb}
use Rattle.slots.specs.Words.{pick}
use Rattle.slots.specs.Answers.{value_beside}
use Rattle.set_rules.specs.Words.{Set, tables_of, length_at}
use Rattle.move_rules.specs.Moving.{MoveOutcome, moves}

-- How far it has come: the number of the refusal that stopped it, 0 while none has, with the table and the bin of that move; the entries
-- moved; the set.
pub record Finish : Type 0 where
  pub number : ℕ
  pub table : ℕ
  pub bin : ℕ
  pub gone : ℕ
  pub set : Set

abbrev pub finish_begun : Set → Finish
finish_begun s = record { number = 0; table = 0; bin = 0; gone = 0; set = s }

-- A move went well.
abbrev pub moved_on : Finish → MoveOutcome → Finish
moved_on f o =
    record {
      number = 0;
      table = f.table;
      bin = f.bin;
      gone = f.gone + value_beside 0 o.answer.number o.answer.value;
      set = o.set;
    }

-- A move of bin i of table k was refused.
abbrev pub stopped_at : Finish → ℕ → ℕ → MoveOutcome → Finish
stopped_at f k i o = record { number = o.answer.number; table = k; bin = i; gone = f.gone; set = f.set }

-- After the outcome of a move of bin i of table k.
unfoldable pub move_told : Finish → ℕ → ℕ → MoveOutcome → Finish
move_told f k i o = pick (eqb o.answer.number 0) (moved_on f o) (pick (eqb o.answer.number 16) f (stopped_at f k i o))

-- After bin i of table k: once it is stopped nothing more is moved.
unfoldable pub bin_finished : Finish → ℕ → ℕ → Finish
bin_finished f k i = pick (eqb f.number 0) (move_told f k i (moves f.set k i)) f

-- After so many bins of table k, bin 0 first.
unfoldable pub bins_finished : ℕ → Finish → ℕ → Finish
bins_finished zero f k = f
bins_finished (suc i) f k = bin_finished (bins_finished i f k) k i

-- After so many tables, table 0 first.
unfoldable pub tables_finished : ℕ → Finish → Finish
tables_finished zero f = f
tables_finished (suc k) f = bins_finished (length_at f.set k) (tables_finished k f) k

-- Every bin of every table but the last.
unfoldable pub finishing : Set → Finish
finishing s = tables_finished (tables_of s - 1) (finish_begun s)
