-- What the values mean that come of reading a line.
use Rattle.std.specs.Prelude.{List, Option, None, Some, ℕ, drop}
use Rattle.script_rules.specs.Text.{Read, read, unread}
use Rattle.script_rules.specs.Commands.{Command as Meant, insert, remove, find, rollback, mark, list, bad}
use Rattle.console.specs.declared.read.Command.{Command}
use Rattle.console.specs.declared.read.Command.TheVariants.{Insert, Remove, Find, Rollback, Mark, List as ListAll, Bad}

-- A number, and the bytes of the line after it.
abbrev pub read_of : List ℕ → Option (ℕ × ℕ) → Read
read_of line (Some (v, at)) = read v (drop at line)
read_of line None = unread

-- The command that a hash and a key are for.
abbrev pub pair_command : (ℕ → ℕ → Meant) → Option (ℕ × ℕ) → Meant
pair_command c (Some (h, k)) = c h k
pair_command c None = bad

abbrev pub command_of : Command → Meant
command_of (Insert h k p) = insert h k p
command_of (Remove h k) = remove h k
command_of (Find h k) = find h k
command_of (Rollback m) = rollback m
command_of Mark = mark
command_of ListAll = list
command_of Bad = bad

-- The command of a line that asks for one; another is bad.
abbrev pub command_or_bad : Option Command → Meant
command_or_bad (Some c) = command_of c
command_or_bad None = bad
