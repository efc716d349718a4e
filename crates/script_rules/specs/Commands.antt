-- What a line of a script means.
use Rattle.std.specs.Prelude.{List, [], ◌∷◌, ℕ, length, drop, ltb}
use Rattle.slots.specs.Words.{pick}
use Rattle.script_rules.specs.Text.{Read, read, unread, read_number, read_next, starts_with, plus_word, minus_word, ask_word, roll_word}
use Rattle.script_rules.specs.Text.{mark_word, list_word}

-- "`+` takes hash, key, place; `-` and `?` hash, key; `r` a mark; `m` and `l` nothing." "A line of another form .. prints `bad`."
pub data Command : Type 0 where
  insert : ℕ → ℕ → ℕ → Command
  remove find : ℕ → ℕ → Command
  rollback : ℕ → Command
  mark list bad : Command

-- The largest number of a field: hash and key are 64 bits wide, a place and a mark 32.
abbrev pub most64 : ℕ
most64 = 18446744073709551615

abbrev pub most32 : ℕ
most32 = 4294967295

-- What comes of a number that was read; a line that lacks it is bad.
abbrev pub read_then : Read → (ℕ → List ℕ → Command) → Command
read_then (read v l) rest = rest v l
read_then unread rest = bad

-- A command, where nothing is left of the line.
abbrev pub alone : Command → List ℕ → Command
alone c [] = c
alone c (b ∷ l) = bad

unfoldable pub pair_command_of : (ℕ → ℕ → Command) → List ℕ → Command
pair_command_of c l = read_then (read_number most64 l) (λ h rest. read_then (read_next most64 rest) (λ k end. alone (c h k) end))

unfoldable pub insert_of : List ℕ → Command
insert_of l =
    read_then (read_number most64 l)
    (λ h rest. read_then (read_next most64 rest) (λ k more. read_then (read_next most32 more) (λ p end. alone (insert h k p) end)))

unfoldable pub mark_of : List ℕ → Command
mark_of l = read_then (read_number most32 l) (λ m end. alone (rollback m) end)

-- The command of a line, by the word that it starts with.
unfoldable pub meant : List ℕ → Command
meant l =
    pick (starts_with plus_word l) (insert_of (drop 2 l))
    (pick (starts_with minus_word l) (pair_command_of remove (drop 2 l))
    (pick (starts_with ask_word l) (pair_command_of find (drop 2 l))
    (pick (starts_with roll_word l) (mark_of (drop 2 l))
    (pick (starts_with mark_word l) (alone mark (drop 1 l)) (pick (starts_with list_word l) (alone list (drop 1 l)) bad)))))

-- "or over 80 bytes before its newline, prints `bad`"
unfoldable pub spoken : List ℕ → Command
spoken l = pick (ltb 80 (length l)) bad (meant l)
