-- What the routines of this crate leave on any words.
use Rattle.std.specs.Prelude.{List, ℕ, length, eqb, leb}
use Rattle.slots.specs.Words.{null, pick, most_lines, most_names}
use Rattle.index_rules.specs.Live.{Live, count_of}
use Rattle.index_rules.specs.Index.{JournalLine, length_of, appended}
use Rattle.index_rules.specs.Insert.{grown}
use Rattle.index_rules.specs.Remove.{shrunk}

-- A line more, where the length is one of a journal's: at most 1,024.
abbrev pub appended_if : List ℕ → JournalLine → List ℕ
appended_if lines j = pick (leb (length_of lines) most_lines) (appended lines j) lines

-- A slot less, where the names are no more than 4,096 slots have.
abbrev pub shrunk_if : Live → ℕ → Live
shrunk_if t x = pick (leb (length t.names) most_names) (shrunk t x) t

-- A slot more, where the names are no more than 4,096 slots have and the count is a number.
abbrev pub grown_if : Live → ℕ → ℕ → ℕ → ℕ → ℕ → Live
grown_if t x y hash key p = pick (leb (length t.names) most_names) (pick (eqb (count_of t) null) t (grown t x y hash key p)) t
