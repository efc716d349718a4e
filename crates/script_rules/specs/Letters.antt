-- The table of the rules in its own letters: the text of a line, and what is printed for it.
use Rattle.std.specs.Prelude.{◌≡◌, List, [], ◌∷◌, ◌++◌, ℕ, ◌<◌, ◌^◌, length}
use Prim.Native.Char.{code}
use Prim.Native.String.{String, [] as empty, ◌∷◌ as ◌then◌}
use Rattle.slots.specs.Words.{null, next, cell}
use Rattle.index_rules.specs.Contents.{Entry}
use Rattle.script_rules.specs.Text.{decimal}
use Rattle.script_rules.specs.Commands.{Command, insert, remove, find, rollback, mark, list, bad}

-- The bytes of a text.
abbrev pub letters : String → List ℕ
letters empty = []
letters (c then s) = code c ∷ letters s

-- The one text of a command: its word, and its numbers after single spaces.
abbrev pub text_of : Command → List ℕ
text_of (insert h k p) = letters "+ " ++ (decimal h ++ (letters " " ++ (decimal k ++ (letters " " ++ decimal p))))
text_of (remove h k) = letters "- " ++ (decimal h ++ (letters " " ++ decimal k))
text_of (find h k) = letters "? " ++ (decimal h ++ (letters " " ++ decimal k))
text_of (rollback m) = letters "r " ++ decimal m
text_of mark = letters "m"
text_of list = letters "l"
text_of bad = []

-- A command's numbers fit their fields; `bad` is no command.
abbrev pub InFields : Command → Type 0
InFields (insert h k p) = (h < 2 ^ 64) × (k < 2 ^ 64) × (p < 2 ^ 32)
InFields (remove h k) = (h < 2 ^ 64) × (k < 2 ^ 64)
InFields (find h k) = (h < 2 ^ 64) × (k < 2 ^ 64)
InFields (rollback m) = m < 2 ^ 32
InFields mark = Unit {0}
InFields list = Unit {0}
InFields bad = ⊥

-- A word, a number and the end of the line.
abbrev pub word_line : String → ℕ → List ℕ
word_line word v = letters word ++ (decimal v ++ letters "\n")

-- "hash, key, place" of an entry.
abbrev pub entry_text : Entry → List ℕ
entry_text e = decimal e.hash ++ (letters " " ++ (decimal e.key ++ (letters " " ++ (decimal e.at ++ letters "\n"))))

unfoldable pub entry_texts : List Entry → List ℕ
entry_texts [] = []
entry_texts (e ∷ l) = entry_text e ++ entry_texts l

-- "`entries` and their number, then a line for each".
abbrev pub listing_text : List Entry → List ℕ
listing_text l = word_line "entries " (length l) ++ entry_texts l

-- From the link i, next visits these slots of n, and ends.
pub data NextVisits (n : ℕ) (cells : List ℕ) : ℕ → List ℕ → Type 0 where
  over : {i : ℕ} → i ≡ null → NextVisits n cells i []
  visit : {i : ℕ} {l : List ℕ} → i < n → NextVisits n cells (cell cells i next) l → NextVisits n cells i (i ∷ l)
