-- The lines of entries with the bins that hold them. Nothing here knows how they are found.
use Rattle.std.specs.Prelude.{List, [], ◌∷◌, ◌++◌, ℕ, length}
use Rattle.slots.specs.Words.{place, cell, name_of, hash_part, key_part}
use Rattle.tree_rules.specs.Find.{slots_of}
use Rattle.script_rules.specs.Text.{decimal}
use Rattle.script_rules.specs.Letters.{letters}
use Rattle.set_rules.specs.Words.{Set, tables_of, headers_in}
use Rattle.set_rules.specs.Accepted.{EntryOf}

-- "table bin slot hash key place"
abbrev pub placed_line : Set → ℕ → ℕ → ℕ → List ℕ
placed_line s k i x =
    decimal k ++ (letters " " ++ (decimal i ++ (letters " " ++ (decimal x
    ++ (letters " " ++ (decimal (name_of s.names x hash_part) ++ (letters " " ++ (decimal (name_of s.names x key_part)
    ++ (letters " " ++ (decimal (cell s.cells x place) ++ letters "\n"))))))))))

-- The lines of these slots in their order, each an entry of the bin that its line names.
pub data PlacedLines (s : Set) : List ℕ → List ℕ → Type 0 where
  over : PlacedLines s [] []
  line : {k i x : ℕ} {l text : List ℕ} → EntryOf s k i x → PlacedLines s l text → PlacedLines s (x ∷ l) (placed_line s k i x ++ text)

-- "tables T bins B headers H slots S entries N"
abbrev pub counted_line : Set → ℕ → List ℕ
counted_line s n =
    letters "tables " ++ (decimal (tables_of s) ++ (letters " bins " ++ (decimal (length s.bins)
    ++ (letters " headers " ++ (decimal (headers_in s) ++ (letters " slots " ++ (decimal (slots_of s.names)
    ++ (letters " entries " ++ (decimal n ++ letters "\n")))))))))
