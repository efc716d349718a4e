-- What is printed of a loaded file: a line of counts and a line for each entry as the walk gives it, or that the file was refused.
use Rattle.std.specs.Prelude.{List, [], ◌∷◌, ◌++◌, ℕ, zero, suc, length, eqb}
use Rattle.slots.specs.Words.{pick, place, cell, name_of, hash_part, key_part}
use Rattle.slots.specs.Answers.{Value, none, some}
use Rattle.tree_rules.specs.Find.{slots_of}
use Rattle.tree_rules.specs.Chain.{tally}
use Rattle.index_rules.specs.Sound.{used}
use Rattle.script_rules.specs.Letters.{letters}
use Rattle.script_rules.specs.Blanks.{blanks_filled}
use Rattle.set_rules.specs.Words.{Set, tables_of, length_at, headers_in, fits, bin_word, bini}
use Rattle.set_rules.specs.Cursor.{Cursor, starts}
use Rattle.set_rules.specs.Walk.{nexts}
use Rattle.file_rules.specs.Loading.{LoadOutcome, cut_out}

-- The table whose bin for a hash is the first that is not Moved, from table k on, where so many tables come behind it.
unfoldable pub home_table : ℕ → Set → ℕ → ℕ → ℕ
home_table zero s k hash = k
home_table (suc behind) s k hash = pick (eqb (bin_word s k (bini (length_at s k) hash)) 1) (home_table behind s (suc k) hash) k

-- The line of slot x: the table and the bin that its hash leads to, the slot, its hash, its key and its place. A set has 8 tables at most.
unfoldable pub slot_line : Set → ℕ → List ℕ
slot_line s x =
    let hash = name_of s.names x hash_part in
    let k = home_table 7 s 0 hash in
    blanks_filled (letters "# # # # # #\n")
    (k ∷ (bini (length_at s k) hash ∷ (x ∷ (hash ∷ (name_of s.names x key_part ∷ (cell s.cells x place ∷ []))))))

-- The line of a slot that is given, and the lines behind it.
abbrev pub line_and : Set → Value → List ℕ → List ℕ
line_and s none rest = []
line_and s (some x) rest = slot_line s x ++ rest

-- The lines of the slots that so many steps from a cursor give, up to the first that gives none.
unfoldable pub walk_lines : ℕ → Set → Cursor → List ℕ
walk_lines zero s c = []
walk_lines (suc steps) s c = line_and s (nexts s c).answer.value (walk_lines steps s (nexts s c).cursor)

-- The line of counts. The entries of an accepted set are its slots that are not free.
unfoldable pub counts_line : Set → List ℕ
counts_line s =
    blanks_filled (letters "tables # bins # headers # slots # entries #\n")
    (tables_of s ∷ (length s.bins ∷ (headers_in s ∷ (slots_of s.names ∷ (tally (slots_of s.names) (used s.cells) ∷ [])))))

-- `no` and the number of a refusal.
abbrev pub no_line : ℕ → List ℕ
no_line n = blanks_filled (letters "no #\n") (n ∷ [])

-- A set: the counts, and a whole walk from table 0. Words that do not fit are 1.
unfoldable pub set_text : Set → List ℕ
set_text s = pick (fits s) (counts_line s ++ walk_lines (slots_of s.names) s (starts s 0).cursor) (no_line 1)

-- What the end call answers: of a set that is accepted the set, of a refusal its number.
unfoldable pub load_text : LoadOutcome → List ℕ
load_text o =
    pick (eqb o.answer.number 0) (set_text (cut_out o.left.loader o.left.set)) (no_line o.answer.number)
