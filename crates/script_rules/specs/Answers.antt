-- What is printed for a command, and what it leaves of the tree and the journal.
use Rattle.std.specs.Prelude.{List, [], ◌∷◌, ◌++◌, ℕ, zero, suc, eqb, ltb}
use Rattle.slots.specs.Words.{null, pick, place, next, cell, name_of, hash_part, key_part}
use Rattle.slots.specs.Answers.{Answer, Value, none, some}
use Rattle.index_rules.specs.Live.{Live, unsized_of, fits, first_of}
use Rattle.index_rules.specs.Find.{finds}
use Rattle.index_rules.specs.Index.{Index, Outcome, fits_index, length_of}
use Rattle.index_rules.specs.Insert.{inserts}
use Rattle.index_rules.specs.Remove.{removes}
use Rattle.index_rules.specs.Rollback.{rolls}
use Rattle.script_rules.specs.Text.{newline, space, decimal, slot_text, gone_text, at_text, none_text, mark_text, back_text, entries_text}
use Rattle.script_rules.specs.Text.{no_text, bad_text}
use Rattle.script_rules.specs.Commands.{Command, insert, remove, find, rollback, mark, list, bad}
use Rattle.tree_rules.specs.Find.{Counted, counted, slots_of}

-- A word and a number.
abbrev pub numbered : List ℕ → ℕ → List ℕ
numbered word v = word ++ decimal v

-- A word and a number, and the line ends.
abbrev pub number_line : List ℕ → ℕ → List ℕ
number_line word v = word ++ (decimal v ++ (newline ∷ []))

abbrev pub value_line : List ℕ → Value → List ℕ
value_line word (some v) = number_line word v
value_line word none = none_text ++ (newline ∷ [])

-- "A refusal prints `no` and its number."
unfoldable pub told : List ℕ → Answer → List ℕ
told word a = pick (eqb a.number 0) (value_line word a.value) (number_line no_text a.number)

-- What a search came to, before its looks: the slot, that there is none, or a refusal.
abbrev pub found_value : Value → List ℕ
found_value (some v) = numbered at_text v
found_value none = none_text

unfoldable pub found_text : Answer → List ℕ
found_text a = pick (eqb a.number 0) (found_value a.value) (numbered no_text a.number)

-- "The script program's `?` prints the number last on its line": how many slots were looked at. A refusal before the search has none.
unfoldable pub search_line : Counted → List ℕ
search_line c = pick (eqb c.answer.number 1) (number_line no_text 1) (found_text c.answer ++ number_line (space ∷ []) c.looks)

-- One more, where there is a number.
abbrev pub more : Value → Value
more (some c) = some (suc c)
more none = none

-- How many slots are met from the link i by next, with v visits left; none where a link is neither null nor a slot, or the visits run out.
unfoldable pub met : ℕ → ℕ → List ℕ → ℕ → Value
met zero n cells i = pick (eqb i null) (some 0) none
met (suc v) n cells i = pick (eqb i null) (some 0) (pick (ltb i n) (more (met v n cells (cell cells i next))) none)

-- The line of slot i: "hash, key, place".
unfoldable pub entry_line : List ℕ → List ℕ → ℕ → List ℕ
entry_line names cells i =
    decimal (name_of names i hash_part)
    ++ (space ∷ (decimal (name_of names i key_part) ++ (space ∷ (decimal (cell cells i place) ++ (newline ∷ [])))))

-- The lines of c slots from the link i on.
unfoldable pub entry_lines : ℕ → List ℕ → List ℕ → ℕ → List ℕ
entry_lines zero names cells i = []
entry_lines (suc c) names cells i = entry_line names cells i ++ entry_lines c names cells (cell cells i next)

abbrev pub counting : Live → Value → List ℕ
counting t (some c) = number_line entries_text c ++ entry_lines c t.names t.cells (first_of t)
counting t none = number_line no_text 9

-- "`l` lists hash, key, place by the chain from first."
unfoldable pub list_text : Live → List ℕ
list_text t = pick (fits t) (counting t (met (slots_of t.names) (slots_of t.names) t.cells (first_of t))) (number_line no_text 1)

-- What is printed at the end of an upload: the refusal, or what the index then lists.
unfoldable pub receipt_text : ℕ → Live → List ℕ
receipt_text number t = pick (eqb number 0) (list_text t) (number_line no_text number)

-- "The mark is the length."
unfoldable pub marking : Index → List ℕ
marking ix = pick (fits_index ix) (number_line mark_text (length_of ix.lines)) (number_line no_text 1)

-- What a command comes to: what is printed, and what is left.
pub record Said : Type 0 where
  pub text : List ℕ
  pub left : Index

abbrev pub saying : List ℕ → Outcome → Said
saying word o = record { text = told word o.answer; left = o.left }

unfoldable pub carried_out : Index → Command → Said
carried_out ix (insert h k p) = saying slot_text (inserts ix h k p)
carried_out ix (remove h k) = saying gone_text (removes ix h k)
carried_out ix (find h k) = record { text = search_line (counted (finds (unsized_of ix.live) h k)); left = ix }
carried_out ix (rollback m) = saying back_text (rolls ix m)
carried_out ix mark = record { text = marking ix; left = ix }
carried_out ix list = record { text = list_text ix.live; left = ix }
carried_out ix bad = record { text = bad_text ++ (newline ∷ []); left = ix }
