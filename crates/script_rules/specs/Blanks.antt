-- A sentence with blanks: `#` stands for a number, `@` for a link, `%` for the name of a slot's field.
use Rattle.std.specs.Prelude.{Bool, true, List, [], ◌∷◌, ◌++◌, ℕ, get_or, drop, eqb}
use Prim.Native.String.{String}
use Rattle.slots.specs.Words.{null, pick, place, state, parent, left, right, prev}
use Rattle.script_rules.specs.Text.{decimal}
use Rattle.script_rules.specs.Letters.{letters}

-- A link: the slot, or that there is none.
unfoldable pub link_text : ℕ → List ℕ
link_text i = pick (eqb i null) (letters "null") (decimal i)

-- "place, state, parent, left, right, prev, next (fields 0 to 6)".
unfoldable pub field_text : ℕ → List ℕ
field_text f =
    pick (eqb f place) (letters "place")
    (pick (eqb f state) (letters "state")
    (pick (eqb f parent) (letters "parent")
    (pick (eqb f left) (letters "left")
    (pick (eqb f right) (letters "right")
    (pick (eqb f prev) (letters "prev") (letters "next"))))))

-- A byte of the sentence: the number in its stead where it is a blank, else itself.
unfoldable pub piece : ℕ → ℕ → List ℕ
piece b v = pick (eqb b 35) (decimal v) (pick (eqb b 64) (link_text v) (pick (eqb b 37) (field_text v) (b ∷ [])))

unfoldable pub is_blank : ℕ → Bool
is_blank b = pick (eqb b 35) true (pick (eqb b 64) true (eqb b 37))

-- The numbers that are left after a byte of the sentence: a blank takes one.
abbrev pub left_after : ℕ → List ℕ → List ℕ
left_after b numbers = pick (is_blank b) (drop 1 numbers) numbers

-- The sentence with a number for each blank, in their order; 0 where there is none left.
unfoldable pub blanks_filled : List ℕ → List ℕ → List ℕ
blanks_filled [] numbers = []
blanks_filled (b ∷ sentence) numbers = piece b (get_or numbers 0 0) ++ blanks_filled sentence (left_after b numbers)

-- A sentence with its numbers.
abbrev pub says : String → List ℕ → List ℕ
says sentence numbers = blanks_filled (letters sentence) numbers
