-- The bytes of a script: numbers, and the fixed words that are read and printed.
use Rattle.std.specs.Prelude.{Bool, true, false, List, [], ◌∷◌, ◌++◌, ℕ, zero, suc, ◌+◌, ◌-◌, ◌*◌, ◌/◌, ◌%◌, ◌≤◌, eqb, leb, ltb}
use Rattle.slots.specs.Words.{pick, ◌and◌}

abbrev pub newline : ℕ
newline = 10

abbrev pub space : ℕ
space = 32

-- The decimal digits of x, at most k of them.
unfoldable pub digits : ℕ → ℕ → List ℕ
digits zero x = []
digits (suc k) x = pick (ltb x 10) ((48 + x) ∷ []) (digits k (x / 10) ++ ((48 + x % 10) ∷ []))

-- "It prints decimal numbers": a 64-bit number has at most twenty digits.
abbrev pub decimal : ℕ → List ℕ
decimal x = digits 20 x

-- What digits are worth after the value v: each digit counts ten times what follows it.
unfoldable pub worth : ℕ → List ℕ → ℕ
worth v [] = v
worth v (b ∷ l) = worth (10 * v + (b - 48)) l

-- Only digits.
pub data Digits : List ℕ → Type 0 where
  none : Digits []
  digit : {b : ℕ} {l : List ℕ} → 48 ≤ b → b ≤ 57 → Digits l → Digits (b ∷ l)

-- A number at the front of some bytes: its value and the bytes after it, or that there is none.
pub data Read : Type 0 where
  read : ℕ → List ℕ → Read
  unread : Read

abbrev pub is_digit : ℕ → Bool
is_digit b = leb 48 b and leb b 57

-- More digits of a number whose value so far is v, up to a byte that is none. It may not pass `most`.
unfoldable pub read_on : ℕ → ℕ → List ℕ → Read
read_on most v [] = read v []
read_on most v (b ∷ l) =
    pick (is_digit b) (pick (leb v ((most - (b - 48)) / 10)) (read_on most (10 * v + (b - 48)) l) unread) (read v (b ∷ l))

-- "Numbers are unsigned, with no leading zero."
unfoldable pub read_number : ℕ → List ℕ → Read
read_number most [] = unread
read_number most (b ∷ l) = pick (eqb b 48) (read 0 l) (pick (is_digit b) (read_on most (b - 48) l) unread)

-- A number after a single space.
unfoldable pub read_next : ℕ → List ℕ → Read
read_next most [] = unread
read_next most (b ∷ l) = pick (eqb b space) (read_number most l) unread

-- A word stands at the front of some bytes.
unfoldable pub starts_with : List ℕ → List ℕ → Bool
starts_with [] l = true
starts_with (w ∷ ws) [] = false
starts_with (w ∷ ws) (b ∷ l) = eqb w b and starts_with ws l

-- The words that a line starts with. Those that take numbers end with a space.
abbrev pub plus_word : List ℕ
plus_word = 43 ∷ (32 ∷ [])

abbrev pub minus_word : List ℕ
minus_word = 45 ∷ (32 ∷ [])

abbrev pub ask_word : List ℕ
ask_word = 63 ∷ (32 ∷ [])

abbrev pub roll_word : List ℕ
roll_word = 114 ∷ (32 ∷ [])

abbrev pub mark_word : List ℕ
mark_word = 109 ∷ []

abbrev pub list_word : List ℕ
list_word = 108 ∷ []

-- The words that are printed: "slot ", "gone ", "at ", "none", "mark ", "back ", "entries ", "no ", "bad".
abbrev pub slot_text : List ℕ
slot_text = 115 ∷ (108 ∷ (111 ∷ (116 ∷ (32 ∷ []))))

abbrev pub gone_text : List ℕ
gone_text = 103 ∷ (111 ∷ (110 ∷ (101 ∷ (32 ∷ []))))

abbrev pub at_text : List ℕ
at_text = 97 ∷ (116 ∷ (32 ∷ []))

abbrev pub none_text : List ℕ
none_text = 110 ∷ (111 ∷ (110 ∷ (101 ∷ [])))

abbrev pub mark_text : List ℕ
mark_text = 109 ∷ (97 ∷ (114 ∷ (107 ∷ (32 ∷ []))))

abbrev pub back_text : List ℕ
back_text = 98 ∷ (97 ∷ (99 ∷ (107 ∷ (32 ∷ []))))

abbrev pub entries_text : List ℕ
entries_text = 101 ∷ (110 ∷ (116 ∷ (114 ∷ (105 ∷ (101 ∷ (115 ∷ (32 ∷ [])))))))

abbrev pub no_text : List ℕ
no_text = 110 ∷ (111 ∷ (32 ∷ []))

abbrev pub bad_text : List ℕ
bad_text = 98 ∷ (97 ∷ (100 ∷ []))
