-- What a public routine answers, as the rules number it.
use Rattle.std.specs.Prelude.{◌≡◌, ℕ, ◌+◌, ◌*◌, eqb}
use Rattle.slots.specs.Words.{null, pick}

-- What comes with a number: nothing, or a number of its own (a slot, the lines undone).
pub data Value : Type 0 where
  none : Value
  some : ℕ → Value

-- The number of the rules, 0 where the call is not refused, and the value that comes with it.
pub record Answer : Type 0 where
  pub number : ℕ
  pub value : Value

abbrev pub given : ℕ → Answer
given v = record { number = 0; value = some v }

abbrev pub nothing : Answer
nothing = record { number = 0; value = none }

abbrev pub refused : ℕ → Answer
refused n = record { number = n; value = none }

-- The word of an answer is value + 2^32 * number.
-- The value beside a number: the one that comes with it, 0 with a refusal that has none, and bare where nothing comes with number 0.
abbrev pub value_beside : ℕ → ℕ → Value → ℕ
value_beside bare number (some v) = v
value_beside bare number none = pick (eqb number 0) bare 0

abbrev pub word_of : ℕ → Answer → ℕ
word_of bare a = value_beside bare a.number a.value + 4294967296 * a.number

-- "4,294,967,295 for Nothing and Done"
unfoldable pub answer_word : Answer → ℕ
answer_word = word_of null

-- A promise leaves one outcome: any two that it allows are equal.
abbrev pub OneAnswer : {A : Type 0} → (A → Type 0) → Type 0
OneAnswer {A} promised = (a b : A) → promised a → promised b → a ≡ b
